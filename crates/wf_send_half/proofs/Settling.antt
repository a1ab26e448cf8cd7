-- Proves the settling of an aggregate, number by number.
use Rattle.std.proofs.Common.{◌≡◌, ◌≢◌, nat_le, length-append, append_assoc, append-nil, refl, ap, ap₂, sym, ◌∙◌, subst, arith, ℕ, zero, suc, add-zero, ◌+◌, ◌-◌, ◌<◌, ◌≤◌, nat_lt, Bool, true, false, not, ◌&&◌, ◌||◌, cond, if◌then◌else◌, List, [], ◌∷◌, ◌++◌, map, take, length, Option, Some, None}
use Rattle.std.specs.Prelude.{slice_get, count_by}
use Rattle.std.proofs.lemmas.List.{length-map, take_all}
use Rattle.std.proofs.lemmas.List.Sums.{sum_by-cons}
use Rattle.wf_frame.specs.declared.classes.Cause.TheVariants.{Overlimit, Codel, Retries, Left, Flushed, Ended as By_end}
use Rattle.wf_frame.specs.declared.classes.Fate.{Fate}
use Rattle.wf_frame.specs.declared.classes.Fate.TheVariants.{Held, Acked as Is_acked, Dropped}
use Rattle.wf_frame.specs.declared.settings.Config.{Config}
use Rattle.wf_frame.specs.Frames.{FrameValue}
use Rattle.wf_def_agreement.specs.Session.{Session, Slot, State, End, slot, after_end, is_acknowledged, is_waiting, is_failed}
use Rattle.wf_def_lists.specs.Table.{has}
use Rattle.wf_def_world.specs.World.{World, Mpdu, session}
use Rattle.wf_def_world.specs.Exchanges.{with_settled}
use Rattle.wf_frame.specs.Classes.{tid_number}
use Rattle.wf_send_parts.specs.Tally.{held_in, settled_as}
use Rattle.wf_octets.specs.Distance.{distance}
use Rattle.wf_send_parts.specs.Answers.{settling_answer, with_fate}
use Rattle.wf_send_parts.specs.declared.window.window.Settled.{Settled}
use Rattle.wf_send_parts.specs.declared.window.window.Settled.TheVariants.{Acked, Waiting, Failed}
use Rattle.wf_send_parts.specs.Window.{WindowValue, WindowStandsFor as WindowStandsFor, IsNumber, on_air}
use Rattle.wf_send_parts.specs.Ending.{Ending, all_settled, HasLeft, IsSettledNext}
use Rattle.wf_send_parts.specs.Windows.{WindowsHaveRoom, window_of, with_window}
use Rattle.wf_send_parts.proofs.Ends.{ending_number, ending_flies}
use Rattle.wf_send_half_model.specs.Half.{TransmitValue}
use Rattle.wf_send_half_model.specs.Standing.{numbers_on_air, Parts}
use Rattle.wf_send_half_model.specs.Ending.{after_finish, after_answer, ending_of, IsEnding, state_left}
use Rattle.wf_send_half_model.proofs.Settles.{ending_next_one, ending_done}
use Rattle.wf_send_half_model.proofs.Ended.{state_at_end}
use Rattle.wf_send_half.specs.declared.finish.Ended.{Ended}
use Rattle.wf_send_half.specs.declared.finish.Report.{Report}
use Rattle.wf_send_half.specs.Bits.{is_shown, count_shown, without_unsent, end_of_index, EndAlike, CanFinish, IsToSettle, with_one_more, all_ended}
use Rattle.wf_send_half.specs.Counts.{count_of, AreCounted, HasFate}

-- ---- whether a number is shown depends on it modulo 4096

distance_on_air : (n b : ℕ) → distance (on_air n) b ≡ distance n b
distance_on_air n b = omega arith

pub shown_on_air : (wide : Bool) (heard : Option (ℕ × List ℕ)) (n : ℕ) →
    is_shown wide heard (on_air n) ≡ is_shown wide heard n
shown_on_air wide None n = refl
shown_on_air wide (Some score) n = ap (λ (d : ℕ). nat_lt d (if wide then 256 else 64) && has score.1 d)
    (distance_on_air n score.0)

-- ---- the number that is settled next

-- the first of these transmissions has a number that is seq modulo 4096
pub record IsNext (left : List Mpdu) (seq : ℕ) : Type 0 where
  pub mpdu : Mpdu
  pub behind : List Mpdu
  pub first : left ≡ mpdu ∷ behind
  pub air : seq ≡ on_air mpdu.number

next_of : (before left : List Mpdu) (seq : ℕ) →
    slice_get (numbers_on_air (before ++ left)) (length before) ≡ Some seq → IsNext left seq
next_of [] [] seq e = absurd (cc e)
next_of [] (m ∷ ms) seq e = record { mpdu = m; behind = ms; first = refl; air = cc e }
next_of (k ∷ ks) left seq e = next_of ks left seq e

-- after i numbers: the transmissions `before` are settled, and `left` are not yet
pub record HasSettled (v : TransmitValue) (bodies : ℕ → FrameValue) (s t e : ℕ) (by_index : ℕ → ℕ → End)
    (ends : ℕ → End) (i : ℕ) (mpdus : List Mpdu) (after : World) (ended : Ended) : Type 0 where
  pub world : World
  pub before : List Mpdu
  pub left : List Mpdu
  pub all : before ++ left ≡ mpdus
  pub count : length before ≡ i
  pub ending : IsEnding v world bodies s t e ends left after
  pub alike : EndAlike by_index ends i left
  pub counted : AreCounted after s t before ended

pub record IsSettling (start v : TransmitValue) (s t : ℕ) (numbers : List ℕ) (r : Report) (i : ℕ)
    (ended : Ended) : Type 0 where
  pub low : i ≤ length numbers
  pub config : v.config ≡ start.config
  pub place : CanFinish v (length numbers - i)
  pub few : all_ended ended ≡ i
  pub shown : ended.acked ≡ count_shown r.wide r.heard (without_unsent 0 r.unsent (take i numbers))
  pub each : (w after : World) (bodies : ℕ → FrameValue) (e : ℕ) (ends : ℕ → End) (mpdus : List Mpdu) →
      IsEnding start w bodies s t e ends mpdus after → EndAlike (end_of_index r) ends 0 mpdus →
      numbers ≡ numbers_on_air mpdus →
      HasSettled v bodies s t e (end_of_index r) ends i mpdus after ended

pub settling_begins : (v : TransmitValue) (s t : ℕ) (numbers : List ℕ) (r : Report) →
    CanFinish v (length numbers) → IsSettling v v s t numbers r 0
    (record { acked = 0; waiting = 0; failed = 0 })
settling_begins v s t numbers r place = record {
  low = omega arith;
  config = refl;
  place = record { room = omega (arith, place.room); held = omega (arith, place.held) };
  few = refl;
  shown = refl;
  each = λ w after bodies e ends mpdus ending alike is. record {
    world = w;
    before = [];
    left = mpdus;
    all = refl;
    count = refl;
    ending = ending;
    alike = alike;
    counted = record { acked = refl; waiting = refl; failed = refl };
  };
}

-- ---- one number

-- a window may settle a number, with this result
module _ (v : TransmitValue) (w : World) (bodies : ℕ → FrameValue) (s t e : ℕ) (ends : ℕ → End) (m : Mpdu)
    (ms : List Mpdu) (after : World) (ending : IsEnding v w bodies s t e ends (m ∷ ms) after) (seq : ℕ)
    (air : seq ≡ on_air m.number) where
  abbrev window : WindowValue
  window = window_of v.windows s t

  stands : WindowStandsFor window (session w s t) bodies
  stands = ending.parts.windows.all.stands s t ending.live ending.tid

  abbrev ending_e : Ending
  ending_e = ending_of w.config e ends

  abbrev numbers : List ℕ
  numbers = map (λ k. k.number) ms

  abbrev begun : HasLeft window bodies ending_e (m.number ∷ numbers)
      (all_settled ending_e (m.number ∷ numbers) (session w s t))
  begun = record { now = session w s t; stands = stands; flying = ending.flying; leads = refl }

  pub is_number : IsNumber (session w s t) m.number seq
  is_number = ending_number window bodies ending_e m.number numbers
      (all_settled ending_e (m.number ∷ numbers) (session w s t)) begun seq air

  pub may_settle : IsSettledNext window seq v.config.attempts
  may_settle = subst (λ (c : Config). IsSettledNext window seq c.attempts) (sym ending.parts.others.config)
      (ending_flies window bodies ending_e m.number numbers
      (all_settled ending_e (m.number ∷ numbers) (session w s t)) begun seq air)

-- one more number is counted
count_more : (p : State → Bool) (after : World) (s t : ℕ) (m : Mpdu) (ms : List Mpdu) →
    count_of after s t (ms ++ m ∷ []) p ≡ count_of after s t ms p + cond
    (p (slot (session after s t) m.number).state) 1 0
count_more p after s t m [] = omega (
  arith,
  sum_by-cons
      (λ (k : Mpdu). cond (p (slot (session after s t) k.number).state) 1 0) m [],
)
count_more p after s t m (k ∷ ks) =
    let f : Mpdu → ℕ = λ k. cond (p (slot (session after s t) k.number).state) 1 0 in
    omega (arith, sum_by-cons f k ks, sum_by-cons f k (ks ++ m ∷ []), count_more p after s t m ks)

as_one : Bool → ℕ
as_one b = cond b 1 0

counted_more : (after : World) (s t : ℕ) (m : Mpdu) (ms : List Mpdu) (ended : Ended) (a : Settled) →
    (slot (session after s t) m.number).state ≡ state_left a → AreCounted after s t ms ended →
    AreCounted after s t (ms ++ m ∷ []) (with_one_more ended a)
unfolding as_one
counted_more after s t m ms ended a is h =
    by_answer a (count_then is_acknowledged) (count_then is_waiting) (count_then is_failed)
  where
    count_then : (p : State → Bool) → count_of after s t (ms ++ m ∷ []) p
        ≡ count_of after s t ms p + as_one (p (state_left a))
    count_then p = count_more p after s t m ms ∙ ap
        (λ (z : State). count_of after s t ms p + cond (p z) 1 0) is

    by_answer : (b : Settled) → count_of after s t (ms ++ m ∷ []) is_acknowledged
        ≡ count_of after s t ms is_acknowledged + as_one (is_acknowledged (state_left b)) →
        count_of after s t (ms ++ m ∷ []) is_waiting ≡ count_of after s t ms is_waiting + as_one
        (is_waiting (state_left b)) →
        count_of after s t (ms ++ m ∷ []) is_failed ≡ count_of after s t ms is_failed + as_one
        (is_failed (state_left b)) → AreCounted after s t (ms ++ m ∷ []) (with_one_more ended b)
    by_answer (Acked f) x y z = record {
      acked = omega (arith, x, h.acked);
      waiting =
          omega (arith, y, h.waiting);
      failed = omega (arith, z, h.failed);
    }
    by_answer Waiting x y z = record {
      acked = omega (arith, x, h.acked);
      waiting =
          omega (arith, y, h.waiting);
      failed = omega (arith, z, h.failed);
    }
    by_answer (Failed f) x y z = record {
      acked = omega (arith, x, h.acked);
      waiting =
          omega (arith, y, h.waiting);
      failed = omega (arith, z, h.failed);
    }

-- whether the number is acknowledged
acks : End → Bool
acks End.Acknowledged = true
acks End.Missed = false
acks End.GivenUp = false
acks End.Unsent = false

-- an acknowledged number is one more
acked_more : (end : End) (limit : ℕ) (bodies : ℕ → FrameValue) (x : Slot) (ended : Ended) →
    (with_one_more ended (settling_answer end limit bodies x)).acked ≡ ended.acked + as_one (acks end)
unfolding as_one acks
acked_more End.Acknowledged limit bodies x ended = omega arith
acked_more End.Missed limit bodies x ended = by_limit (nat_le limit (x.attempts + 1))
  where
    by_limit : (c : Bool) → (with_one_more ended (if c then Failed (with_fate (Dropped Retries) (bodies x.id))
        else Waiting)).acked ≡ ended.acked + as_one false
    by_limit true = omega arith
    by_limit false = omega arith
acked_more End.GivenUp limit bodies x ended = omega arith
acked_more End.Unsent limit bodies x ended = omega arith

-- a number is acknowledged if it is shown and went on the air
acks_at : (r : Report) (i n : ℕ) → acks (end_of_index r i n) ≡
    (not (has r.unsent i) && is_shown r.wide r.heard n)
unfolding acks
acks_at r i n = go (has r.unsent i) (is_shown r.wide r.heard n) (r.last || has r.given_up i)
  where
    go : (unsent shown given_up : Bool) → acks (if unsent then End.Unsent else if shown then End.Acknowledged
        else if given_up then End.GivenUp else End.Missed) ≡ (not unsent && shown)
    go true shown given_up = refl
    go false true given_up = refl
    go false false true = refl
    go false false false = refl

-- one more number is shown, if it went on the air
shown_more : (p : ℕ → Bool) (unsent : List ℕ) (k : ℕ) (numbers : List ℕ) (i n : ℕ) →
    slice_get numbers i ≡ Some n → count_by p (without_unsent k unsent (take (i + 1) numbers))
    ≡ count_by p (without_unsent k unsent (take i numbers)) + as_one (not (has unsent (k + i)) && p n)
unfolding as_one
shown_more p unsent k [] i n is = absurd (cc is)
shown_more p unsent k (x ∷ xs) zero n is =
    let same : n ≡ x = sym (cc is) in
    let here : k + 0 ≡ k = omega arith in
    let test : as_one (not (has unsent (k + 0)) && p n) ≡ as_one (not (has unsent k) && p x) =
    ap₂ (λ (j m : ℕ). as_one (not (has unsent j) && p m)) here same in
    omega (arith, first (has unsent k), test)
  where
    first : (off : Bool) → count_by p (if off then [] else x ∷ []) ≡ as_one (not off && p x)
    first true = refl
    first false = sum_by-cons (λ (m : ℕ). cond (p m) 1 0) x [] ∙ add-zero _
shown_more p unsent k (x ∷ xs) (suc i) n is =
    let later : count_by p (without_unsent (suc k) unsent (take (i + 1) xs))
    ≡ count_by p (without_unsent (suc k) unsent (take i xs))
    + as_one (not (has unsent (suc k + i)) && p n) =
    shown_more p unsent (suc k) xs i n is in
    let same : suc k + i ≡ k + suc i = omega arith in
    let more : suc i + 1 ≡ suc (i + 1) = omega arith in
    ap (λ (j : ℕ). count_by p (without_unsent k unsent (take j (x ∷ xs)))) more
    ∙ then_later (has unsent k) (without_unsent (suc k) unsent (take (i + 1) xs))
    (without_unsent (suc k) unsent (take i xs))
    (later ∙ ap (λ (j : ℕ). count_by p (without_unsent (suc k) unsent (take i xs))
    + as_one (not (has unsent j) && p n)) same)
  where
    then_later : (off : Bool) (ys zs : List ℕ) →
        count_by p ys ≡ count_by p zs + as_one (not (has unsent (k + suc i)) && p n) →
        count_by p (if off then ys else x ∷ ys)
        ≡ count_by p (if off then zs else x ∷ zs) + as_one (not (has unsent (k + suc i)) && p n)
    then_later true ys zs h = h
    then_later false ys zs h = omega (
      arith,
      h,
      sum_by-cons (λ (m : ℕ). cond (p m) 1 0) x ys,
      sum_by-cons (λ (m : ℕ). cond (p m) 1 0) x zs,
    )

one_more : (ended : Ended) (a : Settled) → all_ended (with_one_more ended a) ≡ all_ended ended + 1
one_more ended (Acked f) = omega arith
one_more ended Waiting = omega arith
one_more ended (Failed f) = omega arith

-- a frame that is finished was outside the queues before
finish_leaves : (v : TransmitValue) (n : ℕ) (f : FrameValue) → f.fate ≢ Held → CanFinish v (suc n) →
    CanFinish (after_finish v f) n
finish_leaves v n f settled place = record {
  room = omega (arith, place.room, length-append v.flows.backlog.finished (f ∷ []));
  held = one_less f.fate settled;
}
  where
    one_less : (fate : Fate) → fate ≢ Held → n ≤ held_in (settled_as fate v.tally)
    one_less Held other = absurd (other refl)
    one_less Is_acked other = omega (arith, place.held)
    one_less (Dropped Overlimit) other = omega (arith, place.held)
    one_less (Dropped Codel) other = omega (arith, place.held)
    one_less (Dropped Retries) other = omega (arith, place.held)
    one_less (Dropped Left) other = omega (arith, place.held)
    one_less (Dropped Flushed) other = omega (arith, place.held)
    one_less (Dropped By_end) other = omega (arith, place.held)

fewer : (v : TransmitValue) (n : ℕ) → CanFinish v (suc n) → CanFinish v n
fewer v n place = record { room = omega (arith, place.room); held = omega (arith, place.held) }

answer_leaves : (v : TransmitValue) (n : ℕ) (a : Settled) → HasFate a → CanFinish v (suc n) →
    CanFinish (after_answer v a) n
answer_leaves v n (Acked f) fate place = finish_leaves v n f fate place
answer_leaves v n Waiting fate place = fewer v n place
answer_leaves v n (Failed f) fate place = finish_leaves v n f fate place

same_config : (v : TransmitValue) (a : Settled) → (after_answer v a).config ≡ v.config
same_config v (Acked f) = refl
same_config v Waiting = refl
same_config v (Failed f) = refl

-- a window returns no frame that is still held
answer_fate : (end : End) (limit : ℕ) (bodies : ℕ → FrameValue) (x : Slot) →
    HasFate (settling_answer end limit bodies x)
answer_fate End.Acknowledged limit bodies x = λ e. cc e
answer_fate End.GivenUp limit bodies x = λ e. cc e
answer_fate End.Unsent limit bodies x = tt
answer_fate End.Missed limit bodies x = by_limit (nat_le limit (x.attempts + 1))
  where
    by_limit : (c : Bool) → HasFate (if c then Failed (with_fate (Dropped Retries) (bodies x.id))
        else Waiting)
    by_limit true = λ e. cc e
    by_limit false = tt

-- ---- in the loop

module _ {start v : TransmitValue} {s t : ℕ} {numbers : List ℕ} {r : Report} {i : ℕ} {ended : Ended} where
  -- an equal half is settled as far
  pub settling_at : {u : TransmitValue} → u ≡ v → IsSettling start v s t numbers r i ended →
      IsSettling start u s t numbers r i ended
  settling_at same so_far =
      subst (λ (z : TransmitValue). IsSettling start z s t numbers r i ended) (sym same) so_far

  -- the limit of the half at the start, whose fields are x, is still the setting
  pub limit_at : {x : TransmitValue} → x ≡ start → IsSettling start v s t numbers r i ended →
      x.config.attempts ≡ v.config.attempts
  limit_at same so_far = ap (λ (z : TransmitValue). z.config.attempts) same
      ∙ ap (λ (k : Config). k.attempts) (sym so_far.config)

  pub all_shown : IsSettling start v s t numbers r i ended → length numbers ≤ i →
      ended.acked ≡ count_shown r.wide r.heard (without_unsent 0 r.unsent numbers)
  all_shown so_far all = so_far.shown
      ∙ ap (λ (l : List ℕ). count_shown r.wide r.heard (without_unsent 0 r.unsent l)) (take_all i numbers all)

module _ {start v : TransmitValue} {s t : ℕ} {numbers : List ℕ} {r : Report} {i : ℕ} {ended : Ended}
    (so_far : IsSettling start v s t numbers r i ended) {seq : ℕ}
    (at_i : slice_get numbers i ≡ Some seq) where
  next_in : (bodies : ℕ → FrameValue) (e : ℕ) (ends : ℕ → End) (mpdus : List Mpdu) (after : World) →
      numbers ≡ numbers_on_air mpdus →
      (h : HasSettled v bodies s t e (end_of_index r) ends i mpdus after ended) → IsNext h.left seq
  next_in bodies e ends mpdus after is h =
      next_of h.before h.left seq (ap₂ (λ (l : List ℕ) (k : ℕ). slice_get l k)
      (ap numbers_on_air h.all ∙ sym is) h.count ∙ at_i)

  module _ (some : IsToSettle start s t numbers (end_of_index r)) where
    at_some : HasSettled v some.bodies s t some.exchange (end_of_index r) some.ends i some.mpdus some.after
        ended
    at_some = so_far.each some.world some.after some.bodies some.exchange some.ends some.mpdus some.ending
        some.alike some.numbers_are

    next : IsNext at_some.left seq
    next = next_in some.bodies some.exchange some.ends some.mpdus some.after some.numbers_are at_some

    ending_here : IsEnding v at_some.world some.bodies s t some.exchange some.ends
        (next.mpdu ∷ next.behind) some.after
    ending_here = subst (λ (l : List Mpdu). IsEnding v at_some.world some.bodies s t some.exchange some.ends l
        some.after) next.first at_some.ending

    pub next_settles : IsSettledNext (window_of v.windows s t) seq v.config.attempts
    next_settles = may_settle v at_some.world some.bodies s t some.exchange some.ends next.mpdu next.behind
        some.after ending_here seq next.air

    pub next_within : tid_number s t < length v.windows
    next_within =
        let parts = ending_here.parts in
        omega (arith, parts.windows.sized, parts.others.turns.live s ending_here.live, ending_here.tid)

    -- the result of the window
    module _ {windows : List WindowValue} {a : Settled} {end : End} {limit : ℕ}
        (end_is : end ≡ end_of_index r i seq) (limit_is : limit ≡ v.config.attempts)
        (room : WindowsHaveRoom windows)
        (stands_then : (y : Session) (bodies : ℕ → FrameValue) (n : ℕ) →
        WindowStandsFor (window_of v.windows s t) y bodies → IsNumber y n seq →
        WindowStandsFor (window_of windows s t) (after_end limit end n y) bodies)
        (answer : (y : Session) (bodies : ℕ → FrameValue) (n : ℕ) →
        WindowStandsFor (window_of v.windows s t) y bodies → IsNumber y n seq →
        a ≡ settling_answer end limit bodies (slot y n))
        (others : windows ≡ with_window v.windows s t (window_of windows s t)) where
      abbrev slot_here : Slot
      slot_here = slot (session at_some.world s t) next.mpdu.number

      answer_here : a ≡ settling_answer end limit some.bodies slot_here
      answer_here = answer (session at_some.world s t) some.bodies next.mpdu.number
          (stands v at_some.world some.bodies s t some.exchange some.ends next.mpdu next.behind some.after
          ending_here seq next.air) (is_number v at_some.world some.bodies s t some.exchange some.ends
          next.mpdu next.behind some.after ending_here seq next.air)

      pub fate_given : HasFate a
      fate_given = subst HasFate (sym answer_here) (answer_fate end limit some.bodies slot_here)

      shown_next : (with_one_more ended a).acked
          ≡ count_shown r.wide r.heard (without_unsent 0 r.unsent (take (i + 1) numbers))
      shown_next =
          let one : (with_one_more ended a).acked ≡ ended.acked + as_one (acks end) =
          subst (λ (z : Settled). (with_one_more ended z).acked ≡ ended.acked + as_one (acks end))
          (sym answer_here) (acked_more end limit some.bodies slot_here ended) in
          let from_0 : 0 + i ≡ i = omega arith in
          omega (
            arith,
            one,
            shown_more (is_shown r.wide r.heard) r.unsent 0 numbers i seq at_i,
            so_far.shown,
            ap (λ (x : End). as_one (acks x)) end_is ∙ ap as_one (acks_at r i seq)
                ∙ ap (λ (j : ℕ). as_one (not (has r.unsent j) && is_shown r.wide r.heard seq)) (sym from_0),
          )

      abbrev moved : TransmitValue
      moved = record v { windows = windows }

      settled_next : (bodies : ℕ → FrameValue) (e : ℕ) (ends : ℕ → End) (mpdus : List Mpdu) (after : World) →
          numbers ≡ numbers_on_air mpdus →
          HasSettled v bodies s t e (end_of_index r) ends i mpdus after ended →
          HasSettled (after_answer moved a) bodies s t e (end_of_index r) ends (i + 1) mpdus after
          (with_one_more ended a)
      settled_next bodies e ends mpdus after is h =
          let k : IsNext h.left seq = next_in bodies e ends mpdus after is h in
          let m : Mpdu = k.mpdu in
          let y : Session = session h.world s t in
          let here : IsEnding v h.world bodies s t e ends (m ∷ k.behind) after =
          subst (λ (l : List Mpdu). IsEnding v h.world bodies s t e ends l after) k.first h.ending in
          let both : EndAlike (end_of_index r) ends i (m ∷ k.behind) =
          subst (EndAlike (end_of_index r) ends i) k.first h.alike in
          let x : WindowValue = window_of windows s t in
          let standing : WindowStandsFor (window_of v.windows s t) y bodies =
          stands v h.world bodies s t e ends m k.behind after here seq k.air in
          let number : IsNumber y m.number seq = is_number v h.world bodies s t e ends m k.behind after here
          seq k.air in
          let same : end ≡ ends m.number = end_is ∙ ap (end_of_index r i) k.air ∙ both.0 in
          let told : a ≡ settling_answer (ends m.number) v.config.attempts bodies (slot y m.number) =
          answer y bodies m.number standing number ∙ ap₂
          (λ (c : End) (l : ℕ). settling_answer c l bodies (slot y m.number)) same limit_is in
          let now : WindowStandsFor x (after_end v.config.attempts (ends m.number) m.number y) bodies =
          subst (λ (l : ℕ). WindowStandsFor x (after_end l (ends m.number) m.number y) bodies) limit_is
          (subst (λ (c : End). WindowStandsFor x (after_end limit c m.number y) bodies) same
          (stands_then y bodies m.number standing number)) in
          let then_is = ending_next_one v h.world bodies s t e ends m k.behind after x here
          (subst WindowsHaveRoom others room) now in
          let joined : (h.before ++ m ∷ []) ++ k.behind ≡ mpdus =
          append_assoc h.before (m ∷ []) k.behind ∙ ap (λ (l : List Mpdu). h.before ++ l) (sym k.first)
          ∙ h.all in
          let next_index : suc i ≡ i + 1 = omega arith in
          record {
            world = with_settled h.world s t (ends m.number) m;
            before = h.before ++ m ∷ [];
            left = k.behind;
            all = joined;
            count = omega (arith, length-append h.before (m ∷ []), h.count);
            ending = subst (λ (l : List WindowValue). IsEnding (after_answer (record v { windows = l }) a)
                (with_settled h.world s t (ends m.number) m) bodies s t e ends k.behind after) (sym others)
                (subst (λ (z : Settled). IsEnding (after_answer
                (record v { windows = with_window v.windows s t x }) z)
                (with_settled h.world s t (ends m.number) m) bodies s t e ends k.behind after)
                (sym told) then_is);
            alike = subst (λ (j : ℕ). EndAlike (end_of_index r) ends j k.behind) next_index both.1;
            counted = counted_more after s t m h.before ended a
                (state_at_end v h.world bodies s t e ends m k.behind after here ∙ ap state_left (sym told))
                h.counted;
          }

      pub settling_next : i < length numbers → IsSettling start (after_answer moved a) s t numbers r
          (i + 1) (with_one_more ended a)
      settling_next below =
          let rest : length numbers - i ≡ suc (length numbers - (i + 1)) = omega (arith, below) in
          record {
            low = omega (arith, below);
            config = same_config moved a ∙ so_far.config;
            place = answer_leaves moved (length numbers - (i + 1)) a fate_given
                (let p = subst (CanFinish v) rest so_far.place in record { room = p.room; held = p.held });
            few = omega (arith, one_more ended a, so_far.few);
            shown = shown_next;
            each = λ w after bodies e ends mpdus ending alike is. settled_next bodies e ends mpdus after is
                (so_far.each w after bodies e ends mpdus ending alike is);
          }

-- ---- at the end

none_behind : (before left : List Mpdu) → length (before ++ left) ≤ length before → left ≡ []
none_behind before [] h = refl
none_behind before (m ∷ ms) h = absurd (omega (arith, h, length-append before (m ∷ ms)))

module _ {start v : TransmitValue} {s t : ℕ} {numbers : List ℕ} {r : Report} {i : ℕ} {ended : Ended}
    (so_far : IsSettling start v s t numbers r i ended) (all : length numbers ≤ i)
    {w after : World} {bodies : ℕ → FrameValue} {e : ℕ} {ends : ℕ → End} {mpdus : List Mpdu}
    (ending : IsEnding start w bodies s t e ends mpdus after) (alike : EndAlike (end_of_index r) ends 0 mpdus)
    (is : numbers ≡ numbers_on_air mpdus) where
  last : HasSettled v bodies s t e (end_of_index r) ends i mpdus after ended
  last = so_far.each w after bodies e ends mpdus ending alike is

  none_left : last.left ≡ []
  none_left =
      let total : length numbers ≡ length mpdus = ap (length {A = ℕ}) is
      ∙ length-map mpdus (λ m. on_air m.number) in
      none_behind last.before last.left (omega (
        arith,
        total,
        all,
        last.count,
        ap (length {A = Mpdu}) last.all,
      ))

  pub all_stand : Parts v after bodies
  all_stand = ending_done v last.world bodies s t e ends after
      (subst (λ (l : List Mpdu). IsEnding v last.world bodies s t e ends l after) none_left last.ending)

  pub all_counted : AreCounted after s t mpdus ended
  all_counted =
      let whole : last.before ≡ mpdus = sym (append-nil last.before)
      ∙ ap (λ (l : List Mpdu). last.before ++ l) (sym none_left) ∙ last.all in
      subst (λ (l : List Mpdu). AreCounted after s t l ended) whole last.counted
