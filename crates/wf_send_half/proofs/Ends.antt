-- Proves that an open exchange of the half can end, and that the half then represents the world after
-- the Done. By cases of the exchange, which sends data or a request.
use Rattle.std.proofs.Common.{◌≡◌, refl, ap, ap₂, sym, ◌∙◌, subst, arith, ℕ, suc, ◌+◌, ◌-◌, ◌<◌, ◌≤◌, ◌%◌, ◌==◌, Bool, true, false, not, ◌||◌, ◌&&◌, if◌then◌else◌, cond, List, [], ◌∷◌, map, length, Option, Some, None, is_some, unwrap_or, max, eq-eqb}
use Rattle.std.specs.Prelude.{count_by, sum_by}
use Rattle.std.proofs.lemmas.Bool.{or_left, ne_eqb}
use Rattle.std.proofs.lemmas.List.{length-map}
use Rattle.std.proofs.lemmas.List.Sums.{sum_by-cons}
use Rattle.wf_frame.specs.declared.notes.ReplyNote.TheVariants.{Done as Ends}
use Rattle.wf_frame.specs.declared.settings.Config.{Config}
use Rattle.wf_frame.specs.Frames.{FrameValue}
use Rattle.wf_def_agreement.specs.Session.{Session, Slot, State, End, no_slot, slot, start_of, next_number, is_settled, is_acknowledged, is_waiting, is_failed}
use Rattle.wf_def_lists.specs.Table.{at, has}
use Rattle.wf_law_rules.proofs.Lemmas.Sums.{sum_put, sum_put_within}
use Rattle.wf_def_world.specs.World.{World, Station, Tid, Exchange, Mpdu, Content, Frames, Request, no_station, no_tid, is_live, session, exchange, without_exchange, is_wide}
use Rattle.wf_def_world.specs.CanSend.{is_request}
use Rattle.wf_def_world.specs.Exchanges.{mpdus_of, no_mpdu, numbers_unsent, numbers_given_up, numbers_arrived, is_acked, end_at_once, end_of, is_far, after_charge, with_all_settled, caught_up_if_plain, count_in, charge_of}
use Rattle.wf_def_world.specs.Step.{done_outcome}
use Rattle.wf_law_runs.specs.Room.{unsettled_of, in_windows_of, in_windows}
use Rattle.wf_law_runs.specs.Sent.{HasSome, NumbersRise}
use Rattle.wf_law_runs.specs.Attempts.{IsTried}
use Rattle.wf_law_runs.specs.Tallies.{AddsUp}
use Rattle.wf_law_runs.specs.Windows.{EachMpdu, EachOpen, IsPending}
use Rattle.wf_law_runs.proofs.Attempts.Law.{attempts_law}
use Rattle.wf_law_runs.proofs.Frames.Tallies.{tally_law}
use Rattle.wf_law_runs.proofs.Sent.Law.{sent_law}
use Rattle.wf_law_runs.proofs.Releases.Kept.{keep_ended, keep_caught_up}
use Rattle.wf_law_runs.proofs.Windows.Sides.{slot_plain}
use Rattle.wf_send_parts.specs.Tally.{Counts, held_in}
use Rattle.wf_frame.specs.Classes.{tid_number}
use Rattle.wf_queue_flows.specs.Flows.{SettingsValue}
use Rattle.wf_queue_flows_refines.proofs.Readers.{same_total}
use Rattle.wf_send_parts.proofs.Numbers.{open_number}
use Rattle.wf_send_parts.proofs.Callers.{heard_near}
use Rattle.wf_send_parts.specs.Window.{WindowValue, WindowStandsFor as WindowStandsFor, on_air}
use Rattle.wf_octets.specs.Distance.{distance}
use Rattle.wf_send_parts.specs.Windows.{WindowsHaveRoom, window_of, with_window}
use Rattle.wf_send_parts.specs.Ending.{Ending, IsFlyingIn, AreFlying}
use Rattle.wf_send_parts.proofs.Ends.{still_fly}
use Rattle.wf_send_parts.specs.declared.exchanges.opened.Open.{Open}
use Rattle.wf_send_parts.specs.declared.exchanges.opened.Sending.TheVariants.{Data, Request as Starts_at}
use Rattle.wf_send_half_model.specs.Half.{TransmitValue}
use Rattle.wf_send_half_model.specs.Standing.{sending_of, open_of, numbers_on_air, Parts, StandsFor}
use Rattle.wf_send_half_model.specs.Ending.{after_close, ending_of, is_sent_once, IsEnding}
use Rattle.wf_send_half_model.specs.Views.{Agreements}
use Rattle.wf_send_half_model.proofs.Reached.{by_law}
use Rattle.wf_send_half_model.proofs.Dropping.{held_counted, finished_known}
use Rattle.wf_send_half_model.proofs.Leavings.{HasPlace, has_place}
use Rattle.wf_send_half_model.proofs.Endings.{found, begins, from_first, open_sent, of_windows, open_live, closed_agreements}
use Rattle.wf_send_half_model.proofs.FitMarks.{unsent_at, given_up_at}
use Rattle.wf_send_half_model.proofs.Marking.{each_at}
use Rattle.wf_send_half_model.proofs.Repeats.{sent_once}
use Rattle.wf_send_half_model.proofs.Dones.{data_world, done_reply, pending, request_tid, unheard_parts, heard_parts}
use Rattle.wf_send_half.specs.Bits.{is_shown, end_of_index, is_last_of, report_of, EndAlike, CanFinish, IsToSettle, ended_reply, GoesBy}
use Rattle.wf_send_half_model.specs.Pulling.{is_wide_of}
use Rattle.wf_send_half_model.proofs.Pulls.{wide_same}
use Rattle.wf_send_half.specs.Counts.{count_of, AreCounted}
use Rattle.wf_send_half.specs.declared.finish.Ended.{Ended}
use Rattle.wf_send_half.specs.declared.finish.Report.{Report}
use Rattle.wf_send_half.proofs.Settling.{shown_on_air}

-- ---- as many numbers fly as frames are held at them

as_one : Bool → ℕ
as_one b = cond b 1 0

flown_few : (numbers : List ℕ) (y : Session) (ending : Ending) → AreFlying y ending numbers →
    length numbers ≤ count_by (λ x. not (is_settled x.state)) y.slots
unfolding as_one
flown_few [] y ending flying = omega arith
flown_few (n ∷ ns) y ending flying =
    let first : IsFlyingIn y ending n = flying.each n (or_left (n == n) (has ns n) (eq-eqb n n refl)) in
    let open_one : is_settled (slot y n).state ≡ false = ap is_settled first.flies in
    let below : n - y.first < length y.slots = omega
    (arith, (open_number y n (n % 4096) first.from_first open_one refl).given, first.from_first) in
    let f : Slot → ℕ = λ x. cond (not (is_settled x.state)) 1 0 in
    let one : cond (not (is_settled (slot y n).state)) 1 0 ≡ as_one true =
    ap (λ (b : Bool). as_one (not b)) open_one in
    omega (
      arith,
      one,
      sum_put_within f no_slot y.slots (n - y.first)
          (record (slot y n) { state = State.Acked }) below,
      flown_few ns _ ending (still_fly End.Acknowledged y ending n ns flying),
    )

of_station : (o : Option Station) → sum_by unsettled_of (unwrap_or o no_station).tids ≡ in_windows_of o
of_station None = refl
of_station (Some x) = refl

in_session : (w : World) (s t : ℕ) → count_by (λ x. not (is_settled x.state)) (session w s t).slots
    ≤ in_windows w
in_session w s t =
    let tids : List Tid = (unwrap_or (at None w.stations s) no_station).tids in
    omega (
      arith,
      sum_put unsettled_of no_tid tids t no_tid refl,
      of_station (at None w.stations s),
      sum_put in_windows_of None w.stations s None refl,
    )

-- ---- how numbers end by their indices

-- the end of each number, by the index of its first transmission
ends_by : (ℕ → ℕ → End) → ℕ → List Mpdu → ℕ → End
ends_by f i [] n = End.Missed
ends_by f i (m ∷ ms) n = if m.number == n then f i (on_air n) else ends_by f (suc i) ms n

alike_as : (f : ℕ → ℕ → End) (p q : ℕ → End) (i : ℕ) (ms : List Mpdu) →
    EachMpdu (λ m. p m.number ≡ q m.number) ms → EndAlike f p i ms → EndAlike f q i ms
alike_as f p q i [] same h = tt
alike_as f p q i (m ∷ ms) same h = (h.0 ∙ same.0, alike_as f p q (suc i) ms same.1 h.1)

by_alike : (f : ℕ → ℕ → End) (i lo : ℕ) (ms : List Mpdu) → NumbersRise lo ms →
    EndAlike f (ends_by f i ms) i ms
unfolding ends_by
by_alike f i lo [] rises = tt
by_alike f i lo (m ∷ ms) rises = (
  sym (ap (λ (b : Bool). if b then f i (on_air m.number) else ends_by f (suc i) ms m.number)
      (eq-eqb m.number m.number refl)),
  alike_as f (ends_by f (suc i) ms) (ends_by f i (m ∷ ms)) (suc i) ms
      (later ms (from_first (suc m.number) ms rises.1)) (by_alike f (suc i) (suc m.number) ms rises.1),
)
  where
    later : (ks : List Mpdu) → EachMpdu (λ k. suc m.number ≤ k.number) ks →
        EachMpdu (λ k. ends_by f (suc i) ms k.number
        ≡ (if m.number == k.number then f i (on_air k.number) else ends_by f (suc i) ms k.number)) ks
    later [] past = tt
    later (k ∷ ks) past = (
      sym (ap (λ (b : Bool). if b then f i (on_air k.number) else ends_by f (suc i) ms k.number)
          (ne_eqb m.number k.number (λ e. absurd (omega (arith, e, past.0))))),
      later ks past.1,
    )

all_alike : (f : ℕ → ℕ → End) (p : ℕ → End) (i : ℕ) (ms : List Mpdu) →
    ((j : ℕ) → j < length ms → f (i + j) (on_air (at no_mpdu ms j).number) ≡ p (at no_mpdu ms j).number) →
    EndAlike f p i ms
all_alike f p i [] h = tt
all_alike f p i (m ∷ ms) h =
    let here : i + 0 ≡ i = omega arith in (
      subst (λ (j : ℕ). f j (on_air m.number) ≡ p m.number) here (h 0 (omega arith)),
      all_alike f p (suc i) ms (λ j low.
          let next : i + suc j ≡ suc i + j = omega arith in
          subst (λ (k : ℕ). f k (on_air (at no_mpdu ms j).number) ≡ p (at no_mpdu ms j).number) next
          (h (suc j) (omega (arith, low)))),
    )

-- a number that is not sent again ends at once
at_once : (shown far given_up : Bool) →
    (if shown then End.Acknowledged else if far || given_up then End.GivenUp else End.Missed)
    ≡ (if far then end_at_once (if shown then End.Acknowledged else if given_up then End.GivenUp else
    End.Missed)
    else (if shown then End.Acknowledged else if given_up then End.GivenUp else End.Missed))
at_once true true given_up = refl
at_once true false given_up = refl
at_once false true true = refl
at_once false true false = refl
at_once false false given_up = refl

-- the same tests give the same end; what shows a number counts only if it went on the
-- air, and of a batch it is what arrived; what is sent once only ends at once
by_tests : (batch a b c d k f g once far : Bool) → a ≡ b → (batch ≡ false → b ≡ false → c ≡ d) →
    (batch ≡ true → b ≡ false → c ≡ k) → f ≡ g → once ≡ far →
    (if a then End.Unsent else if c then End.Acknowledged else if (batch || once) || f then End.GivenUp
    else End.Missed)
    ≡ (if batch then (if b then End.Unsent else if k then End.Acknowledged else End.GivenUp)
    else if far then end_at_once (if b then End.Unsent else if d then End.Acknowledged
    else if g then End.GivenUp else End.Missed)
    else (if b then End.Unsent else if d then End.Acknowledged else if g then End.GivenUp else End.Missed))
by_tests true true true c d k f g once far first shown there last same = refl
by_tests true true false c d k f g once far first shown there last same = absurd (cc first)
by_tests true false true c d k f g once far first shown there last same = absurd (cc first)
by_tests true false false c d k f g once far first shown there last same =
    ap (λ (x : Bool). if x then End.Acknowledged else End.GivenUp) (there refl refl)
by_tests false true true c d k f g once true first shown there last same = refl
by_tests false true true c d k f g once false first shown there last same = refl
by_tests false true false c d k f g once far first shown there last same = absurd (cc first)
by_tests false false true c d k f g once far first shown there last same = absurd (cc first)
by_tests false false false c d k f g once far first shown there last same =
    ap₂ (λ (x y : Bool). if x then End.Acknowledged else if y then End.GivenUp else End.Missed)
    (shown refl refl) (ap₂ (λ (x y : Bool). x || y) same last)
    ∙ at_once d far g

-- ---- the numbers after the window caught up

count_caught : (p : State → Bool) (w : World) (s t : ℕ) (ms : List Mpdu) →
    count_of w s t ms p ≡ count_of (caught_up_if_plain w s t) s t ms p
count_caught p w s t [] = refl
count_caught p w s t (m ∷ ms) =
    let u : World = caught_up_if_plain w s t in
    let f : Mpdu → ℕ = λ k. cond (p (slot (session w s t) k.number).state) 1 0 in
    let g : Mpdu → ℕ = λ k. cond (p (slot (session u s t) k.number).state) 1 0 in
    omega (
      arith,
      sum_by-cons f m ms,
      sum_by-cons g m ms,
      count_caught p w s t ms,
      ap {B = ℕ} (λ (y : Slot). cond (p y.state) 1 0) (slot_plain w s t s t m.number),
    )

counted_caught : (w : World) (s t : ℕ) (ms : List Mpdu) (ended : Ended) → AreCounted w s t ms ended →
    AreCounted (caught_up_if_plain w s t) s t ms ended
counted_caught w s t ms ended h = record {
  acked = h.acked ∙ count_caught is_acknowledged w s t ms;
  waiting = h.waiting ∙ count_caught is_waiting w s t ms;
  failed = h.failed ∙ count_caught is_failed w s t ms;
}

-- ---- an exchange of data

-- its transmissions in the world
pub record IsData (c : Content) (numbers : List ℕ) : Type 0 where
  pub mpdus : List Mpdu
  pub content : c ≡ Frames mpdus
  pub air : numbers ≡ numbers_on_air mpdus

pub is_data : (c : Content) (numbers : List ℕ) → sending_of c ≡ Data numbers → IsData c numbers
is_data (Frames mpdus) numbers e = record { mpdus = mpdus; content = refl; air = cc e }
is_data (Request start) numbers e = absurd (cc e)

-- the transmission of a request
pub record IsRequest (c : Content) (seq : ℕ) : Type 0 where
  pub start : ℕ
  pub content : c ≡ Request start
  pub air : seq ≡ start % 4096

pub is_request_of : (c : Content) (seq : ℕ) → sending_of c ≡ Starts_at seq → IsRequest c seq
is_request_of (Frames mpdus) seq e = absurd (cc e)
is_request_of (Request start) seq e = record { start = start; content = refl; air = cc e }

record HasFirst (ms : List Mpdu) : Type 0 where
  first : Mpdu
  behind : List Mpdu
  is : ms ≡ first ∷ behind

some_first : (ms : List Mpdu) → 1 ≤ length ms → HasFirst ms
some_first [] h = absurd (omega (arith, h))
some_first (m ∷ ms) h = record { first = m; behind = ms; is = refl }

module _ (v : TransmitValue) (w : World) (bodies : ℕ → FrameValue) (h : StandsFor v w bodies) (e : ℕ)
    (x : Exchange) (known : exchange w e ≡ Some x) (air : Option ℕ) where
  abbrev closed : World
  closed = after_charge (without_exchange w x.number) x air

  tried : (ms : List Mpdu) → EachMpdu (λ m. (slot (session w x.station x.tid) m.number).state
      ≡ State.Flying x.number) ms → EachMpdu (λ k. (slot (session w x.station x.tid) k.number).attempts
      < w.config.attempts) ms
  tried [] k = tt
  tried (m ∷ ms) k =
      let law : IsTried w.config.attempts (slot (session w x.station x.tid) m.number) =
      by_law (λ u. IsTried w.config.attempts (slot (session u x.station x.tid) m.number)) w h.reached
      (λ i. attempts_law w.config h.reached.history h.reached.in_range i x.station x.tid m.number) in
      (law.fewer (ap is_failed k.0), tried ms k.1)

  module _ (numbers : List ℕ) (is : sending_of x.content ≡ Data numbers) where
    pub sends : IsData x.content numbers
    sends = is_data x.content numbers is

    abbrev ms : List Mpdu
    ms = sends.mpdus

    content_is : mpdus_of x.content ≡ ms
    content_is = ap mpdus_of sends.content

    some_sent : 1 ≤ length ms
    some_sent =
        let sent : EachOpen HasSome w.opened = by_law (λ u. EachOpen HasSome u.opened) w h.reached
        (λ m. (sent_law w.config h.reached.history m).some h.reached.in_range h.reached.lengths.1) in
        subst (λ (l : List Mpdu). 1 ≤ length l) content_is
        (found HasSome w.opened e x known sent (ap is_request sends.content))

    -- the settling of its numbers begins
    pub begun : (ends : ℕ → End) →
        IsEnding (after_close v (open_of x) (charge_of air x)) closed bodies x.station x.tid
        x.number ends ms (with_all_settled closed x.station x.tid ends ms)
    begun ends =
        let f : HasFirst ms = some_first ms some_sent in
        let both : mpdus_of x.content ≡ f.first ∷ f.behind = content_is ∙ f.is in
        subst (λ (l : List Mpdu). IsEnding
        (after_close v (open_of x) (charge_of air x)) closed bodies x.station x.tid
        x.number
        ends l (with_all_settled closed x.station x.tid ends l)) (sym f.is)
        (begins v w bodies h e x known ends f.first f.behind both
        (tried (f.first ∷ f.behind) (subst (EachMpdu (λ m. (slot (session w x.station x.tid) m.number).state
        ≡ State.Flying x.number)) both (of_windows v w bodies h e x known).flies)) air)

    same_session : session closed x.station x.tid ≡ session w x.station x.tid
    same_session = ap (λ (a : Agreements). a.sessions x.station x.tid) (closed_agreements w x air)

    few : length ms ≤ in_windows w
    few =
        let left = begun (λ n. End.Missed) in
        let flying : AreFlying (session w x.station x.tid) (ending_of closed.config x.number
        (λ n. End.Missed))
        (map (λ m. m.number) ms) =
        subst (λ (y : Session). AreFlying y (ending_of closed.config x.number (λ n. End.Missed))
        (map (λ m. m.number) ms)) same_session left.flying in
        omega (
          arith,
          flown_few (map (λ m. m.number) ms) (session w x.station x.tid)
              (ending_of closed.config x.number (λ n. End.Missed)) flying,
          in_session w x.station x.tid,
          length-map ms (λ (m : Mpdu). m.number),
        )

    -- and there is room to finish each of its frames
    pub place : CanFinish (after_close v (open_of x) (charge_of air x)) (length numbers)
    place =
        let room : HasPlace w.config.room w = has_place w h.reached in
        let flows = h.parts.others.flows in
        let same_room : v.flows.backlog.room ≡ w.config.room =
        ap (λ (c : SettingsValue). c.room) flows.settings in
        let adds : AddsUp w = by_law AddsUp w h.reached (tally_law w.config h.reached.history) in
        let total : length numbers ≡ length ms = ap (length {A = ℕ}) sends.air
        ∙ length-map ms (λ m. m.number % 4096) in
        record {
          room = omega (
            arith,
            room.placed,
            room.within,
            same_room,
            total,
            few,
            same_total v.flows w flows,
            finished_known v.flows w flows,
          );
          held = subst (λ (c : Counts). length numbers ≤ held_in c) (sym h.parts.others.tally)
              (omega (arith, adds, held_counted w, room.placed, total, few));
        }

    -- each number ends so by its index, by the report on its transmission
    pub ends_alike : (r : Report) (answered : Bool) → r.last ≡ is_last_of v (open_of x) → r.unsent ≡ x.unsent
        →
        r.given_up ≡ x.given_up → r.wide ≡ is_wide w x.station x.tid → GoesBy w x r.heard answered →
        EndAlike (end_of_index r) (end_of w x answered) 0 ms
    ends_alike r answered once unsent given_up wide goes =
        all_alike (end_of_index r) (end_of w x answered) 0 ms (λ i low.
        let m : Mpdu = at no_mpdu ms i in
        let here : 0 + i ≡ i = omega arith in
        let first : has r.unsent (0 + i) ≡ has (numbers_unsent x) m.number =
        ap₂ (λ (l : List ℕ) (j : ℕ). has l j) unsent here
        ∙ sym (unsent_at w h.reached e x ms known sends.content i low) in
        let last : has r.given_up (0 + i) ≡ has (numbers_given_up x) m.number =
        ap₂ (λ (l : List ℕ) (j : ℕ). has l j) given_up here
        ∙ sym (given_up_at w h.reached e x ms known sends.content i low) in
        let alike : has (numbers_unsent x) m.number ≡ false →
        is_shown r.wide r.heard (on_air m.number) ≡ is_shown (is_wide w x.station x.tid) r.heard m.number =
        λ _. shown_on_air r.wide r.heard m.number
        ∙ ap (λ (b : Bool). is_shown b r.heard m.number) wide in
        let told : x.batch ≡ false → has (numbers_unsent x) m.number ≡ false →
        is_acked answered x.answer m.number ≡ is_shown (is_wide w x.station x.tid) r.heard m.number =
        λ no. each_at (λ k. has (numbers_unsent x) k.number ≡ false →
        is_acked answered x.answer k.number ≡ is_shown (is_wide w x.station x.tid) r.heard k.number) ms i low
        (subst (EachMpdu (λ k. has (numbers_unsent x) k.number ≡ false →
        is_acked answered x.answer k.number ≡ is_shown (is_wide w x.station x.tid) r.heard k.number))
        content_is (goes.numbers no)) in
        let there : x.batch ≡ true → has (numbers_unsent x) m.number ≡ false →
        has (numbers_arrived x) m.number ≡ is_shown (is_wide w x.station x.tid) r.heard m.number =
        λ yes. each_at (λ k. has (numbers_unsent x) k.number ≡ false →
        has (numbers_arrived x) k.number ≡ is_shown (is_wide w x.station x.tid) r.heard k.number) ms i low
        (subst (EachMpdu (λ k. has (numbers_unsent x) k.number ≡ false →
        has (numbers_arrived x) k.number ≡ is_shown (is_wide w x.station x.tid) r.heard k.number))
        content_is (goes.arrived yes)) in
        ap (λ (b : Bool). if has r.unsent (0 + i) then End.Unsent
        else if is_shown r.wide r.heard (on_air m.number) then End.Acknowledged
        else if b || has r.given_up (0 + i) then End.GivenUp
        else End.Missed) once
        ∙ by_tests x.batch (has r.unsent (0 + i)) (has (numbers_unsent x) m.number)
        (is_shown r.wide r.heard (on_air m.number)) (is_acked answered x.answer m.number)
        (has (numbers_arrived x) m.number) (has r.given_up (0 + i)) (has (numbers_given_up x) m.number)
        (is_sent_once v (open_of x)) (x.plain && is_far (session w x.station x.tid) m.number) first
        (λ no sent. alike sent ∙ sym (told no sent)) (λ yes sent. alike sent ∙ sym (there yes sent)) last
        (each_at (λ k. is_sent_once v (open_of x) ≡ x.plain && is_far (session w x.station x.tid) k.number)
        ms i low (sent_once v w bodies h e x known ms sends.content)))

    -- after its numbers are settled, the half represents the world after the Done
    module _ (z : TransmitValue) (ended : Ended) (answered : Bool) where
      abbrev settled_all : World
      settled_all = with_all_settled closed x.station x.tid (end_of w x answered) ms

      same_world : (done_outcome w x answered air).world ≡ caught_up_if_plain settled_all x.station x.tid
      same_world = data_world w x answered air ms sends.content

      pub live_settled : is_live settled_all x.station ≡ true
      live_settled = sym ((keep_caught_up settled_all x.station x.tid).live x.station)
          ∙ (sym (ap (λ (u : World). is_live u x.station) same_world)
          ∙ ((keep_ended air w x answered).live x.station ∙ open_live w h.reached e x known))

      pub data_parts : Parts z (caught_up_if_plain settled_all x.station x.tid) bodies →
          Parts z (done_outcome w x answered air).world bodies
      data_parts parts = subst (λ (u : World). Parts z u bodies) (sym same_world) parts

      pub data_reply : AreCounted settled_all x.station x.tid ms ended →
          ended_reply ended ≡ (done_outcome w x answered air).reply
      data_reply counted =
          let c : AreCounted (done_outcome w x answered air).world x.station x.tid
          (mpdus_of x.content) ended =
          subst (λ (l : List Mpdu). AreCounted (done_outcome w x answered air).world x.station x.tid l ended)
          (sym content_is)
          (subst (λ (u : World). AreCounted u x.station x.tid ms ended) (sym same_world)
          (counted_caught settled_all x.station x.tid ms ended counted)) in
          ap₂ (λ (i j : ℕ). Ends i j ended.failed) c.acked c.waiting
          ∙ ap (λ (k : ℕ). Ends (count_in (done_outcome w x answered air).world x is_acknowledged)
          (count_in (done_outcome w x answered air).world x is_waiting) k) c.failed
          ∙ sym (done_reply w x answered air)

  -- ---- an exchange of a request

  module _ (seq : ℕ) (is : sending_of x.content ≡ Starts_at seq) where
    asked : IsRequest x.content seq
    asked = is_request_of x.content seq is

    live : is_live w x.station ≡ true
    live = open_live w h.reached e x known

    waits : IsPending asked.start (session w x.station x.tid)
    waits = pending v w bodies h e x known asked.start asked.content

    pub low : x.tid < 8
    low = request_tid v w bodies h e x known asked.start asked.content

    pub near : distance (window_of v.windows x.station x.tid).start seq + length
        (window_of v.windows x.station x.tid).places ≤ (window_of v.windows x.station x.tid).size
    near = heard_near (window_of v.windows x.station x.tid) (session w x.station x.tid) bodies
        (h.parts.windows.all.stands x.station x.tid live low) asked.start seq asked.air waits.start waits.next

    request_reply : (answered : Bool) → Ends 0 0 0 ≡ (done_outcome w x answered air).reply
    request_reply answered =
        let none : mpdus_of x.content ≡ [] = ap mpdus_of asked.content in
        let u : World = (done_outcome w x answered air).world in
        let count : (p : State → Bool) → 0 ≡ count_in u x p =
        λ p. ap (λ (l : List Mpdu). count_by (λ (m : Mpdu).
        p (slot (session u x.station x.tid) m.number).state) l) (sym none) in
        ap₂ (λ (i j : ℕ). Ends i j 0) (count is_acknowledged) (count is_waiting)
        ∙ ap (λ (k : ℕ). Ends (count_in u x is_acknowledged) (count_in u x is_waiting) k)
        (count is_failed) ∙ sym (done_reply w x answered air)

    pub reply_by : (heard : Option (ℕ × List ℕ)) (answered : Bool) → GoesBy w x heard answered →
        Ends 0 0 0 ≡ (done_outcome w x answered air).reply
    reply_by heard answered goes = request_reply answered

    answered_is : (heard : Option (ℕ × List ℕ)) (answered : Bool) → GoesBy w x heard answered →
        answered ≡ is_some heard
    answered_is heard answered goes = goes.request (ap is_request asked.content)

    pub lost_parts : (heard : Option (ℕ × List ℕ)) (answered : Bool) → GoesBy w x heard answered →
        is_some heard ≡ false → Parts (after_close v (open_of x) (charge_of air x)) (done_outcome w x answered
        air).world bodies
    lost_parts heard answered goes off =
        subst (λ (b : Bool). Parts (after_close v (open_of x) (charge_of air x))
        (done_outcome w x b air).world bodies)
        (sym (answered_is heard answered goes ∙ off))
        (unheard_parts v w bodies h e x known asked.start asked.content air)

    pub told_parts : (heard : Option (ℕ × List ℕ)) (answered : Bool) → GoesBy w x heard answered →
        is_some heard ≡ true → (windows : List WindowValue) → WindowsHaveRoom windows →
        windows ≡ with_window v.windows x.station x.tid (window_of windows x.station x.tid) →
        ((y : Session) (bs : ℕ → FrameValue) (f : ℕ) →
        WindowStandsFor (window_of v.windows x.station x.tid) y bs → seq ≡ f % 4096 → f ≤ start_of y →
        next_number y ≤ f + y.size →
        WindowStandsFor (window_of windows x.station x.tid) (record y { heard = max y.heard f }) bs) →
        Parts (record (after_close v (open_of x) (charge_of air x)) { windows = windows })
        (done_outcome w x answered air).world bodies
    told_parts heard answered goes on windows room others stands =
        let z : WindowValue = window_of windows x.station x.tid in
        let now = stands (session w x.station x.tid) bodies asked.start
        (h.parts.windows.all.stands x.station x.tid live low) asked.air waits.start waits.next in
        let there : Parts (record (after_close v (open_of x) (charge_of air x)) {
          windows =
              with_window v.windows x.station x.tid z;
        }) (done_outcome w x true air).world bodies =
        heard_parts v w bodies h e x known asked.start asked.content air z
        (subst WindowsHaveRoom others room) now in
        subst (λ (b : Bool). Parts
        (record (after_close v (open_of x) (charge_of air x)) { windows = windows })
        (done_outcome w x b air).world bodies) (sym (answered_is heard answered goes ∙ on))
        (subst (λ (l : List WindowValue). Parts
        (record (after_close v (open_of x) (charge_of air x)) { windows = l })
        (done_outcome w x true air).world bodies) (sym others) there)

  -- ---- for the half after the exchange is closed, and its entry of the exchange

  module _ (self : TransmitValue) (o : Open) (same : o ≡ open_of x)
      (closed_is : self ≡ after_close v o (charge_of air
      x))
    where
      carried : (P : Open → TransmitValue → Type 0) →
          P (open_of x) (after_close v (open_of x) (charge_of air x)) →
          P o self
      carried P p = subst (P o) (sym closed_is)
          (subst (λ k. P k (after_close v k (charge_of air x))) (sym same) p)

      there : is_live w x.station ≡ true
      there = open_live w h.reached e x known

      pub station_within : o.station < self.config.stations
      station_within = carried (λ k z. k.station < z.config.stations) (omega (
        arith,
        h.parts.others.turns.live x.station there,
        ap (λ (k : Config). k.stations) h.parts.others.config,
      ))

      within : x.tid < 8 → tid_number x.station x.tid < length v.windows
      within low = omega (arith, h.parts.windows.sized, h.parts.others.turns.live x.station there, low)

      pub data_tid : (numbers : List ℕ) → o.sending ≡ Data numbers → o.tid < 8
      data_tid numbers = carried (λ k z. k.sending ≡ Data numbers → k.tid < 8)
          (λ is. (begun numbers is (λ n. End.Missed)).tid)

      pub data_within : (numbers : List ℕ) → o.sending ≡ Data numbers →
          tid_number o.station o.tid < length self.windows
      data_within numbers = carried (λ k z. k.sending ≡ Data numbers →
          tid_number k.station k.tid < length z.windows) (λ is. within (begun numbers is
          (λ n. End.Missed)).tid)

      pub data_place : (numbers : List ℕ) → o.sending ≡ Data numbers → CanFinish self (length numbers)
      data_place numbers = carried (λ k z. k.sending ≡ Data numbers → CanFinish z (length numbers))
          (place numbers)

      pub data_some : (numbers : List ℕ) (r : Report) → o.sending ≡ Data numbers →
          IsToSettle self o.station o.tid numbers (end_of_index r)
      data_some numbers r = carried (λ k z. k.sending ≡ Data numbers →
          IsToSettle z k.station k.tid numbers (end_of_index r))
          (λ is. let ms : List Mpdu = (sends numbers is).mpdus in
          let ends : ℕ → End = ends_by (end_of_index r) 0 ms in record {
            world = closed;
            bodies = bodies;
            exchange = x.number;
            ends = ends;
            mpdus = ms;
            after = with_all_settled closed x.station x.tid ends ms;
            ending = begun numbers is ends;
            alike = by_alike (end_of_index r) 0 (session w x.station x.tid).first ms
                (subst (λ (c : Content). NumbersRise (session w x.station x.tid).first (mpdus_of c))
                (sends numbers is).content (open_sent w h.reached e x known).rising);
            numbers_are = (sends numbers is).air;
          })

      module _ (numbers : List ℕ) (r : Report) (heard : Option (ℕ × List ℕ)) (answered : Bool)
          (goes : GoesBy w x heard answered) (is_report : r ≡ report_of self o heard) where
        told_wide : r.wide ≡ is_wide_of self o.station o.tid
        told_wide = ap (λ (k : Report). k.wide) is_report

        goes_here : GoesBy w x r.heard answered
        goes_here = subst (λ (k : Option (ℕ × List ℕ)). GoesBy w x k answered)
            (sym (ap (λ (k : Report). k.heard) is_report)) goes

        wide_is : (is : sending_of x.content ≡ Data numbers) → r.wide ≡ is_wide_of v x.station x.tid →
            r.wide ≡ is_wide w x.station x.tid
        wide_is is told = told ∙ wide_same v w bodies x.station x.tid h.parts there
            (begun numbers is (λ n. End.Missed)).tid

        last_is : r.last ≡ is_last_of v (open_of x)
        last_is = ap (λ (k : Report). k.last) is_report
            ∙ carried (λ k z. is_last_of z k ≡ is_last_of v (open_of x)) refl

        alike : (is : sending_of x.content ≡ Data numbers) → r.wide ≡ is_wide_of v x.station x.tid →
            EndAlike (end_of_index r) (end_of w x answered) 0 (sends numbers is).mpdus
        alike is told = ends_alike numbers is r answered
            last_is
            (ap (λ (k : Report). k.unsent) is_report ∙ ap (λ (k : Open). k.unsent) same)
            (ap (λ (k : Report). k.given_up) is_report ∙ ap (λ (k : Open). k.given_up) same)
            (wide_is is told) goes_here

        pub data_settled : (z y : TransmitValue) → o.sending ≡ Data numbers →
            ((u after : World) (bs : ℕ → FrameValue) (n : ℕ) (ends : ℕ → End) (mpdus : List Mpdu) →
            IsEnding self u bs o.station o.tid n ends mpdus after → EndAlike (end_of_index r) ends 0 mpdus →
            numbers ≡ numbers_on_air mpdus → Parts z after bs) →
            ((u : World) (bs : ℕ → FrameValue) → Parts z u bs → is_live u o.station ≡ true →
            Parts y (caught_up_if_plain u o.station o.tid) bs) →
            Parts y (done_outcome w x answered air).world bodies
        data_settled z y sends_data = carried (λ k c. k.sending ≡ Data numbers →
            r.wide ≡ is_wide_of c k.station k.tid →
            ((u after : World) (bs : ℕ → FrameValue) (n : ℕ) (ends : ℕ → End) (mpdus : List Mpdu) →
            IsEnding c u bs k.station k.tid n ends mpdus after → EndAlike (end_of_index r) ends 0 mpdus →
            numbers ≡ numbers_on_air mpdus → Parts z after bs) →
            ((u : World) (bs : ℕ → FrameValue) → Parts z u bs → is_live u k.station ≡ true →
            Parts y (caught_up_if_plain u k.station k.tid) bs) →
            Parts y (done_outcome w x answered air).world bodies)
            (λ is told all caught.
            let none : Ended = record { acked = 0; waiting = 0; failed = 0 } in
            data_parts numbers is y none answered
            (caught _ bodies (all closed _ bodies x.number (end_of w x answered) (sends numbers is).mpdus
            (begun numbers is (end_of w x answered)) (alike is told) (sends numbers is).air)
            (live_settled numbers is y none answered)))
            sends_data told_wide

        pub data_told : (ended : Ended) → o.sending ≡ Data numbers →
            ((u after : World) (bs : ℕ → FrameValue) (n : ℕ) (ends : ℕ → End) (mpdus : List Mpdu) →
            IsEnding self u bs o.station o.tid n ends mpdus after → EndAlike (end_of_index r) ends 0 mpdus →
            numbers ≡ numbers_on_air mpdus → AreCounted after o.station o.tid mpdus ended) →
            ended_reply ended ≡ (done_outcome w x answered air).reply
        data_told ended sends_data = carried (λ k y. k.sending ≡ Data numbers →
            r.wide ≡ is_wide_of y k.station k.tid →
            ((u after : World) (bs : ℕ → FrameValue) (n : ℕ) (ends : ℕ → End) (mpdus : List Mpdu) →
            IsEnding y u bs k.station k.tid n ends mpdus after → EndAlike (end_of_index r) ends 0 mpdus →
            numbers ≡ numbers_on_air mpdus → AreCounted after k.station k.tid mpdus ended) →
            ended_reply ended ≡ (done_outcome w x answered air).reply)
            (λ is told all. data_reply numbers is v ended answered
            (all closed _ bodies x.number (end_of w x answered) (sends numbers is).mpdus
            (begun numbers is (end_of w x answered)) (alike is told) (sends numbers is).air))
            sends_data told_wide

      -- a request
      pub request_low : (seq : ℕ) → o.sending ≡ Starts_at seq → o.tid < 8
      request_low seq = carried (λ k z. k.sending ≡ Starts_at seq → k.tid < 8) (low seq)

      pub request_within : (seq : ℕ) → o.sending ≡ Starts_at seq →
          tid_number o.station o.tid < length self.windows
      request_within seq = carried (λ k z. k.sending ≡ Starts_at seq →
          tid_number k.station k.tid < length z.windows) (λ is. within (low seq is))

      pub request_near : (seq : ℕ) → o.sending ≡ Starts_at seq →
          distance (window_of self.windows o.station o.tid).start seq + length
          (window_of self.windows o.station o.tid).places ≤ (window_of self.windows o.station o.tid).size
      request_near seq = carried (λ k z. k.sending ≡ Starts_at seq →
          distance (window_of z.windows k.station k.tid).start seq + length
          (window_of z.windows k.station k.tid).places ≤ (window_of z.windows k.station k.tid).size)
          (near seq)

      pub request_told : (seq : ℕ) (heard : Option (ℕ × List ℕ)) (answered : Bool) →
          GoesBy w x heard answered →
          o.sending ≡ Starts_at seq → Ends 0 0 0 ≡ (done_outcome w x answered air).reply
      request_told seq heard answered goes = carried
          (λ k z. k.sending ≡ Starts_at seq → Ends 0 0 0 ≡ (done_outcome w x answered air).reply)
          (λ is. reply_by seq is heard answered goes)

      pub request_lost : (seq : ℕ) (heard : Option (ℕ × List ℕ)) (answered : Bool) →
          GoesBy w x heard answered →
          is_some heard ≡ false → o.sending ≡ Starts_at seq →
          Parts self (done_outcome w x answered air).world bodies
      request_lost seq heard answered goes off = carried
          (λ k z. k.sending ≡ Starts_at seq → Parts z (done_outcome w x answered air).world bodies)
          (λ is. lost_parts seq is heard answered goes off)

      pub request_heard : (seq : ℕ) (heard : Option (ℕ × List ℕ)) (answered : Bool) →
          GoesBy w x heard answered → is_some heard ≡ true → (windows : List WindowValue) →
          WindowsHaveRoom windows → o.sending ≡ Starts_at seq →
          windows ≡ with_window self.windows o.station o.tid (window_of windows o.station o.tid) →
          ((y : Session) (bs : ℕ → FrameValue) (f : ℕ) →
          WindowStandsFor (window_of self.windows o.station o.tid) y bs → seq ≡ f % 4096 → f ≤ start_of y →
          next_number y ≤ f + y.size →
          WindowStandsFor (window_of windows o.station o.tid) (record y { heard = max y.heard f }) bs) →
          Parts (record self { windows = windows }) (done_outcome w x answered air).world bodies
      request_heard seq heard answered goes on windows room = carried (λ k z. k.sending ≡ Starts_at seq →
          windows ≡ with_window z.windows k.station k.tid (window_of windows k.station k.tid) →
          ((y : Session) (bs : ℕ → FrameValue) (f : ℕ) →
          WindowStandsFor (window_of z.windows k.station k.tid) y bs → seq ≡ f % 4096 → f ≤ start_of y →
          next_number y ≤ f + y.size →
          WindowStandsFor (window_of windows k.station k.tid) (record y { heard = max y.heard f }) bs) →
          Parts (record z { windows = windows }) (done_outcome w x answered air).world bodies)
          (λ is. told_parts seq is heard answered goes on windows room)
