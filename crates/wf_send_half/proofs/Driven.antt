-- Proves that a half still represents an unheard world after an exchange ends by a BlockAck that a driver
-- heard. The calls that the BlockAck implies change nothing of the half, and make it the answer that the
-- receiver keeps.
use Rattle.std.proofs.Common.{◌≡◌, refl, ap, sym, ◌∙◌, subst, arith, ℕ, suc, ◌==◌, ◌&&◌, not, nat_lt, Bool, true, false, if◌then◌else◌}
use Rattle.std.proofs.Common.{List, [], ◌∷◌, ◌++◌, map, length, Option, Some, None, is_none, is_some, option_map, unwrap_or}
use Rattle.std.specs.Prelude.{find, IfSome, Result, Ok, Err, is_ok, IfErr}
use Rattle.std.proofs.lemmas.Bool.{and_parts}
use Rattle.wf_frame.specs.declared.classes.Class.{Class}
use Rattle.wf_frame.specs.declared.notes.Note.{Note}
use Rattle.wf_frame.specs.declared.notes.Note.TheVariants.{Asked}
use Rattle.wf_frame.specs.declared.notes.Ask.TheVariants.{Done}
use Rattle.wf_frame.specs.declared.notes.Refusal.{Refusal}
use Rattle.wf_frame.specs.declared.notes.Refusal.TheVariants.{NoExchange, NoAnswer, BadAir}
use Rattle.wf_frame.specs.declared.notes.ReplyNote.{ReplyNote}
use Rattle.wf_frame.specs.declared.notes.ReplyNote.TheVariants.{Refused}
use Rattle.wf_frame.specs.Classes.{class_of}
use Rattle.wf_frame.specs.Frames.{FrameValue}
use Rattle.wf_def_lists.specs.Bounds.{narrow_window}
use Rattle.wf_def_lists.specs.Table.{has}
use Rattle.wf_def_agreement.specs.Receiver.{shows}
use Rattle.wf_def_agreement.specs.Session.{Session}
use Rattle.wf_law_rules.proofs.Lemmas.Numbers.{yes_lt}
use Rattle.wf_def_world.specs.World.{World, Exchange, Mpdu, Content, Frames, Request, exchange, is_wide}
use Rattle.wf_def_world.specs.CanSend.{is_request, is_ready}
use Rattle.wf_def_world.specs.Exchanges.{mpdus_of, number_at, numbers_unsent, numbers_arrived}
use Rattle.wf_def_world.specs.Refusals.{refusal}
use Rattle.wf_def_world.specs.Step.{Outcome, step}
use Rattle.wf_def_world.specs.Run.{world_after}
use Rattle.wf_law_runs.specs.Windows.{EachMpdu}
use Rattle.wf_law_runs.specs.Delivery.{is_batch}
use Rattle.wf_send_parts.specs.declared.exchanges.opened.Open.{Open}
use Rattle.wf_law_driver.specs.Inferred.{shown_indices, arrivals, answer_inferred, inferred, tells, after_inferred, done_inferred, KeepsAnswer, KeepsArrived, IsInferred, ShowsSent, shown_of_sent, is_wholly_unsent}
use Rattle.wf_law_driver.specs.Transmit.{KeepsTransmit}
use Rattle.wf_law_driver.specs.Unheard.{unmarked, IsUnmarked, IsSilent, IsUnheard}
use Rattle.wf_law_driver.proofs.Opened.{found_each}
use Rattle.wf_law_driver.proofs.Runs.{inferred_keeps}
use Rattle.wf_law_driver.proofs.Silent.{silent_law}
use Rattle.wf_law_driver.proofs.Inferred.{inferred_law}
use Rattle.wf_law_driver.proofs.Transmit.{transmit_law}
use Rattle.wf_send_half_model.specs.Half.{TransmitValue, is_ready_of}
use Rattle.wf_send_half_model.specs.Standing.{IsReached, StandsFor, Meets, open_of}
use Rattle.wf_send_half_model.proofs.Beyond.{ready_ended}
use Rattle.wf_send_half_model.proofs.Meets.{refused_meets as refused_in}
use Rattle.wf_send_half_model.proofs.Readers.{exchange_same, ready_same}
use Rattle.wf_send_half_model.proofs.Whole.{arrive_stands, answer_stands}
use Rattle.wf_send_half.specs.Bits.{is_shown, IsToldAs, AreShown, AreArrived, is_unanswered, is_answer_impossible, end_refusal, ended_reply}
use Rattle.wf_send_half.specs.Driven.{ended_by, outcome_after_done, world_after_done, IsAfterDone, MeetsUnheard}
use Rattle.wf_send_half.specs.Replies.{reply_of_result}
use Rattle.wf_send_half.specs.declared.finish.Ended.{Ended}
use Rattle.wf_send_half.proofs.Dones.{from_none, refused_done, bad_done, ends_unknown, ends_unanswered, ends_bad, nothing_same, not_true}
use Rattle.wf_send_half.proofs.Worlds.{met_by}
use Rattle.wf_frame.specs.Settings.{is_bad_air}
use Rattle.wf_law_driver.proofs.Ended.{bad_lost, unanswered, refused_step}
use Rattle.wf_frame.specs.declared.settings.Config.{Config}

-- ---- unheard worlds of runs

-- a call that is not about a receiver leads from an unheard world to an unheard world
unheard_step : (w : World) (note : Note) → IsReached w → IsSilent note → IsUnheard w →
    IsUnheard (step w note).world
unheard_step w note r silent =
    subst (λ (u : World). IsUnheard u → IsUnheard (step u note).world) (sym r.after)
    (silent_law w.config r.history note silent)

told_reached : (w : World) (r : IsReached w) (caller e : ℕ) (shown : ℕ → Bool) (air : Option ℕ)
    (x : Exchange) → IsUnheard w → exchange w e ≡ Some x → ShowsSent shown x → is_bad_air w.config air ≡ false
    → IsInferred w caller e shown air x
told_reached w r caller e shown air x =
    subst (λ (u : World). IsUnheard u → exchange u e ≡ Some x → ShowsSent shown x →
    is_bad_air u.config air ≡ false → IsInferred u caller e shown air x) (sym r.after)
    (inferred_law w.config r.history caller e shown air x)

-- ---- the calls that a BlockAck implies

-- they change nothing of the half
told_stands : (v : TransmitValue) (w : World) (bodies : ℕ → FrameValue) → StandsFor v w bodies →
    (caller e : ℕ) (shown : ℕ → Bool) (batch : Bool) (content : Content) →
    StandsFor v (after_inferred w caller e shown batch content) bodies
told_stands v w bodies h caller e shown batch content =
    inferred_keeps (λ u. StandsFor v u bodies) (λ u d i k. arrive_stands v u bodies d i k)
    (λ u d k. answer_stands v u bodies d k) w caller e shown batch content h

-- nor the width of the BlockAcks of each TID
told_wide : (w : World) → IsReached w → (caller e : ℕ) (shown : ℕ → Bool) (batch : Bool) (content : Content)
    (s t : ℕ) → is_wide (after_inferred w caller e shown batch content) s t ≡ is_wide w s t
told_wide w r caller e shown batch content s t =
    let k : KeepsTransmit w = subst KeepsTransmit (sym r.after)
    (transmit_law w.config r.history r.in_range) in
    ap (λ (y : Session). nat_lt narrow_window y.size) ((k.inferred caller e shown batch content).sessions s t)

-- none of these numbers is shown
abbrev NoneOf : (ℕ → Bool) → List Mpdu → Type 0
NoneOf shown ms = EachMpdu (λ m. shown m.number ≡ false) ms

-- a BlockAck that implies no call shows none of an aggregate's numbers
record TellsNothing (caller e : ℕ) (shown : ℕ → Bool) (batch : Bool) (c : Content) : Type 0 where
  data_is : is_request c ≡ false
  none : NoneOf shown (mpdus_of c)
  nothing : inferred caller e shown batch c ≡ []

none_inferred : (batch : Bool) (caller e : ℕ) (is : List ℕ) → is ≡ [] →
    arrivals caller e is ++ answer_inferred batch caller e is ≡ []
none_inferred true caller e [] h = refl
none_inferred false caller e [] h = refl
none_inferred batch caller e (i ∷ is) h = absurd (cc h)

none_shown : (shown : ℕ → Bool) (i : ℕ) (ms : List Mpdu) → shown_indices shown i ms ≡ [] → NoneOf shown ms
none_shown shown i [] h = tt
none_shown shown i (m ∷ ms) h = first (shown m.number) (shown_indices shown (suc i) ms) refl h
    (none_shown shown (suc i) ms)
  where
    first : (b : Bool) (rest : List ℕ) → shown m.number ≡ b → (if b then i ∷ rest else rest) ≡ [] →
        (rest ≡ [] → NoneOf shown ms) →
        NoneOf shown (m ∷ ms)
    first true rest is k later = absurd (cc k)
    first false rest is k later = (is, later k)

tells_nothing : (c : Content) (batch : Bool) (caller e : ℕ) (shown : ℕ → Bool) → tells shown c ≡ false →
    TellsNothing caller e shown batch c
tells_nothing (Request start) batch caller e shown h = absurd (cc h)
tells_nothing (Frames ms) batch caller e shown h = by_indices (shown_indices shown 0 ms) refl
  where
    by_indices : (is : List ℕ) → shown_indices shown 0 ms ≡ is →
        TellsNothing caller e shown batch (Frames ms)
    by_indices [] none = record {
      data_is = refl;
      none = none_shown shown 0 ms none;
      nothing = none_inferred batch caller e (shown_indices shown 0 ms) none;
    }
    by_indices (i ∷ is) some = absurd (cc (some, yes_lt 0 (length (i ∷ is)) (omega arith), h))

-- a request is told whatever is shown
request_tells : (c : Content) (shown : ℕ → Bool) → is_request c ≡ true → tells shown c ≡ true
request_tells (Request start) shown h = refl
request_tells (Frames ms) shown h = absurd (cc h)

world_after_none : (w : World) → world_after w [] ≡ w
unfolding world_after
world_after_none w = refl

told_nothing : (w : World) (caller e : ℕ) (shown : ℕ → Bool) (batch : Bool) (c : Content) →
    TellsNothing caller e shown batch c → after_inferred w caller e shown batch c ≡ w
told_nothing w caller e shown batch c n = ap (world_after w) n.nothing ∙ world_after_none w

-- ---- what a BlockAck shows of the numbers that went on the air

-- the numbers of x, an open exchange of w, that a BlockAck shows and that went on the air
abbrev shown_of : World → Exchange → ℕ × List ℕ → ℕ → Bool
shown_of w x score = shown_of_sent x (is_shown (is_wide w x.station x.tid) (Some score))

sent_by : (shown unsent : Bool) → (shown && not unsent) ≡ true → unsent ≡ false
sent_by true true h = absurd (cc h)
sent_by false true h = absurd (cc h)
sent_by shown false h = refl

shows_by : (shown unsent : Bool) → unsent ≡ false → (shown && not unsent) ≡ shown
shows_by shown true h = absurd (cc h)
shows_by true false h = refl
shows_by false false h = refl

shows_sent : (x : Exchange) (p : ℕ → Bool) → (x.batch ≡ false → is_wholly_unsent x ≡ false) →
    ShowsSent (shown_of_sent x p) x
shows_sent x p some = record { numbers = each (mpdus_of x.content); some = some }
  where
    each : (ms : List Mpdu) → EachMpdu (λ m. shown_of_sent x p m.number ≡ true →
        has (numbers_unsent x) m.number ≡ false) ms
    each [] = tt
    each (m ∷ ms) = (sent_by (p m.number) (has (numbers_unsent x) m.number), each ms)

-- what went on the air is shown by the BlockAck alone
each_of_sent : (un : List ℕ) (p q : ℕ → Bool) (ms : List Mpdu) →
    EachMpdu (λ m. q m.number ≡ (p m.number && not (has un m.number))) ms →
    EachMpdu (λ m. has un m.number ≡ false → q m.number ≡ p m.number) ms
each_of_sent un p q [] h = tt
each_of_sent un p q (m ∷ ms) h = (
  λ sent. h.0 ∙ shows_by (p m.number) (has un m.number) sent,
  each_of_sent un p q ms h.1,
)

none_of_sent : (un : List ℕ) (p : ℕ → Bool) (ms : List Mpdu) →
    NoneOf (λ n. p n && not (has un n)) ms → EachMpdu (λ m. has un m.number ≡ false → p m.number ≡ false) ms
none_of_sent un p [] h = tt
none_of_sent un p (m ∷ ms) h = (
  λ sent. sym (shows_by (p m.number) (has un m.number) sent) ∙ h.0,
  none_of_sent un p ms h.1,
)

-- the answer that is then kept shows the same as the BlockAck
kept_shows : (w u : World) (e : ℕ) (score : ℕ × List ℕ) (x : Exchange) →
    is_wide u x.station x.tid ≡ is_wide w x.station x.tid →
    (k : KeepsAnswer u e (shown_of w x score) x) → AreShown u k.marked k.answer (Some score)
kept_shows w u e score x wide k =
    subst (λ (z : Exchange). EachMpdu (λ m. has (numbers_unsent z) m.number ≡ false → shows k.answer m.number
    ≡ is_shown (is_wide u z.station z.tid) (Some score) m.number) (mpdus_of z.content)) (sym k.same)
    (subst (λ (b : Bool). EachMpdu (λ m. has (numbers_unsent x) m.number ≡ false → shows k.answer m.number
    ≡ is_shown b (Some score) m.number) (mpdus_of x.content)) (sym wide)
    (each_of_sent (numbers_unsent x) (is_shown (is_wide w x.station x.tid) (Some score)) (shows k.answer)
    (mpdus_of x.content) k.shows))

-- exactly those numbers of a batch have then arrived
kept_arrived : (w u : World) (e : ℕ) (score : ℕ × List ℕ) (x : Exchange) →
    is_wide u x.station x.tid ≡ is_wide w x.station x.tid →
    (k : KeepsArrived u e (shown_of w x score) x) → AreArrived u k.marked (Some score)
kept_arrived w u e score x wide k =
    subst (λ (z : Exchange). EachMpdu (λ m. has (numbers_unsent z) m.number ≡ false →
    has (numbers_arrived k.marked) m.number
    ≡ is_shown (is_wide u z.station z.tid) (Some score) m.number) (mpdus_of z.content)) (sym k.same)
    (subst (λ (b : Bool). EachMpdu (λ m. has (numbers_unsent x) m.number ≡ false →
    has (numbers_arrived k.marked) m.number
    ≡ is_shown b (Some score) m.number) (mpdus_of x.content)) (sym wide)
    (each_of_sent (numbers_unsent x) (is_shown (is_wide w x.station x.tid) (Some score))
    (has (numbers_arrived k.marked)) (mpdus_of x.content) k.arrived))

-- if nothing arrived and nothing was heard, exactly the numbers shown arrived
none_arrived : (w : World) (x : Exchange) → x.arrived ≡ [] → AreArrived w x None
none_arrived w x none = each (mpdus_of x.content)
  where
    empty : numbers_arrived x ≡ []
    empty = ap (λ (l : List ℕ). map (number_at x.content) l) none

    each : (ms : List Mpdu) → EachMpdu (λ m. has (numbers_unsent x) m.number ≡ false →
        has (numbers_arrived x) m.number ≡ false) ms
    each [] = tt
    each (m ∷ ms) = (λ sent. ap (λ (l : List ℕ). has l m.number) empty, each ms)

sent_unless : (a b : Bool) → (not a && b) ≡ false → a ≡ false → b ≡ false
sent_unless true b h unbatched = absurd (cc unbatched)
sent_unless false b h unbatched = h

-- ---- an open exchange that is a batch or of which something went on the air, and whose BlockAck was heard

module _ (v : TransmitValue) (w : World) (bodies : ℕ → FrameValue) (h : StandsFor v w bodies)
    (un : IsUnheard w) (e : ℕ) (x : Exchange)
    (known : exchange w e ≡ Some x) (some_sent : x.batch ≡ false → is_wholly_unsent x ≡ false)
    (score : ℕ × List ℕ) (caller : ℕ)
    (air : Option ℕ) (fine : is_bad_air w.config air ≡ false) where
  abbrev shown : ℕ → Bool
  shown = shown_of w x score

  abbrev after : World
  after = after_inferred w caller e shown x.batch x.content

  is_told : IsInferred w caller e shown air x
  is_told = told_reached w h.reached caller e shown air x un known
      (shows_sent x (is_shown (is_wide w x.station x.tid) (Some score)) some_sent) fine

  pub told_unheard : IsUnheard (step after (done_inferred e shown air x.content)).world
  told_unheard = is_told.unheard

  stands_after : StandsFor v after bodies
  stands_after = told_stands v w bodies h caller e shown x.batch x.content

  nothing_told : tells shown x.content ≡ false → TellsNothing caller e shown x.batch x.content
  nothing_told none = tells_nothing x.content x.batch caller e shown none

  -- the exchange is still open then
  record IsOpenThen : Type 0 where
    now : Exchange
    known_then : exchange after e ≡ Some now
    same : unmarked now ≡ unmarked x

  open_then : (batch : Bool) (b : Bool) → x.batch ≡ batch → tells shown x.content ≡ b → IsOpenThen
  open_then true b batched told =
      let k : KeepsArrived after e shown x = is_told.arrived batched in
      record { now = k.marked; known_then = k.open_now; same = k.same }
  open_then false true unbatched some =
      let k : KeepsAnswer after e shown x = is_told.keeps unbatched some in
      record { now = k.marked; known_then = k.open_now; same = k.same }
  open_then false false unbatched none = record {
    now = x;
    known_then = subst (λ (z : World). exchange z e ≡ Some x)
        (sym (told_nothing w caller e shown x.batch x.content (nothing_told none))) known;
    same = refl;
  }

  still_open : IsOpenThen
  still_open = open_then x.batch (tells shown x.content) refl refl

  -- its Done changes no readiness elsewhere
  told_ready : (i : ℕ) (c : Class) → (i ≡ x.station → class_of x.tid ≡ c → ⊥) →
      is_ready (step after (done_inferred e shown air x.content)).world c i ≡ is_ready w c i
  told_ready i c other =
      let o : IsOpenThen = still_open in
      ready_ended after e (tells shown x.content) air o.now stands_after.reached o.known_then i c
      (λ s t. other (s ∙ ap (λ (z : Exchange). z.station) o.same)
      (sym (ap (λ (z : Exchange). class_of z.tid) o.same) ∙ t))
      ∙ sym (ready_same v after bodies c i stands_after.parts)
      ∙ ready_same v w bodies c i h.parts

  module _ (u : TransmitValue) (result : Result Ended Refusal)
      (done : IsAfterDone v u e (Some score) air result) where
    same_wide : is_wide after x.station x.tid ≡ is_wide w x.station x.tid
    same_wide = told_wide w h.reached caller e shown x.batch x.content x.station x.tid

    meets_as : (batch b : Bool) → x.batch ≡ batch → tells shown x.content ≡ b →
        Meets after bodies (Asked (Done e b air)) u (reply_of_result ended_reply result)
    meets_as true b batched told =
        let k : KeepsArrived after e shown x = is_told.arrived batched in
        let request : IsToldAs k.marked (Some score) b = λ is. sym told
        ∙ request_tells x.content shown (sym (ap (λ (z : Exchange). is_request z.content) k.same) ∙ is) in
        done.arrived after bodies k.marked b stands_after k.open_now
        (ap (λ (z : Exchange). z.batch) k.same ∙ batched) request (kept_arrived w after e score x same_wide k)
    meets_as false true unbatched some =
        let k : KeepsAnswer after e shown x = is_told.keeps unbatched some in
        done.shown after bodies k.marked k.answer stands_after k.open_now
        (ap (λ (z : Exchange). z.batch) k.same ∙ unbatched) k.kept
        (kept_shows w after e score x same_wide k)
    meets_as false false unbatched none =
        let n : TellsNothing caller e shown x.batch x.content = nothing_told none in
        subst (λ (z : World). Meets z bodies (Asked (Done e false air)) u
        (reply_of_result ended_reply result))
        (sym (told_nothing w caller e shown x.batch x.content n))
        (done.none_shown w bodies x h known unbatched n.data_is (some_sent unbatched)
        (none_of_sent (numbers_unsent x) (is_shown (is_wide w x.station x.tid) (Some score))
        (mpdus_of x.content) n.none))

    pub told_meets : Meets after bodies (done_inferred e shown air x.content) u
        (reply_of_result ended_reply result)
    told_meets = meets_as x.batch (tells shown x.content) refl refl

-- ---- whatever was heard

-- a refused end is answered by the refusal, and changes nothing
refused_result : (v u : TransmitValue) (e : ℕ) (heard : Option (ℕ × List ℕ)) (air : Option ℕ)
    (r : Result Ended Refusal) (why : Refusal) →
    end_refusal v e heard air ≡ Some why → is_ok r ≡ is_none (end_refusal v e heard air) →
    IfErr r (λ reason. (end_refusal v e heard air ≡ Some reason) × (u ≡ v)) →
    (reply_of_result ended_reply r ≡ Refused why) × (u ≡ v)
refused_result v u e heard air (Ok ended) why is found f = absurd (cc (found, is))
refused_result v u e heard air (Err reason) why is found f = (ap Refused (cc (f.0, is)), f.1)

module _ (v u : TransmitValue) (w : World) (bodies : ℕ → FrameValue) (h : StandsFor v w bodies)
    (un : IsUnheard w)
    (e : ℕ) (heard : Option (ℕ × List ℕ)) (air : Option ℕ) (result : Result Ended Refusal)
    (done : IsAfterDone v u e heard air result) where
  found : find (λ x. x.number == e) v.opened ≡ option_map open_of (exchange w e)
  found = exchange_same v w bodies e h.parts

  none_found : exchange w e ≡ None → None ≡ find (λ x. x.number == e) v.opened
  none_found none = sym (found ∙ ap (option_map open_of) none)

  not_open : exchange w e ≡ None → (reply_of_result ended_reply result ≡ Refused NoExchange) × (u ≡ v)
  not_open none = refused_result v u e heard air result NoExchange
      (ends_unknown v e heard air (none_found none)) done.found
      done.refused

  refused_meets : exchange w e ≡ None → Meets w bodies (Asked (Done e false air)) u
      (reply_of_result ended_reply result)
  refused_meets none =
      let r = not_open none in
      subst (λ (z : ReplyNote). Meets w bodies (Asked (Done e false air)) u z) (sym r.0)
      (met_by v u w bodies (Asked (Done e false air)) (Refused NoExchange) r.1
      (refused_done v w bodies h e false air (none_found none)))

  -- the open exchange in the half
  opened_here : (x : Exchange) → exchange w e ≡ Some x → Some (open_of x) ≡ find (λ y. y.number == e) v.opened
  opened_here x known = sym (found ∙ ap (option_map open_of) known)

  -- whether something was heard of what is no batch and never went on the air
  impossible_is : (x : Exchange) → exchange w e ≡ Some x → is_some heard ≡ true → (none : Bool) →
      (not x.batch && is_wholly_unsent x) ≡ none → is_answer_impossible v e heard ≡ none
  impossible_is x known some none is =
      ap (λ (b : Bool). b && unwrap_or (option_map is_unanswered (find (λ y. y.number == e) v.opened))
      false) some
      ∙ ap (λ (o : Option Open). unwrap_or (option_map is_unanswered o) false)
      (sym (opened_here x known))
      ∙ (ap (λ (b : Bool). not x.batch && b) (nothing_same x) ∙ is)

  bad_meets : (x : Exchange) → exchange w e ≡ Some x → is_some heard ≡ true →
      (not x.batch && is_wholly_unsent x) ≡ false → is_bad_air w.config air ≡ true → Meets w bodies
      (Asked (Done e false air)) u
      (reply_of_result ended_reply result)
  bad_meets x known some sent bad =
      let here : is_bad_air v.config air ≡ true =
      ap (λ (k : Config). is_bad_air k air) h.parts.others.config ∙ bad in
      let r = refused_result v u e heard air result BadAir (ends_bad v e heard air (open_of x)
      (opened_here x known) (impossible_is x known some false sent) here) done.found done.refused in
      subst (λ (z : ReplyNote). Meets w bodies (Asked (Done e false air)) u z) (sym r.0)
      (met_by v u w bodies (Asked (Done e false air)) (Refused BadAir) r.1
      (bad_done v w bodies h e false air (bad_lost w e x air known bad)))

  -- a Done of an exchange of which nothing went on the air, for which something was heard
  unsent_meets : (x : Exchange) → exchange w e ≡ Some x → is_some heard ≡ true →
      (not x.batch && is_wholly_unsent x) ≡ true →
      MeetsUnheard bodies (step w (Asked (Done e true air))) u (reply_of_result ended_reply result)
  unsent_meets x known some none =
      let r = refused_result v u e heard air result NoAnswer (ends_unanswered v e heard air (open_of x)
      (opened_here x known) (impossible_is x known some true none)) done.found done.refused in
      let refused : refusal w (Asked (Done e true air)) ≡ Some NoAnswer =
      unanswered w e x air known (not_true x.batch (and_parts _ _ none).0)
      (found_each IsUnmarked w e x known un.marks).answer in
      let m : Meets w bodies (Asked (Done e true air)) u (Refused NoAnswer) =
      met_by v u w bodies (Asked (Done e true air)) (Refused NoAnswer) r.1
      (refused_in v w bodies (Asked (Done e true air)) NoAnswer h refused (λ i. cc i)) in
      record {
        stands = m.stands;
        unheard = subst IsUnheard
            (sym (ap (λ (o : Outcome). o.world) (refused_step w e true air NoAnswer refused))) un;
        reply = r.0 ∙ m.reply;
      }

  lost_meets : Meets w bodies (Asked (Done e false air)) u (reply_of_result ended_reply result) →
      MeetsUnheard bodies (step w (Asked (Done e false air))) u (reply_of_result ended_reply result)
  lost_meets m = record {
    stands = m.stands;
    unheard = unheard_step w (Asked (Done e false air)) h.reached tt un;
    reply = m.reply;
  }

  -- nothing was heard
  none_meets : heard ≡ None → (o : Option Exchange) → exchange w e ≡ o → (batch : Bool) →
      is_batch o ≡ batch → Meets w bodies (Asked (Done e false air)) u (reply_of_result ended_reply result)
  none_meets none o known false unbatched = from_none _ heard none done.lost w bodies h
      (ap is_batch known ∙ unbatched)
  none_meets none None known true batched = absurd (cc batched)
  none_meets none (Some x) known true batched =
      done.arrived w bodies x false h known batched (λ is. sym (ap is_some none))
      (subst (λ (k : Option (ℕ × List ℕ)). AreArrived w x k) (sym none)
      (none_arrived w x (found_each IsUnmarked w e x known un.marks).arrived))

  by_case : (caller : ℕ) (o : Option (ℕ × List ℕ)) (x : Option Exchange) → heard ≡ o → exchange w e ≡ x →
      MeetsUnheard bodies (ended_by w caller e o air x) u (reply_of_result ended_reply result)
  by_case caller None x none known = lost_meets (none_meets none x known (is_batch x) refl)
  by_case caller (Some score) None some none = lost_meets (refused_meets none)
  by_case caller (Some score) (Some x) some known = on_air (not x.batch && is_wholly_unsent x) refl
    where
      shown_of_x : ℕ → Bool
      shown_of_x = shown_of w x score

      heard_is : is_some heard ≡ true
      heard_is = ap is_some some

      either : (bad : Bool) → is_bad_air w.config air ≡ bad → (not x.batch && is_wholly_unsent x) ≡ false →
          MeetsUnheard bodies (if bad then step w (Asked (Done e false air))
          else step (after_inferred w caller e shown_of_x x.batch x.content)
          (done_inferred e shown_of_x air x.content)) u
          (reply_of_result ended_reply result)
      either true bad sent = lost_meets (bad_meets x known heard_is sent bad)
      either false fine sent =
          let m = told_meets v w bodies h un e x known (sent_unless x.batch _ sent) score caller air fine u
          result
          (subst (λ o. IsAfterDone v u e o air result) some done) in
          record {
            stands = m.stands;
            unheard = told_unheard v w bodies h un e x known (sent_unless x.batch _ sent) score caller air
                fine;
            reply = m.reply;
          }

      on_air : (none : Bool) → (not x.batch && is_wholly_unsent x) ≡ none →
          MeetsUnheard bodies (if none then step w (Asked (Done e true air))
          else if is_bad_air w.config air then step w (Asked (Done e false air))
          else step (after_inferred w caller e shown_of_x x.batch x.content)
          (done_inferred e shown_of_x air x.content)) u
          (reply_of_result ended_reply result)
      on_air true none = unsent_meets x known heard_is none
      on_air false sent = either (is_bad_air w.config air) refl sent

  pub meets_unheard : (caller : ℕ) → MeetsUnheard bodies (outcome_after_done w caller e heard air) u
      (reply_of_result ended_reply result)
  meets_unheard caller = by_case caller heard (exchange w e) refl refl

-- ---- readiness

module _ (v : TransmitValue) (w : World) (bodies : ℕ → FrameValue) (h : StandsFor v w bodies)
    (un : IsUnheard w) (caller e : ℕ) (x : Exchange)
    (known : exchange w e ≡ Some x) (i : ℕ) (c : Class) (other : i ≡ x.station → class_of x.tid ≡ c → ⊥) where
  ready_heard : (heard : Option (ℕ × List ℕ)) (air : Option ℕ) →
      is_ready (ended_by w caller e heard air (Some x)).world c i ≡ is_ready w c i
  ready_heard None air = ready_ended w e false air x h.reached known i c other
  ready_heard (Some score) air = on_air (not x.batch && is_wholly_unsent x) refl
    where
      shown_of_x : ℕ → Bool
      shown_of_x = shown_of w x score

      either : (bad : Bool) → is_bad_air w.config air ≡ bad → (not x.batch && is_wholly_unsent x) ≡ false →
          is_ready (if bad then step w (Asked (Done e false air))
          else step (after_inferred w caller e shown_of_x x.batch x.content)
          (done_inferred e shown_of_x air x.content)).world
          c i ≡ is_ready w c i
      either true bad sent = ready_ended w e false air x h.reached known i c other
      either false fine sent = told_ready v w bodies h un e x known
          (sent_unless x.batch _ sent) score caller air fine i c other

      on_air : (none : Bool) → (not x.batch && is_wholly_unsent x) ≡ none →
          is_ready (if none then step w (Asked (Done e true air))
          else if is_bad_air w.config air then step w (Asked (Done e false air))
          else step (after_inferred w caller e shown_of_x x.batch x.content)
          (done_inferred e shown_of_x air x.content)).world
          c i ≡ is_ready w c i
      on_air true none = ready_ended w e true air x h.reached known i c other
      on_air false sent = either (is_bad_air w.config air) refl sent

  pub ready_after_done : (heard : Option (ℕ × List ℕ)) (air : Option ℕ) →
      is_ready (world_after_done w caller e heard air) c i ≡ is_ready w c i
  ready_after_done heard air =
      subst (λ (o : Option Exchange). is_ready (ended_by w caller e heard air o).world c i ≡ is_ready w c i)
      (sym known) (ready_heard heard air)

module _ (v u : TransmitValue) (w : World) (bodies : ℕ → FrameValue) (h : StandsFor v w bodies)
    (un : IsUnheard w)
    (e : ℕ) (heard : Option (ℕ × List ℕ)) (air : Option ℕ) (result : Result Ended Refusal)
    (done : IsAfterDone v u e heard air result) (i : ℕ) (c : Class) where
  -- the open exchange is not of station i in class c
  abbrev IsElsewhere : Option Open → Type 0
  IsElsewhere o = IfSome o (λ x. i ≡ x.station → class_of x.tid ≡ c → ⊥)

  ready_by : (o : Option Exchange) → exchange w e ≡ o → IsElsewhere (option_map open_of o) →
      is_ready_of u c i ≡ is_ready_of v c i
  ready_by None none f = ap (λ (z : TransmitValue). is_ready_of z c i)
      (not_open v u w bodies h un e heard air result done none).1
  ready_by (Some x) known f =
      ready_same u (world_after_done w 0 e heard air) bodies c i
      (meets_unheard v u w bodies h un e heard air result done 0).stands.parts
      ∙ ready_after_done v w bodies h un 0 e x known i c f heard air
      ∙ sym (ready_same v w bodies c i h.parts)

  pub ready_as_before : IfSome (find (λ x. x.number == e) v.opened)
      (λ x. i ≡ x.station → class_of x.tid ≡ c → ⊥) →
      is_ready_of u c i ≡ is_ready_of v c i
  ready_as_before other = ready_by (exchange w e) refl
      (subst IsElsewhere (exchange_same v w bodies e h.parts) other)
