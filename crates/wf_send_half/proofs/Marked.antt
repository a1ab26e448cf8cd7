-- Proves that the half refuses a mark of a device as the world does, and that a marked half represents the
-- world after the mark.
use Rattle.std.proofs.Common.{◌≡◌, refl, ap, ap₂, sym, ◌∙◌, subst, arith, ℕ, zero, suc, ◌<◌, ◌==◌, Bool, true, false, if◌then◌else◌, List, [], ◌∷◌, length, Option, Some, None, is_some, is_none}
use Rattle.std.specs.Prelude.{find, nat_le, slice_get, IfSome}
use Rattle.wf_frame.specs.Classes.{tid_number}
use Rattle.wf_frame.specs.Frames.{FrameValue}
use Rattle.wf_frame.specs.declared.notes.Ask.TheVariants.{Unsent, GiveUp}
use Rattle.wf_frame.specs.declared.notes.Note.TheVariants.{Asked}
use Rattle.wf_frame.specs.declared.notes.Refusal.{Refusal}
use Rattle.wf_frame.specs.declared.notes.Refusal.TheVariants.{NoExchange, BadIndex, Answered, Arrived, Marked as Is_marked}
use Rattle.wf_frame.specs.declared.notes.ReplyNote.{ReplyNote}
use Rattle.wf_frame.specs.declared.notes.ReplyNote.TheVariants.{Marked, Refused}
use Rattle.wf_def_agreement.specs.Session.{Session, slot}
use Rattle.wf_def_lists.specs.Table.{at, has}
use Rattle.wf_def_world.specs.World.{World, Exchange, Mpdu, Content, Frames, Request, exchange, session}
use Rattle.wf_def_world.specs.Exchanges.{no_mpdu, transmissions, is_marked}
use Rattle.wf_def_world.specs.Refusals.{refusal, first_refusal, exchange_has}
use Rattle.wf_def_world.specs.Step.{step}
use Rattle.wf_law_driver.specs.Unheard.{IsUnmarked, IsUnheard}
use Rattle.wf_law_driver.proofs.Opened.{first_refuses, found_each}
use Rattle.wf_send_parts.specs.declared.exchanges.opened.Open.{Open}
use Rattle.wf_send_parts.specs.Exchanges.{transmissions_of, number_carried, has_mark, with_unsent, with_given_up, with_exchange_changed}
use Rattle.wf_send_parts.specs.Sent.{with_one_unsent}
use Rattle.wf_send_parts.specs.Window.{WindowValue, WindowStandsFor, IsNumber, HasOwnFrame, is_flying, state_at, on_air}
use Rattle.wf_send_parts.specs.Windows.{WindowsHaveRoom, window_of, with_window}
use Rattle.wf_send_half_model.specs.Half.{TransmitValue}
use Rattle.wf_send_half_model.specs.Standing.{sending_of, numbers_on_air, StandsFor, Meets}
use Rattle.wf_send_half_model.specs.Marking.{with_transmission_unsent}
use Rattle.wf_send_half_model.proofs.Endings.{open_live}
use Rattle.wf_send_half_model.proofs.FitMarks.{same_transmissions}
use Rattle.wf_send_half_model.proofs.Marking.{marked_tid, marked_within, marked_number, marked_flies, marked_own, data_unsent, request_unsent, given_up_meets}
use Rattle.wf_send_half.specs.declared.marks.Carried.{Carried}
use Rattle.wf_send_half.specs.Flags.{Flags, IsTracked}
use Rattle.wf_send_half.specs.Marks.{IsCarried, HasNotArrived, bodies_unsent}
use Rattle.wf_send_half.proofs.Dones.{IsKnown, known_of, none_open}
use Rattle.wf_send_half.proofs.Kept.{silent_at, still_right}
use Rattle.wf_send_half.proofs.Rows.{refused_call}

-- ---- the checks

-- the refusal of a mark, by what the tests say: there is no transmission i, or it has a mark
abbrev pub judged : Bool → Bool → Option Refusal
judged past marked = if past then Some BadIndex else if marked then Some Is_marked else None

pub no_such : (past marked : Bool) (r : Refusal) → Some r ≡ (if past then Some BadIndex else None) →
    Some r ≡ judged past marked
no_such true marked r is = is
no_such false marked r is = absurd (cc is)

pub has_one : (past marked : Bool) (o : Option Refusal) → None ≡ (if past then Some BadIndex else None) →
    o ≡ (if marked then Some Is_marked else None) → o ≡ judged past marked
has_one true marked o fine is = absurd (cc fine)
has_one false marked o fine is = is

module _ (v : TransmitValue) (w : World) (bodies : ℕ → FrameValue) (h : StandsFor v w bodies) (e i : ℕ) where
  -- no exchange has this number
  module _ (none : None ≡ find (λ x. x.number == e) v.opened) where
    pub unsent_unknown : Some NoExchange ≡ refusal w (Asked (Unsent e i))
    unsent_unknown = sym (first_refuses (is_none (exchange w e), NoExchange) _
        (ap is_none (none_open v w bodies h e none)))

    pub give_up_unknown : Some NoExchange ≡ refusal w (Asked (GiveUp e i))
    give_up_unknown = sym (first_refuses (is_none (exchange w e), NoExchange) _
        (ap is_none (none_open v w bodies h e none)))

  -- an exchange has it
  module _ (o : Open) (some : Some o ≡ find (λ x. x.number == e) v.opened) where
    known : IsKnown w e o
    known = known_of v w bodies h e o some

    abbrev there : Exchange
    there = known.exchange_is

    same_tests : judged (nat_le (transmissions there.content) i) (is_marked there i)
        ≡ judged (nat_le (transmissions_of o.sending) i) (has_mark o i)
    same_tests =
        ap (λ (n : ℕ). judged (nat_le n i) (is_marked there i)) (sym (same_transmissions there.content))
        ∙ ap (λ (k : Open). judged (nat_le (transmissions_of k.sending) i) (has_mark k i)) (sym known.same)

    pub give_up_judged : refusal w (Asked (GiveUp e i))
        ≡ judged (nat_le (transmissions_of o.sending) i) (has_mark o i)
    unfolding first_refusal
    give_up_judged = ap (λ (k : Option Exchange). first_refusal (
        (is_none k, NoExchange) ∷
        (exchange_has k (λ x. nat_le (transmissions x.content) i), BadIndex) ∷
        (exchange_has k (λ x. is_marked x i), Is_marked) ∷ [])) known.known ∙ same_tests

    -- for a transmission that has not arrived, of an exchange without an answer
    pub unsent_judged : HasNotArrived w e i → refusal w (Asked (Unsent e i))
        ≡ judged (nat_le (transmissions_of o.sending) i) (has_mark o i)
    unfolding first_refusal
    unsent_judged untold =
        let told : (there.answer ≡ None) × (has there.arrived i ≡ false) =
        subst (λ (k : Option Exchange). IfSome k (λ x. (x.answer ≡ None) × (has x.arrived i ≡ false)))
        known.known untold in
        ap (λ (k : Option Exchange). first_refusal (
        (is_none k, NoExchange) ∷
        (exchange_has k (λ x. nat_le (transmissions x.content) i), BadIndex) ∷
        (exchange_has k (λ x. is_some x.answer), Answered) ∷
        (exchange_has k (λ x. has x.arrived i), Arrived) ∷
        (exchange_has k (λ x. is_marked x i), Is_marked) ∷ [])) known.known
        ∙ ap₂ (λ (a b : Bool). if nat_le (transmissions there.content) i then Some BadIndex
        else if a then Some Answered
        else if b then Some Arrived
        else if is_marked there i then Some Is_marked
        else None) (ap is_some told.0) told.1
        ∙ same_tests

-- ---- what a transmission carries

-- transmission i sends the frame of a number that is seq modulo 4096
record SendsFrame (c : Content) (i seq : ℕ) : Type 0 where
  mpdus : List Mpdu
  content : c ≡ Frames mpdus
  low : i < length mpdus
  air : seq ≡ on_air (at no_mpdu mpdus i).number

number_at_place : (ms : List Mpdu) (i seq : ℕ) → slice_get (numbers_on_air ms) i ≡ Some seq →
    (i < length ms) × (seq ≡ on_air (at no_mpdu ms i).number)
number_at_place [] i seq e = absurd (cc e)
number_at_place (m ∷ ms) zero seq e = (omega arith, cc e)
number_at_place (m ∷ ms) (suc i) seq e =
    let later = number_at_place ms i seq e in
    (omega (arith, later.0), later.1)

sends_frame : (c : Content) (i seq : ℕ) → number_carried (sending_of c) i ≡ Some seq → SendsFrame c i seq
sends_frame (Frames ms) i seq e =
    let there = number_at_place ms i seq e in
    record { mpdus = ms; content = refl; low = there.0; air = there.1 }
sends_frame (Request start) i seq e = absurd (cc e)

-- the exchange is a request
record SendsRequest (c : Content) : Type 0 where
  start : ℕ
  content : c ≡ Request start

some_number : (ms : List Mpdu) (i : ℕ) → i < length ms → slice_get (numbers_on_air ms) i ≡ None → ⊥
some_number [] i low e = absurd (omega (arith, low))
some_number (m ∷ ms) zero low e = absurd (cc e)
some_number (m ∷ ms) (suc i) low e = some_number ms i (omega (arith, low)) e

sends_request : (c : Content) (i : ℕ) → i < transmissions c → number_carried (sending_of c) i ≡ None →
    SendsRequest c
sends_request (Frames ms) i low e = absurd (some_number ms i low e)
sends_request (Request start) i low e = record { start = start; content = refl }

-- ---- a mark

module _ (v : TransmitValue) (w : World) (bodies : ℕ → FrameValue) (h : StandsFor v w bodies) (e i : ℕ)
    (carried : Carried) (k : IsCarried v e i carried) where
  here : IsKnown w e k.exchange_is
  here = known_of v w bodies h e k.exchange_is k.known

  abbrev x : Exchange
  x = here.exchange_is

  -- what holds of the exchange's station and TID in the world holds of those in the half
  along : (P : ℕ → ℕ → Type 0) → P x.station x.tid → P carried.station carried.tid
  along P p =
      subst (λ (s : ℕ). P s carried.tid) (sym (k.station ∙ ap (λ (o : Open). o.station) here.same))
      (subst (P x.station) (sym (k.tid ∙ ap (λ (o : Open). o.tid) here.same)) p)

  number_is : number_carried (sending_of x.content) i ≡ carried.number
  number_is = ap (λ (o : Open). number_carried o.sending i) (sym here.same) ∙ sym k.number

  index_low : i < transmissions x.content
  index_low = omega (
    arith,
    k.index,
    ap (λ (o : Open). transmissions_of o.sending) here.same,
    same_transmissions x.content,
  )

  -- it carries a frame, whose number flies
  module _ (seq : ℕ) (is : carried.number ≡ Some seq) where
    sent : SendsFrame x.content i seq
    sent = sends_frame x.content i seq (number_is ∙ is)

    pub carried_tid : carried.tid < 8
    carried_tid = along (λ s t. t < 8) (marked_tid v w bodies h e x sent.mpdus here.known sent.content i
        sent.low)

    pub carried_within : tid_number carried.station carried.tid < length v.windows
    carried_within = along (λ s t. tid_number s t < length v.windows)
        (marked_within v w bodies h e x sent.mpdus here.known sent.content i sent.low)

    pub carried_flies : is_flying (state_at (window_of v.windows carried.station carried.tid) seq) ≡ true
    carried_flies = along (λ s t. is_flying (state_at (window_of v.windows s t) seq) ≡ true)
        (marked_flies v w bodies h e x sent.mpdus here.known sent.content i sent.low seq sent.air)

    abbrev number : ℕ
    number = (at no_mpdu sent.mpdus i).number

    -- the half after its window took back an attempt
    pub frame_met : refusal w (Asked (Unsent e i)) ≡ None → (opened : List Open)
        (windows : List WindowValue) →
        opened ≡ with_exchange_changed e (with_unsent i) v.opened → WindowsHaveRoom windows →
        windows ≡ with_window v.windows carried.station carried.tid
        (window_of windows carried.station carried.tid) →
        ((y : Session) (bs : ℕ → FrameValue) (n : ℕ) →
        WindowStandsFor (window_of v.windows carried.station carried.tid) y bs → IsNumber y n seq →
        HasOwnFrame y n → WindowStandsFor (window_of windows carried.station carried.tid) y
        (with_one_unsent (slot y n).id bs)) →
        Meets w (bodies_unsent (exchange w e) i Marked bodies) (Asked (Unsent e i))
        (record v { windows = windows; opened = opened }) Marked
    frame_met fine opened windows marked room = along (λ s t.
        windows ≡ with_window v.windows s t (window_of windows s t) →
        ((y : Session) (bs : ℕ → FrameValue) (n : ℕ) →
        WindowStandsFor (window_of v.windows s t) y bs → IsNumber y n seq →
        HasOwnFrame y n → WindowStandsFor (window_of windows s t) y (with_one_unsent (slot y n).id bs)) →
        Meets w (bodies_unsent (exchange w e) i Marked bodies) (Asked (Unsent e i))
        (record v { windows = windows; opened = opened }) Marked)
        (λ others stands.
        let z : WindowValue = window_of windows x.station x.tid in
        let y : Session = session w x.station x.tid in
        let standing : WindowStandsFor (window_of v.windows x.station x.tid) y bodies =
        h.parts.windows.all.stands x.station x.tid
        (open_live w h.reached e x here.known)
        (marked_tid v w bodies h e x sent.mpdus here.known sent.content i sent.low) in
        let now : WindowStandsFor z y (with_one_unsent (slot y number).id bodies) =
        stands y bodies number standing
        (marked_number v w bodies h e x sent.mpdus here.known sent.content i sent.low seq sent.air)
        (marked_own v w bodies h e x sent.mpdus here.known sent.content i sent.low) in
        let m : Meets w (with_transmission_unsent x.content i bodies) (Asked (Unsent e i))
        (record v {
          windows = with_window v.windows x.station x.tid z;
          opened = with_exchange_changed e (with_unsent i) v.opened;
        }) Marked =
        data_unsent v w bodies h e x here.known sent.mpdus sent.content i sent.low fine z
        (subst WindowsHaveRoom others room) now in
        subst (λ (f : Option Exchange). Meets w (bodies_unsent f i Marked bodies) (Asked (Unsent e i))
        (record v { windows = windows; opened = opened }) Marked) (sym here.known)
        (subst (λ (l : List Open). Meets w (with_transmission_unsent x.content i bodies) (Asked (Unsent e i))
        (record v { windows = windows; opened = l }) Marked) (sym marked)
        (subst (λ (l : List WindowValue). Meets w (with_transmission_unsent x.content i bodies)
        (Asked (Unsent e i)) (record v {
          windows = l;
          opened = with_exchange_changed e (with_unsent i) v.opened;
        }) Marked) (sym others) m)))

  -- it carries a request, of which no frame counts
  pub request_met : carried.number ≡ None → refusal w (Asked (Unsent e i)) ≡ None → (opened : List Open) →
      opened ≡ with_exchange_changed e (with_unsent i) v.opened →
      Meets w (bodies_unsent (exchange w e) i Marked bodies) (Asked (Unsent e i))
      (record v { opened = opened }) Marked
  request_met none fine opened marked =
      let r : SendsRequest x.content = sends_request x.content i index_low (number_is ∙ none) in
      subst (λ (f : Option Exchange). Meets w (bodies_unsent f i Marked bodies) (Asked (Unsent e i))
      (record v { opened = opened }) Marked) (sym here.known)
      (subst (λ (l : List Open). Meets w (with_transmission_unsent x.content i bodies) (Asked (Unsent e i))
      (record v { opened = l }) Marked) (sym marked)
      (request_unsent v w bodies h e x here.known r.start r.content i fine))

  pub given_up_met : refusal w (Asked (GiveUp e i)) ≡ None → (opened : List Open) →
      opened ≡ with_exchange_changed e (with_given_up i) v.opened →
      Meets w bodies (Asked (GiveUp e i)) (record v { opened = opened }) Marked
  given_up_met fine opened marked =
      subst (λ (l : List Open). Meets w bodies (Asked (GiveUp e i)) (record v { opened = l }) Marked)
      (sym marked)
      (given_up_meets v w bodies h e x here.known i fine)

-- a refused call changes no frame
refused_unsent : (o : Option Exchange) (i : ℕ) (r : Refusal) (bodies : ℕ → FrameValue) →
    bodies_unsent o i (Refused r) bodies ≡ bodies
refused_unsent None i r bodies = refl
refused_unsent (Some x) i r bodies = refl

pub refused_mark : (v : TransmitValue) (w : World) (bodies : ℕ → FrameValue) → StandsFor v w bodies →
    (e i : ℕ) (r : Refusal) → Some r ≡ refusal w (Asked (Unsent e i)) →
    Meets w (bodies_unsent (exchange w e) i (Refused r) bodies) (Asked (Unsent e i)) v (Refused r)
refused_mark v w bodies h e i r is =
    subst (λ (after : ℕ → FrameValue). Meets w after (Asked (Unsent e i)) v (Refused r))
    (sym (refused_unsent (exchange w e) i r bodies))
    (refused_call v w bodies (Asked (Unsent e i)) r
    (λ e. cc e, (λ e. cc e, (λ e. cc e, (λ e. cc e, (λ e. cc e, tt))))) h is)

-- ---- the flags

-- in an unheard world nothing has arrived or was answered
pub untold_unheard : (w : World) → IsUnheard w → (e i : ℕ) → HasNotArrived w e i
untold_unheard w un e i = by_case (exchange w e) refl
  where
    by_case : (o : Option Exchange) → exchange w e ≡ o →
        IfSome o (λ x. (x.answer ≡ None) × (has x.arrived i ≡ false))
    by_case None is = tt
    by_case (Some x) is =
        let none : IsUnmarked x = found_each IsUnmarked w e x is un.marks in
        (none.answer, ap (λ (l : List ℕ). has l i) none.arrived)

-- the flags stay right
pub tracked_unsent : (v y : TransmitValue) (r : Flags) (e i : ℕ) (reply : ReplyNote) → IsTracked v r →
    ((w : World) (bodies : ℕ → FrameValue) → StandsFor v w bodies → HasNotArrived w e i →
    Meets w (bodies_unsent (exchange w e) i reply bodies) (Asked (Unsent e i)) y reply) → IsTracked y r
tracked_unsent v y r e i reply h meets =
    let w : World = h.some.world in
    let after : ℕ → FrameValue = bodies_unsent (exchange w e) i reply h.some.bodies in
    let m : Meets w after (Asked (Unsent e i)) y reply =
    meets w h.some.bodies h.some.stands (untold_unheard w h.some.unheard e i) in
    record {
      some = record {
        world = (step w (Asked (Unsent e i))).world;
        bodies = after;
        stands = m.stands;
        unheard = silent_at w (Asked (Unsent e i)) h.some.stands.reached tt h.some.unheard;
      };
      flags = still_right v y r h.flags w h.some.bodies after (Asked (Unsent e i)) reply h.some.stands m refl;
    }
