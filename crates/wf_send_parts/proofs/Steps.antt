-- Proves what each step of a window's calls does to the window's value, for use in the proofs of the calls.
use Rattle.std.proofs.Common.{◌≡◌, ℕ, zero, suc, ◌+◌, ◌-◌, ◌%◌, ◌<◌, ◌≤◌, true, false, ◌||◌, Option, Some, None, List, [], ◌∷◌, length, get_or, set, refl, ap, sym, ◌∙◌, subst, arith, length-set, max}
use Rattle.std.proofs.lemmas.List.{set-set}
use Rattle.wf_frame.specs.Frames.{FrameValue, sent_again, sent_once_less}
use Rattle.wf_def_agreement.specs.Session.{Session, State, End, slot, start_of, next_number, is_settled, is_waiting, with_state, after_end}
use Rattle.wf_send_parts.specs.declared.window.place.Place.{Place}
use Rattle.wf_send_parts.specs.declared.window.place.Place.TheVariants.{Waiting as Waits, Flying as Flies}
use Rattle.wf_send_parts.specs.declared.window.passed.Passed.{Passed}
use Rattle.wf_send_parts.specs.Ring.{RingValue}
use Rattle.wf_send_parts.specs.Places.{state_of_place, front, rest, settled_first, passed_over, at_most}
use Rattle.wf_octets.specs.Distance.{distance}
use Rattle.wf_send_parts.specs.Window.{WindowValue, WindowStandsFor, IsNumber, IsInOrder, HasOwnFrame, moved_on, is_flying, state_at}
use Rattle.wf_send_parts.specs.Sent.{with_one_sent, with_one_unsent}
use Rattle.wf_send_parts.specs.Answers.{place_ended, answer_ended, settling_answer}
use Rattle.wf_send_parts.specs.declared.window.window.Settled.{Settled}
use Rattle.std.specs.List.{list_any}
use Rattle.wf_send_parts.proofs.Fronts.{lengths, rest_unsettled}
use Rattle.wf_send_parts.proofs.Calls.{IsFlyingSlot, found_slot, waiting_slot, settled_set, heard_law, ended_law}
use Rattle.wf_send_parts.proofs.Sending.{sent_law, unsent_law}
use Rattle.wf_send_parts.proofs.Moving.{since_bound}
use Rattle.wf_send_parts.proofs.Numbers.{waiting_is}
use Rattle.wf_send_parts.proofs.Laws.{slot_changed, place_is, ahead_number, places_length}

-- a window, from its parts
abbrev pub shown : ℕ → ℕ → Passed → RingValue → WindowValue
shown size start passed r = record {
  capacity = r.capacity;
  size = size;
  start = start;
  places = r.items;
  due = passed.due;
  unacked = passed.unacked;
}

abbrev pub with_items : RingValue → List (Option Place) → RingValue
with_items r ps = record { capacity = r.capacity; items = ps }

-- two items put into the same place, one after the other
pub replaced_twice : (r r1 r2 : RingValue) (i : ℕ) (p q : Option Place) →
    r1 ≡ with_items r (set r.items i p) → r2 ≡ with_items r1 (set r1.items i q) →
    r2 ≡ with_items r (set r.items i q)
replaced_twice r r1 r2 i p q a b =
    b ∙ ap (λ (v : RingValue). with_items v (set v.items i q)) a ∙ ap (with_items r) (set-set r.items i p q)

-- the settled places at the front are dropped
pub moved_on_is : (size start start2 moved : ℕ) (passed passed2 : Passed) (r r1 r2 : RingValue)
    (ps : List (Option Place)) → r1 ≡ with_items r ps → r2 ≡ with_items r1 (rest state_of_place r1.items) →
    moved ≡ length (front state_of_place r1.items) →
    passed2 ≡ passed_over state_of_place passed (front state_of_place r1.items) →
    start2 ≡ (start + moved) % 4096 →
    shown size start2 passed2 r2 ≡ moved_on (record (shown size start passed r) { places = ps })
moved_on_is size start start2 moved passed passed2 r r1 r2 ps a b m d e =
    ap (shown size start2 passed2) (b ∙ ap (λ (v : RingValue). with_items v (rest state_of_place v.items)) a)
    ∙ ap (λ (x : Passed). shown size start2 x (with_items r (rest state_of_place ps)))
    (d ∙ ap (λ (v : RingValue). passed_over state_of_place passed (front state_of_place v.items)) a)
    ∙ ap (λ (n : ℕ). shown size n (passed_over state_of_place passed (front state_of_place ps))
    (with_items r (rest state_of_place ps))) (e
    ∙ ap (λ (k : ℕ). (start + k) % 4096) (m ∙ ap
    (λ (v : RingValue). length (front state_of_place v.items)) a))

-- the window's invariant

pub order_kept : (size : ℕ) (due : Option ℕ) (r r2 : RingValue) (i : ℕ) (p : Option Place) →
    r2 ≡ with_items r (set r.items i p) → is_settled (state_of_place p) ≡ false →
    IsInOrder r.capacity size r.items due → IsInOrder r2.capacity size r2.items due
order_kept size due r r2 i p e unsettled o =
    let P : RingValue → Type 0 = λ v. IsInOrder v.capacity size v.items due in
    subst P (sym e) (record {
      bounded = omega (arith, o.bounded, length-set r.items i p);
      within = o.within;
      small = o.small;
      begins = settled_set r.items i p o.begins unsettled;
    })

pub order_moved : (size : ℕ) (passed passed2 : Passed) (r r1 r2 : RingValue) (i : ℕ) (p : Option Place) →
    r1 ≡ with_items r (set r.items i p) → r2 ≡ with_items r1 (rest state_of_place r1.items) →
    passed2 ≡ passed_over state_of_place passed (front state_of_place r1.items) →
    IsInOrder r.capacity size r.items passed.due → IsInOrder r2.capacity size r2.items passed2.due
order_moved size passed passed2 r r1 r2 i p a b d o =
    let ps : List (Option Place) = set r.items i p in
    let ring_is : r2 ≡ with_items r (rest state_of_place ps) =
    b ∙ ap (λ (v : RingValue). with_items v (rest state_of_place v.items)) a in
    let passed_is : passed2 ≡ passed_over state_of_place passed (front state_of_place ps) =
    d ∙ ap (λ (v : RingValue). passed_over state_of_place passed (front state_of_place v.items)) a in
    let P : RingValue → Type 0 = λ v. IsInOrder v.capacity size v.items passed2.due in
    let Q : Passed → Type 0 = λ x. IsInOrder r.capacity size (rest state_of_place ps) x.due in
    subst P (sym ring_is) (subst Q (sym passed_is) (record {
      bounded = omega (
        arith,
        o.bounded,
        since_bound passed.due (front state_of_place ps),
        lengths state_of_place ps,
        length-set r.items i p,
      );
      within = o.within;
      small = o.small;
      begins = rest_unsettled state_of_place ps;
    }))

-- a place that is not acknowledged is in the window

pub in_window : (ps : List (Option Place)) (i : ℕ) → (state_of_place (get_or ps i None) ≡ State.Acked → ⊥) →
    i < length ps
in_window [] i h = absurd (h refl)
in_window (p ∷ ps) zero h = omega arith
in_window (p ∷ ps) (suc i) h = omega (arith, in_window ps i h)

-- the calls

module _ (size start : ℕ) (passed : Passed) (r : RingValue) (now : WindowValue)
    (is : shown size start passed r ≡ now) (seq : ℕ) where
  -- a request with the start seq was heard
  pub heard_step : (due2 : Option ℕ) (s : Session) (bodies : ℕ → FrameValue) (f d : ℕ) →
      d ≡ distance start seq → due2 ≡ at_most d passed.due → WindowStandsFor now s bodies → seq ≡ f % 4096 →
      f ≤ start_of s → next_number s ≤ f + s.size →
      WindowStandsFor (shown size start (record passed { due = due2 }) r)
      (record s { heard = max s.heard f }) bodies
  heard_step due2 s bodies f d d_is e stands on_air below near =
      let w : WindowStandsFor (shown size start passed r) s bodies =
      (let P : WindowValue → Type 0 = λ v. WindowStandsFor v s bodies in subst P (sym is) stands) in
      let same : d ≡ start_of s - f = d_is ∙ ahead_number f (start_of s) seq start on_air w.start below
      (omega (arith, places_length _ s bodies w, w.small)) in
      let P : Option ℕ → Type 0 = λ x. WindowStandsFor (shown size start (record passed { due = x }) r)
      (record s { heard = max s.heard f }) bodies in
      subst P (sym (e ∙ ap (λ (k : ℕ). at_most k passed.due) same))
      (heard_law (shown size start passed r) s bodies w f below)

module _ (size start : ℕ) (passed : Passed) (r r1 r2 : RingValue) (now : WindowValue)
    (is : shown size start passed r ≡ now) (i seq : ℕ) (i_is : i ≡ distance seq start) where
  here : (s : Session) (bodies : ℕ → FrameValue) → WindowStandsFor now s bodies →
      WindowStandsFor (shown size start passed r) s bodies
  here s bodies stands = let P : WindowValue → Type 0 = λ v. WindowStandsFor v s bodies in
      subst P (sym is) stands

  -- a place is taken, and put back with another content
  put_back : (p : Option Place) → r1 ≡ with_items r (set r.items i None) →
      r2 ≡ with_items r1 (set r1.items i p) → r2 ≡ with_items r (set r.items (distance seq start) p)
  put_back p a b = replaced_twice r r1 r2 i None p a b ∙ ap (λ (k : ℕ). with_items r (set r.items k p)) i_is

  at_number : (p : Option Place) → p ≡ get_or r.items i None → get_or r.items (distance seq start) None ≡ p
  at_number p found = ap (λ (k : ℕ). get_or r.items k None) (sym i_is) ∙ sym found

  pub fly_step : (exchange attempts : ℕ) (parcel : FrameValue) →
      Some (Waits parcel attempts) ≡ get_or r.items i None → r1 ≡ with_items r (set r.items i None) →
      r2 ≡ with_items r1 (set r1.items i (Some (Flies (sent_again parcel) attempts exchange))) →
      (s : Session) (bodies : ℕ → FrameValue) (n : ℕ) → WindowStandsFor now s bodies → IsNumber s n seq →
      HasOwnFrame s n → WindowStandsFor (shown size start passed r2) (with_state (State.Flying exchange) n s)
      (with_one_sent (slot s n).id bodies)
  fly_step exchange attempts parcel found a b s bodies n stands number own =
      let P : RingValue → Type 0 = λ v. WindowStandsFor (shown size start passed v)
      (with_state (State.Flying exchange) n s) (with_one_sent (slot s n).id bodies) in
      subst P (sym (put_back _ a b)) (sent_law sent_again (shown size start passed r) s bodies
      (here s bodies stands) n seq number own exchange attempts parcel (at_number _ found))

  pub unsend_step : (exchange attempts : ℕ) (parcel : FrameValue) →
      Some (Flies parcel attempts exchange) ≡ get_or r.items i None → r1 ≡ with_items r (set r.items i None) →
      r2 ≡ with_items r1 (set r1.items i (Some (Flies (sent_once_less parcel) attempts exchange))) →
      (s : Session) (bodies : ℕ → FrameValue) (n : ℕ) → WindowStandsFor now s bodies → IsNumber s n seq →
      HasOwnFrame s n → WindowStandsFor (shown size start passed r2) s (with_one_unsent (slot s n).id bodies)
  unsend_step exchange attempts parcel found a b s bodies n stands number own =
      let P : RingValue → Type 0 = λ v. WindowStandsFor (shown size start passed v) s
      (with_one_unsent (slot s n).id bodies) in
      subst P (sym (put_back _ a b)) (unsent_law sent_once_less (shown size start passed r) s bodies
      (here s bodies stands) n seq number own exchange attempts parcel (at_number _ found))

  module _ (parcel : FrameValue) (attempts exchange limit : ℕ)
      (found : Some (Flies parcel attempts exchange) ≡ get_or r.items i None) (s : Session)
      (bodies : ℕ → FrameValue) (n : ℕ) (stands : WindowStandsFor now s bodies)
      (number : IsNumber s n seq) where
    -- the number's place changes as its exchange ends, and the settled places at the front are dropped
    pub ended_step : (end : End) (p : Option Place) (r0 : RingValue) (start2 moved : ℕ) (passed2 : Passed) →
        p ≡ place_ended end limit parcel attempts → r0 ≡ with_items r (set r.items i None) →
        r1 ≡ with_items r0 (set r0.items i p) → r2 ≡ with_items r1 (rest state_of_place r1.items) →
        moved ≡ length (front state_of_place r1.items) →
        passed2 ≡ passed_over state_of_place passed (front state_of_place r1.items) →
        start2 ≡ (start + moved) % 4096 →
        WindowStandsFor (shown size start2 passed2 r2) (after_end limit end n s) bodies
    ended_step end p r0 start2 moved passed2 is z a b m d e =
        let P : WindowValue → Type 0 = λ v. WindowStandsFor v (after_end limit end n s) bodies in
        let a_here : r1 ≡ with_items r (set r.items (distance seq start) p) =
        replaced_twice r r0 r1 i None p z a ∙ ap (λ (k : ℕ). with_items r (set r.items k p)) i_is in
        subst P (sym (moved_on_is size start start2 moved passed passed2 r r1 r2 _ a_here b m d e))
        (ended_law (shown size start passed r) s bodies (here s bodies stands) n seq number parcel attempts
        exchange limit (at_number _ found) end p is)

    pub ended_answer : (end : End) (answer : Settled) → answer ≡ answer_ended end limit parcel attempts →
        answer ≡ settling_answer end limit bodies (slot s n)
    ended_answer end answer is =
        let x : IsFlyingSlot bodies (slot s n) parcel attempts exchange =
        found_slot (shown size start passed r) s bodies (here s bodies stands) n seq number parcel attempts
        exchange limit (at_number _ found) in
        is ∙ ap (λ (f : FrameValue). answer_ended end limit f attempts) x.parcel_is
        ∙ ap (λ (a : ℕ). answer_ended end limit (bodies (slot s n).id) a) x.attempts_is

-- the first place is taken, with its frame
pub expel_step : (size start start2 moved : ℕ) (passed passed2 : Passed) (r r1 r2 : RingValue)
    (now : WindowValue)
    (parcel : FrameValue) (attempts : ℕ) → shown size start passed r ≡ now →
    Some (Waits parcel attempts) ≡ get_or r.items 0 None → r1 ≡ with_items r (set r.items 0 None) →
    r2 ≡ with_items r1 (rest state_of_place r1.items) → moved ≡ length (front state_of_place r1.items) →
    passed2 ≡ passed_over state_of_place passed (front state_of_place r1.items) →
    start2 ≡ (start + moved) % 4096 →
    (s : Session) (bodies : ℕ → FrameValue) → WindowStandsFor now s bodies → (start_of s < next_number s) ×
    (parcel ≡ bodies (slot s (start_of s)).id) ×
    WindowStandsFor (shown size start2 passed2 r2) (with_state State.Acked (start_of s) s) bodies
expel_step size start start2 moved passed passed2 r r1 r2 now parcel attempts is found a b m d e s bodies
    stands =
    let W : WindowValue = shown size start passed r in
    let w : WindowStandsFor W s bodies = (let P : WindowValue → Type 0 = λ v. WindowStandsFor v s bodies in
    subst P (sym is) stands) in
    let some : 0 < length r.items = some_place r.items parcel attempts found in
    let inside : start_of s < next_number s = omega (arith, some, places_length W s bodies w) in
    let number : IsNumber s (start_of s) start = record {
      from_start = omega arith;
      given = inside;
      on_air =
          w.start;
    } in
    let here_is : 0 ≡ distance start start = omega arith in
    let x = waiting_slot bodies (slot s (start_of s)) parcel attempts
    (found ∙ ap (λ (k : ℕ). get_or r.items k None) here_is
    ∙ place_is W s bodies w (start_of s) start number) in
    let P : WindowValue → Type 0 = λ v. WindowStandsFor v (with_state State.Acked (start_of s) s) bodies in
    let a_here : r1 ≡ with_items r (set r.items (distance start start) None) =
    a ∙ ap (λ (k : ℕ). with_items r (set r.items k None)) here_is in (
      inside,
      x.parcel_is,
      subst P (sym (moved_on_is size start start2 moved passed passed2 r r1 r2 _ a_here b m d
          e)) (slot_changed W s bodies w (start_of s) start number
          (λ y. record y { state = State.Acked }) None refl),
    )
  where
    some_place : (ps : List (Option Place)) (f : FrameValue) (t : ℕ) → Some (Waits f t) ≡ get_or ps 0 None →
        0 < length ps
    some_place [] f t h = absurd (cc)
    some_place (p ∷ ps) f t h = omega arith

-- if no number flies, the first place waits
pub first_waits : (ps : List (Option Place)) → 0 < length ps → settled_first state_of_place ps ≡ false →
    list_any (λ p. is_flying (state_of_place p)) ps ≡ false →
    is_waiting (state_of_place (get_or ps 0 None)) ≡ true
first_waits [] some h k = absurd (omega arith)
first_waits (p ∷ ps) some h k = elim (state_of_place p) as
    (λ st. is_settled st ≡ false → is_flying st || list_any (λ p. is_flying (state_of_place p)) ps ≡ false →
    is_waiting st ≡ true) [
      | State.Waiting ↦ λ h k. refl
      | State.Flying exchange ↦ λ h k. absurd (cc k)
      | State.Acked ↦ λ h k. absurd (cc h)
      | State.Failed ↦ λ h k. absurd (cc h)
    ] h k

-- a waiting place at distance i is found at its number

module _ (w : WindowValue) (from seq i : ℕ) (on_air : seq ≡ (w.start + i) % 4096)
    (above : distance from w.start ≤ i) (inside : i < length w.places) (small : length w.places ≤ 256) where
  found_at : distance seq w.start ≡ i
  found_at = omega arith

  pub waits_there : is_waiting (state_of_place (get_or w.places i None)) ≡ true →
      state_at w seq ≡ State.Waiting
  waits_there waits = waiting_is (state_at w seq)
      (ap (λ (k : ℕ). is_waiting (state_of_place (get_or w.places k None))) found_at ∙ waits)

  pub within_places : (distance from w.start ≤ distance seq w.start) ×
      (distance seq w.start < length w.places)
  within_places = (omega (arith, found_at, above), omega (arith, found_at, inside))
