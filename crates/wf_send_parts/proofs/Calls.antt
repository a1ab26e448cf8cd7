-- Proves that after each call the window represents the session with the call's change.
use Rattle.std.proofs.Common.{◌≡◌, ℕ, zero, suc, ◌+◌, ◌-◌, ◌%◌, ◌<◌, ◌≤◌, nat_lt, nat_le, min, max, Bool, true, false, not, ◌&&◌, if◌then◌else◌, Option, Some, None, is_some, is_none, List, [], ◌∷◌, ◌++◌, length, set, map, refl, ap, sym, ◌∙◌, subst, arith, length-append}
use Rattle.std.proofs.lemmas.List.{append_assoc, map-append}
use Rattle.std.proofs.lemmas.Bool.Decides.{nat_tests}
use Rattle.wf_frame.specs.Frames.{FrameValue}
use Rattle.wf_def_agreement.specs.Session.{Session, Slot, State, slot, on_slot, with_number_given, new_session, start_of, is_settled, request_due, has_room, End, after_end, slot_after_miss, slot_given_up}
use Rattle.wf_send_parts.specs.declared.window.place.Place.{Place}
use Rattle.wf_send_parts.specs.declared.window.place.Place.TheVariants.{Waiting as Waits, Flying as Flies, Failed as Fails}
use Rattle.wf_send_parts.specs.Places.{state_of_place, slot_place, place_as, slot_state, front, settled_first, since_failed, at_most}
use Rattle.wf_octets.specs.Distance.{distance}
use Rattle.wf_send_parts.specs.Answers.{place_ended}
use Rattle.wf_send_parts.specs.Window.{WindowValue, fresh_window, due_distance, WindowStandsFor, IsNumber, slots_from_start, moved_on, place_at, may_give, can_take}
use Rattle.wf_send_parts.proofs.Fronts.{front_rest, at_most_both}
use Rattle.wf_send_parts.proofs.Due.{request_due_is, not_due}
use Rattle.wf_send_parts.proofs.Laws.{next_is, places_length, slots_replaced, start_below, not_moved, begins_unsettled, place_is, slot_changed}

-- a place determines its slot

pub record IsWaitingSlot (bodies : ℕ → FrameValue) (x : Slot) (parcel : FrameValue)
    (attempts : ℕ) : Type 0 where
  pub state : x.state ≡ State.Waiting
  pub parcel_is : parcel ≡ bodies x.id
  pub attempts_is : attempts ≡ x.attempts

pub waiting_slot : (bodies : ℕ → FrameValue) (x : Slot) (parcel : FrameValue) (attempts : ℕ) →
    Some (Waits parcel attempts) ≡ slot_place bodies x → IsWaitingSlot bodies x parcel attempts
waiting_slot bodies x parcel attempts same = elim x.state as
    (λ st. x.state ≡ st → Some (Waits parcel attempts) ≡ place_as st (bodies x.id) x.attempts →
    IsWaitingSlot bodies x parcel attempts) [
      | State.Waiting ↦ λ e h. record { state = e; parcel_is = cc; attempts_is = cc }
      | State.Flying exchange ↦ λ e h. absurd (cc)
      | State.Acked ↦ λ e h. absurd (cc)
      | State.Failed ↦ λ e h. absurd (cc)
    ] refl same

pub record IsFlyingSlot (bodies : ℕ → FrameValue) (x : Slot) (parcel : FrameValue)
    (attempts exchange : ℕ) : Type 0 where
  pub state : x.state ≡ State.Flying exchange
  pub parcel_is : parcel ≡ bodies x.id
  pub attempts_is : attempts ≡ x.attempts

pub flying_slot : (bodies : ℕ → FrameValue) (x : Slot) (parcel : FrameValue) (attempts exchange : ℕ) →
    Some (Flies parcel attempts exchange) ≡ slot_place bodies x →
    IsFlyingSlot bodies x parcel attempts exchange
flying_slot bodies x parcel attempts exchange same =
    elim x.state as (λ st. x.state ≡ st → Some (Flies parcel attempts exchange)
    ≡ place_as st (bodies x.id) x.attempts → IsFlyingSlot bodies x parcel attempts exchange) [
      | State.Waiting ↦ λ e h. absurd (cc)
      | State.Flying other ↦ λ e h. let same_exchange : other ≡ exchange = cc in
          record { state = e ∙ ap State.Flying same_exchange; parcel_is = cc; attempts_is = cc }
      | State.Acked ↦ λ e h. absurd (cc)
      | State.Failed ↦ λ e h. absurd (cc)
    ] refl same

-- a change in one place leaves the first number unsettled
pub settled_set : (ps : List (Option Place)) (i : ℕ) (p : Option Place) →
    settled_first state_of_place ps ≡ false → is_settled (state_of_place p) ≡ false →
    settled_first state_of_place (set ps i p) ≡ false
settled_set [] i p h k = refl
settled_set (x ∷ ps) zero p h k = k
settled_set (x ∷ ps) (suc i) p h k = h

pub settled_push : (ps : List (Option Place)) (p : Option Place) → settled_first state_of_place ps ≡ false →
    is_settled (state_of_place p) ≡ false → settled_first state_of_place (ps ++ p ∷ []) ≡ false
settled_push [] p h k = k
settled_push (x ∷ ps) p h k = h

pub room_of : (w : WindowValue) → can_take w ≡ true → length w.places < w.size
room_of w h = second (is_none w.due) (nat_lt (length w.places) w.size) h (grind (arith, nat_tests))
  where
    second : (a b : Bool) → (a && b) ≡ true → (b ≡ true → length w.places < w.size) → length w.places < w.size
    second true b h f = f h
    second false b h f = absurd (cc h)

-- a new window

pub new_law : (capacity size start n : ℕ) (bodies : ℕ → FrameValue) → start ≡ n % 4096 → size ≤ 256 →
    WindowStandsFor (fresh_window capacity size start) (new_session n size) bodies
new_law capacity size start n bodies same small =
    record {
      size = refl;
      start = same;
      places = refl;
      due = refl;
      unacked = refl;
      heard = omega arith;
      room = omega arith;
      small = small;
    }

module _ (w : WindowValue) (s : Session) (bodies : ℕ → FrameValue) (stands : WindowStandsFor w s bodies) where
  pub due_is : is_some w.due ≡ request_due s
  due_is = ap is_some stands.due ∙ sym (request_due_is s)

  pub can_take_is : can_take w ≡ may_give s
  can_take_is =
      let room : nat_lt (length w.places) w.size ≡ has_room s =
      same_test _ _ _ _ _ (places_length w s bodies stands) stands.size in
      ap (λ (b : Bool). b && nat_lt (length w.places) w.size) (none_some w.due ∙ ap not due_is)
      ∙ ap (λ (b : Bool). not (request_due s) && b) room
    where
      same_test : (k size start next : ℕ) (n : ℕ) → start + k ≡ next → size ≡ n →
          nat_lt k size ≡ nat_lt next (start + n)
      same_test k size start next n e f = grind (arith, nat_tests)

      none_some : (d : Option ℕ) → is_none d ≡ not (is_some d)
      none_some None = refl
      none_some (Some d) = refl

  pub give_law : (id : ℕ) (parcel : FrameValue) → parcel ≡ bodies id → length w.places < w.size →
      WindowStandsFor (record w { places = w.places ++ Some (Waits parcel 0) ∷ [] })
      (with_number_given s id) bodies
  give_law id parcel same room =
      let fresh : Slot = record { id = id; attempts = 0; state = State.Waiting } in
      let ys : List Slot = slots_from_start s ++ fresh ∷ [] in
      let p : Option Place = Some (Waits parcel 0) in
      let fits : length ys ≤ s.size = omega (
        arith,
        length-append (slots_from_start s) (fresh ∷ []),
        next_is s,
        places_length w s bodies stands,
        stands.size,
      ) in
      let shown : map (slot_place bodies) ys ≡ w.places ++ p ∷ [] =
      map-append (slot_place bodies) (slots_from_start s) (fresh ∷ [])
      ∙ ap (λ (ps : List (Option Place)). ps ++ Some (Waits (bodies id) 0) ∷ []) (sym stands.places)
      ∙ ap (λ (f : FrameValue). w.places ++ Some (Waits f 0) ∷ []) (sym same) in
      let whole : front slot_state s.slots ++ ys ≡ s.slots ++ fresh ∷ [] =
      sym (append_assoc (front slot_state s.slots) (slots_from_start s) (fresh ∷ []))
      ∙ ap (λ (xs : List Slot). xs ++ fresh ∷ []) (front_rest slot_state s.slots) in
      let new : WindowValue = record w { places = w.places ++ p ∷ [] } in
      let stays : moved_on new ≡ new = not_moved new (start_below w s bodies stands)
      (settled_push w.places p (begins_unsettled w s bodies stands) refl) in
      let P : List Slot → Type 0 = λ zs. WindowStandsFor new (record s { slots = zs }) bodies in
      let Q : List (Option Place) → Type 0 = λ ps. WindowStandsFor (moved_on (record w { places = ps }))
      (record s { slots = front slot_state s.slots ++ ys }) bodies in
      let R : WindowValue → Type 0 = λ v. WindowStandsFor v
      (record s { slots = front slot_state s.slots ++ ys }) bodies in
      subst P whole (subst R stays (subst Q shown (slots_replaced w s bodies stands ys fits)))

  pub heard_law : (f : ℕ) → f ≤ start_of s → WindowStandsFor
      (record w { due = at_most (start_of s - f) w.due }) (record s { heard = max s.heard f }) bodies
  heard_law f below =
      let same_limit : min (start_of s - f) (start_of s - s.heard) ≡ start_of s - max s.heard f =
      omega arith in
      record {
        size = stands.size;
        start = stands.start;
        places = stands.places;
        due =
            ap (at_most (start_of s - f)) stands.due
            ∙ at_most_both (start_of s - f) (start_of s - s.heard)
            (since_failed slot_state None (front slot_state s.slots))
            ∙ ap (λ (limit : ℕ). at_most limit (since_failed slot_state None (front slot_state s.slots)))
            same_limit;
        unacked = stands.unacked;
        heard = omega (arith, stands.heard);
        room = stands.room;
        small = stands.small;
      }

  -- the window of a session without unsettled numbers gets another size, and the peer knows F
  pub resized_law : (size : ℕ) → w.places ≡ [] → size ≤ 256 →
      WindowStandsFor (record w { size = size; due = None })
      (record s { heard = max s.heard (start_of s); size = size }) bodies
  resized_law size none small =
      let after : Session = record s { heard = max s.heard (start_of s); size = size } in
      record {
        size = refl;
        start = stands.start;
        places = stands.places;
        due = is_none_then (due_distance after) (sym (request_due_is after) ∙ not_due after (omega arith));
        unacked = stands.unacked;
        heard = omega (arith, stands.heard);
        room = omega (arith, places_length w s bodies stands, ap length none);
        small = small;
      }
    where
      is_none_then : (d : Option ℕ) → is_some d ≡ false → None ≡ d
      is_none_then None e = refl
      is_none_then (Some d) e = absurd (cc e)

  module _ (n seq : ℕ) (number : IsNumber s n seq) where
    -- a change after which the number is not settled
    pub kept_law : (f : Slot → Slot) (p : Option Place) → p ≡ slot_place bodies (f (slot s n)) →
        is_settled (state_of_place p) ≡ false → WindowStandsFor
        (record w { places = set w.places (distance seq w.start) p }) (on_slot n f s) bodies
    kept_law f p same open_still =
        let new : WindowValue = record w { places = set w.places (distance seq w.start) p } in
        let stays : moved_on new ≡ new = not_moved new (start_below w s bodies stands)
        (settled_set w.places (distance seq w.start) p (begins_unsettled w s bodies stands) open_still) in
        let P : WindowValue → Type 0 = λ v. WindowStandsFor v (on_slot n f s) bodies in
        subst P stays (slot_changed w s bodies stands n seq number f p same)

    module _ (parcel : FrameValue) (attempts exchange limit : ℕ)
        (found : place_at w seq ≡ Some (Flies parcel attempts exchange)) where
      pub found_slot : IsFlyingSlot bodies (slot s n) parcel attempts exchange
      found_slot = flying_slot bodies (slot s n) parcel attempts exchange
          (sym found ∙ place_is w s bodies stands n seq number)

      -- its exchange ends so for the number
      pub ended_law : (end : End) (p : Option Place) → p ≡ place_ended end limit parcel attempts →
          WindowStandsFor (moved_on (record w { places = set w.places (distance seq w.start) p }))
          (after_end limit end n s) bodies
      ended_law End.Acknowledged p is = slot_changed w s bodies stands n seq number
          (λ y. record y { state = State.Acked }) p is
      ended_law End.Missed p is = slot_changed w s bodies stands n seq number (slot_after_miss limit) p
          (is ∙ ap (λ (f : FrameValue). place_ended End.Missed limit f attempts) found_slot.parcel_is
          ∙ ap (λ (a : ℕ). place_ended End.Missed limit (bodies (slot s n).id) a) found_slot.attempts_is
          ∙ missed_place (nat_le limit ((slot s n).attempts + 1)))
        where
          missed_place : (b : Bool) → (if b then Some Fails
              else Some (Waits (bodies (slot s n).id) ((slot s n).attempts + 1)))
              ≡ place_as (if b then State.Failed else State.Waiting) (bodies (slot s n).id)
              ((slot s n).attempts + 1)
          missed_place true = refl
          missed_place false = refl
      ended_law End.GivenUp p is = slot_changed w s bodies stands n seq number (slot_given_up limit) p is
      ended_law End.Unsent p is = slot_changed w s bodies stands n seq number
          (λ y. record y { state = State.Waiting }) p
          (is ∙ ap (λ (f : FrameValue). Some (Waits f attempts)) found_slot.parcel_is
          ∙ ap (λ (a : ℕ). Some (Waits (bodies (slot s n).id) a)) found_slot.attempts_is)
