-- Proves how a window and its session change together: the place of a number is the place of its slot, and
-- settled numbers at the front are dropped from both.
use Rattle.std.proofs.Common.{◌≡◌, ℕ, ◌+◌, ◌-◌, ◌%◌, ◌<◌, ◌≤◌, false, Option, None, List, [], ◌∷◌, ◌++◌, length, get_or, set, map, refl, ap, sym, ◌∙◌, subst, arith, length-append, length-set}
use Rattle.std.proofs.lemmas.List.{map-set, get_or-map, length-map}
use Rattle.wf_frame.specs.Frames.{FrameValue}
use Rattle.wf_def_agreement.specs.Session.{Session, Slot, State, no_slot, slot, on_slot, start_of, next_number, is_settled}
use Rattle.wf_def_lists.specs.Table.{change}
use Rattle.wf_send_parts.specs.declared.window.place.Place.{Place}
use Rattle.wf_send_parts.specs.Places.{state_of_place, slot_place, slot_state, front, rest, settled_first, since_failed, since_acked, at_most}
use Rattle.wf_octets.specs.Distance.{distance}
use Rattle.wf_send_parts.specs.Window.{WindowValue, WindowStandsFor, IsNumber, slots_from_start, moved_on, place_at}
use Rattle.wf_send_parts.proofs.Fronts.{lengths, front_none, rest_none, rest_unsettled, front_append, rest_append, since_append, unacked_append, front_map, rest_map, since_map, unacked_map, at_most_since, start_is, at_is, at_rest, change_is, change_rest}

-- a place has its slot's state
pub state_place : (bodies : ℕ → FrameValue) (x : Slot) → state_of_place (slot_place bodies x) ≡ slot_state x
state_place bodies x = elim x.state as (λ st. x.state ≡ st → state_of_place (slot_place bodies x) ≡ st) [
  | State.Waiting ↦ λ e. simp e
  | State.Flying exchange ↦ λ e. simp e
  | State.Acked ↦ λ e. simp e
  | State.Failed ↦ λ e. simp e
] refl

-- F and N
pub start_of_is : (s : Session) → start_of s ≡ s.first + length (front slot_state s.slots)
start_of_is s = start_is s.first s.slots

pub next_is : (s : Session) → next_number s ≡ start_of s + length (slots_from_start s)
next_is s = omega (arith, start_of_is s, lengths slot_state s.slots)

module _ (w : WindowValue) (s : Session) (bodies : ℕ → FrameValue) (stands : WindowStandsFor w s bodies) where
  pub places_length : start_of s + length w.places ≡ next_number s
  places_length = omega (
    arith,
    next_is s,
    ap length stands.places,
    length-map (slots_from_start s) (slot_place bodies),
  )

  -- the slots from F on are replaced by others, the first of which may be settled
  pub slots_replaced : (ys : List Slot) → length ys ≤ s.size →
      WindowStandsFor (moved_on (record w { places = map (slot_place bodies) ys }))
      (record s { slots = front slot_state s.slots ++ ys }) bodies
  slots_replaced ys fits =
      let new : Session = record s { slots = front slot_state s.slots ++ ys } in
      let same_front : front slot_state new.slots ≡ front slot_state s.slots ++ front slot_state ys =
      front_append slot_state s.slots ys in
      let shown_front : front state_of_place (map (slot_place bodies) ys)
      ≡ map (slot_place bodies) (front slot_state ys) =
      front_map slot_state state_of_place (slot_place bodies) (state_place bodies) ys in
      let shown_length : length (front state_of_place (map (slot_place bodies) ys))
      ≡ length (front slot_state ys) = ap length shown_front
      ∙ length-map (front slot_state ys) (slot_place bodies) in
      let start_new : start_of new ≡ start_of s + length (front slot_state ys) =
      omega (
        arith,
        start_of_is new,
        start_of_is s,
        ap length same_front,
        length-append (front slot_state s.slots) (front slot_state ys),
      ) in
      let same_limit : (start_of s - s.heard) + length (front slot_state ys) ≡ start_of new - s.heard =
      omega (arith, start_new, stands.heard) in
      record {
        size = stands.size;
        start = omega (arith, stands.start, start_new, shown_length);
        places =
            rest_map slot_state state_of_place (slot_place bodies) (state_place bodies) ys
            ∙ ap (map (slot_place bodies)) (sym (rest_append slot_state s.slots ys));
        due =
            ap (since_failed state_of_place w.due) shown_front
            ∙ since_map slot_state state_of_place (slot_place bodies) (state_place bodies) w.due
            (front slot_state ys)
            ∙ ap (λ (d : Option ℕ). since_failed slot_state d (front slot_state ys)) stands.due
            ∙ sym (at_most_since slot_state (start_of s - s.heard)
            (since_failed slot_state None (front slot_state s.slots)) (front slot_state ys))
            ∙ ap (at_most ((start_of s - s.heard) + length (front slot_state ys)))
            (sym (since_append slot_state None (front slot_state s.slots) (front slot_state ys)))
            ∙ ap (λ (d : List Slot). at_most ((start_of s - s.heard) + length (front slot_state ys))
            (since_failed slot_state None d)) (sym same_front)
            ∙ ap (λ (limit : ℕ). at_most limit (since_failed slot_state None (front slot_state new.slots)))
            same_limit;
        unacked =
            ap (since_acked state_of_place w.unacked) shown_front
            ∙ unacked_map slot_state state_of_place (slot_place bodies) (state_place bodies) w.unacked
            (front slot_state ys)
            ∙ ap (λ (count : ℕ). since_acked slot_state count (front slot_state ys)) stands.unacked
            ∙ sym (unacked_append slot_state 0 (front slot_state s.slots) (front slot_state ys))
            ∙ ap (λ (xs : List Slot). since_acked slot_state 0 xs) (sym same_front);
        heard = omega (arith, start_new, stands.heard);
        room = omega (
          arith,
          start_new,
          start_of_is s,
          next_is s,
          length-append (front slot_state s.slots) ys,
        );
        small = stands.small;
      }

-- numbers modulo 4096

pub ahead_number : (f n start seq : ℕ) → start ≡ f % 4096 → seq ≡ n % 4096 → f ≤ n → n < f + 4096 →
    distance seq start ≡ n - f
ahead_number f n start seq a b c d = omega arith

pub start_below : (w : WindowValue) (s : Session) (bodies : ℕ → FrameValue) → WindowStandsFor w s bodies →
    w.start < 4096
start_below w s bodies stands = omega (arith, stands.start)

-- a window whose first number is not settled does not move
pub not_moved : (w : WindowValue) → w.start < 4096 → settled_first state_of_place w.places ≡ false →
    moved_on w ≡ w
not_moved w small begins =
    let none : front state_of_place w.places ≡ [] = front_none state_of_place w.places begins in
    let same : rest state_of_place w.places ≡ w.places = rest_none state_of_place w.places begins in
    let start_same : (w.start + 0) % 4096 ≡ w.start = omega arith in
    ap (λ (f : List (Option Place)). record w {
      start = (w.start + length f) % 4096;
      places =
          rest state_of_place w.places;
      due = since_failed state_of_place w.due f;
      unacked = since_acked state_of_place w.unacked f;
    }) none
    ∙ ap (λ (r : List (Option Place)). record w { start = (w.start + 0) % 4096; places = r }) same
    ∙ ap (λ (n : ℕ). record w { start = n }) start_same

module _ (w : WindowValue) (s : Session) (bodies : ℕ → FrameValue) (stands : WindowStandsFor w s bodies) where
  pub begins_unsettled : settled_first state_of_place w.places ≡ false
  begins_unsettled = ap (settled_first state_of_place) stands.places ∙ map_first (slots_from_start s)
      ∙ rest_unsettled slot_state s.slots
    where
      map_first : (xs : List Slot) → settled_first state_of_place (map (slot_place bodies) xs)
          ≡ settled_first slot_state xs
      map_first [] = refl
      map_first (x ∷ xs) = ap is_settled (state_place bodies x)

  module _ (n seq : ℕ) (number : IsNumber s n seq) where
    pub distance_is : distance seq w.start ≡ n - start_of s
    distance_is = ahead_number (start_of s) n w.start seq stands.start number.on_air number.from_start
        (omega (arith, number.given, stands.room, stands.small))

    pub in_places : distance seq w.start < length w.places
    in_places = omega (arith, distance_is, number.from_start, number.given, places_length w s bodies stands)

    in_front : length (front slot_state s.slots) + (n - start_of s) ≡ n - s.first
    in_front = omega (arith, start_of_is s, number.from_start)

    in_rest : n - start_of s < length (slots_from_start s)
    in_rest = omega (arith, number.from_start, number.given, next_is s)

    slot_is : slot s n ≡ get_or (slots_from_start s) (n - start_of s) no_slot
    slot_is = at_rest s.slots (n - s.first) (n - start_of s) in_front
        ∙ at_is no_slot (slots_from_start s) (n - start_of s)

    -- the place of a number
    pub place_is : place_at w seq ≡ slot_place bodies (slot s n)
    place_is =
        ap (λ (k : ℕ). get_or w.places k None) distance_is
        ∙ ap (λ (ps : List (Option Place)). get_or ps (n - start_of s) None) stands.places
        ∙ get_or-map (slot_place bodies) (slots_from_start s) (n - start_of s) no_slot None in_rest
        ∙ ap (slot_place bodies) (sym slot_is)

    pub slots_changed : (f : Slot → Slot) → change no_slot s.slots (n - s.first) f ≡ front slot_state s.slots
        ++ set (slots_from_start s) (n - start_of s) (f (slot s n))
    slots_changed f =
        change_rest s.slots (n - s.first) (n - start_of s) f in_front
        ∙ ap (λ (ys : List Slot). front slot_state s.slots ++ ys)
        (change_is no_slot (slots_from_start s) (n - start_of s) f in_rest)
        ∙ ap (λ (x : Slot). front slot_state s.slots ++ set (slots_from_start s) (n - start_of s) (f x))
        (sym slot_is)

    -- a number's slot changes
    pub slot_changed : (f : Slot → Slot) (p : Option Place) → p ≡ slot_place bodies (f (slot s n)) →
        WindowStandsFor (moved_on (record w { places = set w.places (distance seq w.start) p }))
        (on_slot n f s) bodies
    slot_changed f p same =
        let ys : List Slot = set (slots_from_start s) (n - start_of s) (f (slot s n)) in
        let fits : length ys ≤ s.size = omega (
          arith,
          length-set (slots_from_start s) (n - start_of s) (f (slot s n)),
          next_is s,
          stands.room,
        ) in
        let shown : map (slot_place bodies) ys ≡ set w.places (distance seq w.start) p =
        map-set (slot_place bodies) (slots_from_start s) (n - start_of s) (f (slot s n))
        ∙ ap (λ (q : Option Place). set (map (slot_place bodies) (slots_from_start s)) (n - start_of s) q)
        (sym same)
        ∙ ap (λ (ps : List (Option Place)). set ps (n - start_of s) p) (sym stands.places)
        ∙ ap (λ (k : ℕ). set w.places k p) (sym distance_is) in
        let P : List Slot → Type 0 = λ zs. WindowStandsFor
        (moved_on (record w { places = set w.places (distance seq w.start) p }))
        (record s { slots = zs }) bodies in
        let Q : List (Option Place) → Type 0 = λ ps. WindowStandsFor (moved_on (record w { places = ps }))
        (record s { slots = front slot_state s.slots ++ ys }) bodies in
        subst P (sym (slots_changed f)) (subst Q shown (slots_replaced w s bodies stands ys fits))
