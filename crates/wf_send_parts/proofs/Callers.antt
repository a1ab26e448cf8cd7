-- Proves what callers need of a window that represents a session: its queries, and how F and N move.
use Rattle.std.proofs.Common.{◌≡◌, ℕ, zero, suc, ◌+◌, ◌-◌, ◌%◌, ◌<◌, ◌≤◌, Bool, true, false, if◌then◌else◌, is_some, Option, List, [], ◌∷◌, ◌++◌, length, set, map, refl, ap, sym, ◌∙◌, subst, arith, length-append, length-set}
use Rattle.std.proofs.lemmas.List.{nil_from_length}
use Rattle.wf_frame.specs.Frames.{FrameValue}
use Rattle.wf_def_agreement.specs.Session.{Session, Slot, State, no_slot, slot, on_slot, with_number_given, start_of, next_number, request_due, is_settled}
use Rattle.wf_def_lists.specs.Table.{at, change}
use Rattle.wf_send_parts.specs.declared.window.place.Place.{Place}
use Rattle.wf_send_parts.specs.Places.{state_of_place, slot_place, slot_state, front, settled_first}
use Rattle.wf_octets.specs.Distance.{distance}
use Rattle.wf_send_parts.specs.Window.{WindowValue, WindowStandsFor, IsNumber, slots_from_start, place_at, state_at, attempts_of, holds_parcel, HasFrame}
use Rattle.wf_send_parts.proofs.Fronts.{lengths, front_none, rest_unsettled, front_append, front_push}
use Rattle.wf_send_parts.proofs.Due.{request_due_is}
use Rattle.wf_send_parts.proofs.Laws.{start_of_is, next_is, places_length, ahead_number, place_is, state_place, slots_changed}
use Rattle.wf_send_parts.proofs.Finding.{attempts_held, holds_frame}

-- replacing one slot by an unsettled one leaves the first slot unsettled

settled_set : (xs : List Slot) (i : ℕ) (y : Slot) → settled_first slot_state xs ≡ false →
    is_settled y.state ≡ false → settled_first slot_state (set xs i y) ≡ false
settled_set [] i y h k = refl
settled_set (x ∷ xs) zero y h k = k
settled_set (x ∷ xs) (suc i) y h k = h

one_settled : (xs : List Slot) (y : Slot) → length xs ≡ 1 → is_settled y.state ≡ true →
    length (front slot_state (set xs 0 y)) ≡ 1
one_settled [] y h k = absurd (omega arith)
one_settled (x ∷ []) y h k = ap (λ (b : Bool). length (if b then y ∷ [] else [])) k
one_settled (x ∷ z ∷ xs) y h k = absurd (omega arith)

some_settled : (xs : List Slot) (y : Slot) → 1 ≤ length xs → is_settled y.state ≡ true →
    1 ≤ length (front slot_state (set xs 0 y))
some_settled [] y h k = absurd (omega arith)
some_settled (x ∷ xs) y h k = omega (
  arith,
  ap
      (λ (b : Bool). length (if b then y ∷ front slot_state xs else [])) k,
)

-- one slot of a table

at_append : (xs : List Slot) (x : Slot) → at no_slot (xs ++ x ∷ []) (length xs) ≡ x
at_append [] x = refl
at_append (y ∷ xs) x = at_append xs x

at_change_same : (xs : List Slot) (k : ℕ) (f : Slot → Slot) →
    at no_slot (change no_slot xs k f) k ≡ f (at no_slot xs k)
at_change_same [] zero f = refl
at_change_same [] (suc k) f = at_change_same [] k f
at_change_same (x ∷ xs) zero f = refl
at_change_same (x ∷ xs) (suc k) f = at_change_same xs k f

-- one number

module _ (w : WindowValue) (s : Session) (bodies : ℕ → FrameValue) (stands : WindowStandsFor w s bodies)
    (n seq : ℕ) (number : IsNumber s n seq) where
  pub state_is : state_at w seq ≡ (slot s n).state
  state_is = ap state_of_place (place_is w s bodies stands n seq number) ∙ state_place bodies (slot s n)

  pub attempts_is : holds_parcel (slot s n).state ≡ true → attempts_of (place_at w seq) ≡ (slot s n).attempts
  attempts_is held = ap attempts_of (place_is w s bodies stands n seq number)
      ∙ attempts_held bodies (slot s n) held

  pub frame_is : holds_parcel (slot s n).state ≡ true → HasFrame (place_at w seq) (bodies (slot s n).id)
  frame_is held =
      let P : Option Place → Type 0 = λ p. HasFrame p (bodies (slot s n).id) in
      subst P (sym (place_is w s bodies stands n seq number)) (holds_frame bodies (slot s n) held)

  pub slot_same : (f : Slot → Slot) → slot (on_slot n f s) n ≡ f (slot s n)
  slot_same f = at_change_same s.slots (n - s.first) f

  pub next_kept : (f : Slot → Slot) → next_number (on_slot n f s) ≡ next_number s
  next_kept f =
      let ys : List Slot = set (slots_from_start s) (n - start_of s) (f (slot s n)) in
      omega (
        arith,
        ap length (slots_changed w s bodies stands n seq number f),
        length-append (front slot_state s.slots) ys,
        length-set (slots_from_start s) (n - start_of s) (f (slot s n)),
        lengths slot_state s.slots,
      )

  start_with : (f : Slot → Slot) → start_of (on_slot n f s)
      ≡ start_of s + length (front slot_state (set (slots_from_start s) (n - start_of s) (f (slot s n))))
  start_with f =
      let ys : List Slot = set (slots_from_start s) (n - start_of s) (f (slot s n)) in
      let whole : front slot_state (on_slot n f s).slots ≡ front slot_state s.slots ++ front slot_state ys =
      ap (front slot_state) (slots_changed w s bodies stands n seq number f)
      ∙ front_append slot_state s.slots ys in
      omega (
        arith,
        start_of_is (on_slot n f s),
        start_of_is s,
        ap length whole,
        length-append (front slot_state s.slots) (front slot_state ys),
      )

  pub start_kept : (f : Slot → Slot) → is_settled (f (slot s n)).state ≡ false →
      start_of (on_slot n f s) ≡ start_of s
  start_kept f open_still =
      let ys : List Slot = set (slots_from_start s) (n - start_of s) (f (slot s n)) in
      let none : front slot_state ys ≡ [] = front_none slot_state ys
      (settled_set (slots_from_start s) (n - start_of s) (f (slot s n))
      (rest_unsettled slot_state s.slots) open_still) in
      omega (arith, start_with f, ap length none)

  -- settling the only unsettled number moves F past it
  pub start_past : (f : Slot → Slot) → n ≡ start_of s → next_number s ≡ n + 1 →
      is_settled (f (slot s n)).state ≡ true → start_of (on_slot n f s) ≡ n + 1
  start_past f first last settled =
      let one : length (slots_from_start s) ≡ 1 = omega (arith, next_is s) in
      let at_front : n - start_of s ≡ 0 = omega (arith, first) in
      let moved : length (front slot_state (set (slots_from_start s) (n - start_of s) (f (slot s n)))) ≡ 1 =
      ap (λ (k : ℕ). length (front slot_state (set (slots_from_start s) k (f (slot s n))))) at_front
      ∙ one_settled (slots_from_start s) (f (slot s n)) one settled in
      omega (arith, start_with f, moved)

  -- settling the first unsettled number moves F up
  pub start_moves : (f : Slot → Slot) → n ≡ start_of s → is_settled (f (slot s n)).state ≡ true →
      start_of s < start_of (on_slot n f s)
  start_moves f first settled =
      let some : 1 ≤ length (slots_from_start s) = omega (arith, next_is s, number.given, first) in
      let at_front : n - start_of s ≡ 0 = omega (arith, first) in
      let same = ap (λ (k : ℕ). length (front slot_state (set (slots_from_start s) k (f (slot s n)))))
      at_front in
      omega (arith, start_with f, same, some_settled (slots_from_start s) (f (slot s n)) some settled)

-- the window as a whole

module _ (w : WindowValue) (s : Session) (bodies : ℕ → FrameValue) (stands : WindowStandsFor w s bodies) where
  pub due_shown : is_some w.due ≡ request_due s
  due_shown = ap is_some stands.due ∙ sym (request_due_is s)

  pub heard_near : (f start : ℕ) → start ≡ f % 4096 → f ≤ start_of s → next_number s ≤ f + s.size →
      distance w.start start + length w.places ≤ w.size
  heard_near f start on_air below near =
      let same : distance w.start start ≡ start_of s - f =
      ahead_number f (start_of s) start w.start on_air stands.start below
      (omega (arith, places_length w s bodies stands, stands.small)) in
      omega (arith, same, places_length w s bodies stands, stands.size)

  pub places_none : next_number s ≡ start_of s → w.places ≡ []
  places_none none = nil_from_length w.places (omega (arith, places_length w s bodies stands))

  -- the window still represents the session if the frames differ only for ids that it does not hold
  pub other_bodies : (others : ℕ → FrameValue) →
      map (slot_place bodies) (slots_from_start s) ≡ map (slot_place others) (slots_from_start s) →
      WindowStandsFor w s others
  other_bodies others same =
      record {
        size = stands.size;
        start = stands.start;
        places = stands.places ∙ same;
        due = stands.due;
        unacked = stands.unacked;
        heard = stands.heard;
        room = stands.room;
        small = stands.small;
      }

-- a number that is given

pub slot_given : (s : Session) (id : ℕ) → slot (with_number_given s id) (next_number s)
    ≡ record { id = id; attempts = 0; state = State.Waiting }
slot_given s id =
    let same : next_number s - s.first ≡ length s.slots = omega arith in
    ap (at no_slot (with_number_given s id).slots) same
    ∙ at_append s.slots (record { id = id; attempts = 0; state = State.Waiting })

pub next_given : (s : Session) (id : ℕ) → next_number (with_number_given s id) ≡ next_number s + 1
next_given s id = omega (
  arith,
  length-append s.slots
      (record { id = id; attempts = 0; state = State.Waiting } ∷ []),
)

pub start_given : (s : Session) (id : ℕ) → start_of (with_number_given s id) ≡ start_of s
start_given s id = omega (
  arith,
  start_of_is (with_number_given s id),
  start_of_is s,
  ap length (front_push slot_state s.slots (record { id = id; attempts = 0; state = State.Waiting }) refl),
)
