-- Proves that expelling returns the frames of the waiting numbers in order, if no number flies.
use Rattle.std.proofs.Common.{◌≡◌, ℕ, zero, suc, ◌-◌, ◌<◌, Bool, true, false, ◌||◌, cond, if◌then◌else◌, List, [], ◌∷◌, ◌++◌, length, map, append_assoc, refl, ap, sym, ◌∙◌, arith}
use Rattle.std.specs.List.{list_any, filter}
use Rattle.std.proofs.lemmas.List.{append-nil}
use Rattle.wf_frame.specs.Frames.{FrameValue}
use Rattle.wf_def_agreement.specs.Session.{Session, Slot, State, no_slot, slot, start_of, next_number, is_settled, is_waiting, with_state}
use Rattle.wf_def_lists.specs.Table.{at, change}
use Rattle.wf_send_parts.specs.Places.{slot_state, front, rest}
use Rattle.wf_send_parts.specs.Window.{WindowValue, WindowStandsFor, is_flying, some_fly}
use Rattle.wf_send_parts.specs.Expelling.{has_flying, waiting_slots, frame_left, frames_left, HasExpelled}
use Rattle.wf_send_parts.proofs.Laws.{start_of_is, next_is}
use Rattle.wf_send_parts.proofs.Counting.{settled_waits, some_flies}
use Rattle.wf_send_parts.proofs.Callers.{places_none}

abbrev acked : Slot → Slot
acked x = record x { state = State.Acked }

abbrev waiting : List Slot → List Slot
waiting xs = filter (λ x. is_waiting x.state) xs

abbrev flying : List Slot → Bool
flying xs = list_any (λ x. is_flying x.state) xs

none_behind : (x : Slot) (xs : List Slot) → flying (x ∷ xs) ≡ false → flying xs ≡ false
none_behind x xs h = second (is_flying x.state) h
  where
    second : (b : Bool) → b || flying xs ≡ false → flying xs ≡ false
    second true h = absurd (cc h)
    second false h = h

none_first : (x : Slot) (xs : List Slot) → flying (x ∷ xs) ≡ false → is_flying x.state ≡ false
none_first x xs h = first (is_flying x.state) h
  where
    first : (b : Bool) → b || flying xs ≡ false → b ≡ false
    first true h = absurd (cc h)
    first false h = refl

-- a number that is not settled and does not fly waits
open_waits : (st : State) → is_settled st ≡ false → is_flying st ≡ false → is_waiting st ≡ true
open_waits State.Waiting h k = refl
open_waits (State.Flying e) h k = absurd (cc k)
open_waits State.Acked h k = absurd (cc h)
open_waits State.Failed h k = absurd (cc h)

-- taking the first unsettled slot takes the first waiting one
first_goes : (xs : List Slot) → flying xs ≡ false → 0 < length (rest slot_state xs) →
    waiting xs ≡ at no_slot xs (length (front slot_state xs))
    ∷ waiting (change no_slot xs (length (front slot_state xs)) acked)
first_goes [] h some = absurd (omega arith)
first_goes (x ∷ xs) h some = elim (is_settled x.state) as
    (λ b. is_settled x.state ≡ b → 0 < length (if b then rest slot_state xs else x ∷ xs) →
    waiting (x ∷ xs) ≡ at no_slot (x ∷ xs) (length (if b then x ∷ front slot_state xs else []))
    ∷ waiting (change no_slot (x ∷ xs) (length (if b then x ∷ front slot_state xs else [])) acked)) [
      | true ↦ λ e some.
          let out : is_waiting x.state ≡ false = settled_waits x.state e in
          let k : ℕ = length (front slot_state xs) in
          ap (λ (b : Bool). cond b (x ∷ waiting xs) (waiting xs)) out
          ∙ first_goes xs (none_behind x xs h) some
          ∙ ap (λ (b : Bool). at no_slot xs k ∷ cond b (x ∷ waiting (change no_slot xs k acked))
          (waiting (change no_slot xs k acked))) (sym out)
      | false ↦ λ e some.
          ap (λ (b : Bool). cond b (x ∷ waiting xs) (waiting xs)) (open_waits x.state e (none_first x xs h))
    ] refl some

none_left : (xs : List Slot) → length (rest slot_state xs) ≡ 0 → waiting xs ≡ []
none_left [] h = refl
none_left (x ∷ xs) h = elim (is_settled x.state) as
    (λ b. is_settled x.state ≡ b → length (if b then rest slot_state xs else x ∷ xs) ≡ 0 →
    waiting (x ∷ xs) ≡ []) [
      | true ↦ λ e h. ap (λ (b : Bool). cond b (x ∷ waiting xs) (waiting xs)) (settled_waits x.state e)
          ∙ none_left xs h
      | false ↦ λ _ h. absurd (omega (arith, h))
    ] refl h

-- still no number flies
still_none : (xs : List Slot) (k : ℕ) → flying xs ≡ false → flying (change no_slot xs k acked) ≡ false
still_none [] zero h = refl
still_none [] (suc k) h = still_none [] k refl
still_none (x ∷ xs) zero h = none_behind x xs h
still_none (x ∷ xs) (suc k) h = ap (λ (b : Bool). b || flying (change no_slot xs k acked)) (none_first x xs h)
    ∙ still_none xs k (none_behind x xs h)

-- the session

pub first_expelled : (s : Session) → has_flying s ≡ false → start_of s < next_number s →
    waiting_slots s ≡ slot s (start_of s) ∷ waiting_slots (with_state State.Acked (start_of s) s)
first_expelled s none some =
    let place : start_of s - s.first ≡ length (front slot_state s.slots) = omega (arith, start_of_is s) in
    first_goes s.slots none (omega (arith, next_is s))
    ∙ ap (λ (k : ℕ). at no_slot s.slots k ∷ waiting (change no_slot s.slots k acked)) (sym place)

pub none_fly_still : (s : Session) (n : ℕ) → has_flying s ≡ false →
    has_flying (with_state State.Acked n s) ≡ false
none_fly_still s n none = still_none s.slots (n - s.first) none

pub none_wait : (s : Session) → next_number s ≡ start_of s → waiting_slots s ≡ []
none_wait s h = none_left s.slots (omega (arith, next_is s))

-- the loop

pub expelling_begins : (w : WindowValue) (s : Session) (bodies : ℕ → FrameValue) →
    WindowStandsFor w s bodies → some_fly w ≡ false → HasExpelled w s bodies []
expelling_begins w s bodies stands none =
    record { now = s; stands = stands; none_fly = sym (some_flies w s bodies stands) ∙ none; rest = refl }

module _ (w : WindowValue) (before : Session) (bodies : ℕ → FrameValue) (frames : List FrameValue)
    (so_far : HasExpelled w before bodies frames) where
  pub expelling_next : (v : WindowValue) (frame : FrameValue) → start_of so_far.now < next_number so_far.now →
      frame ≡ frame_left bodies (slot so_far.now (start_of so_far.now)) →
      WindowStandsFor v (with_state State.Acked (start_of so_far.now) so_far.now) bodies →
      HasExpelled v before bodies (frames ++ frame ∷ [])
  expelling_next v frame some same stands =
      let y : Session = so_far.now in
      let next : Session = with_state State.Acked (start_of y) y in
      let first : frames_left bodies y ≡ frame ∷ frames_left bodies next =
      ap (map (frame_left bodies)) (first_expelled y so_far.none_fly some)
      ∙ ap (λ (f : FrameValue). f ∷ frames_left bodies next) (sym same) in
      record {
        now = next;
        stands = stands;
        none_fly = none_fly_still y (start_of y) so_far.none_fly;
        rest = append_assoc frames (frame ∷ []) (frames_left bodies next)
            ∙ ap (λ (fs : List FrameValue). frames ++ fs) (sym first) ∙ so_far.rest;
      }

  pub expelling_ends : next_number so_far.now ≡ start_of so_far.now → frames ≡ frames_left bodies before
  expelling_ends h =
      sym (append-nil frames) ∙ ap (λ (xs : List Slot). frames ++ map (frame_left bodies) xs)
      (sym (none_wait so_far.now h)) ∙ so_far.rest

  pub expelling_empties : next_number so_far.now ≡ start_of so_far.now → w.places ≡ []
  expelling_empties h = places_none w so_far.now bodies so_far.stands h
