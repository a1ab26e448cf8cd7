-- Proves which numbers wait or fly, as callers ask.
use Rattle.std.proofs.Common.{◌≡◌, ℕ, zero, suc, ◌+◌, ◌-◌, ◌%◌, ◌<◌, ◌≤◌, nat_le, Bool, true, false, ◌||◌, cond, if◌then◌else◌, Option, Some, List, [], ◌∷◌, length, get_or, map, refl, ap, sym, ◌∙◌, arith}
use Rattle.std.specs.List.{find, list_any}
use Rattle.std.proofs.lemmas.Bool.Decides.{nat_tests}
use Rattle.wf_frame.specs.Frames.{FrameValue}
use Rattle.wf_def_agreement.specs.Session.{Session, Slot, State, no_slot, slot, start_of, next_number, is_settled, is_waiting, numbers_where}
use Rattle.wf_def_lists.specs.Table.{at}
use Rattle.wf_send_parts.specs.declared.window.place.Place.{Place}
use Rattle.wf_send_parts.specs.Places.{state_of_place, slot_place, slot_state, front}
use Rattle.wf_send_parts.specs.Window.{WindowValue, WindowStandsFor, IsNumber, slots_from_start, waiting_from, is_flying, some_fly}
use Rattle.wf_send_parts.proofs.Fronts.{at_is, at_rest}
use Rattle.wf_send_parts.proofs.Laws.{start_of_is, next_is, state_place}

-- an unsettled number is from F to below N

pub open_place : (xs : List Slot) (k : ℕ) → is_settled (at no_slot xs k).state ≡ false →
    (length (front slot_state xs) ≤ k) × (k < length xs)
open_place [] k h = absurd (cc h)
open_place (x ∷ xs) zero h = (
  omega (
    arith,
    ap
        (λ (b : Bool). length (if b then x ∷ front slot_state xs else [])) h,
  ),
  omega arith,
)
open_place (x ∷ xs) (suc k) h =
    let rest_is = open_place xs k h in (
      elim (is_settled x.state) as (λ b. length (if b then x ∷ front slot_state xs else []) ≤ suc k) [
        | true ↦
            omega (arith, rest_is.0)
        | false ↦ omega arith
      ],
      omega (arith, rest_is.1),
    )

pub open_number : (s : Session) (n seq : ℕ) → s.first ≤ n → is_settled (slot s n).state ≡ false →
    seq ≡ n % 4096 → IsNumber s n seq
open_number s n seq first h e =
    let p = open_place s.slots (n - s.first) h in
    record { from_start = omega (arith, start_of_is s, p.0); given = omega (arith, p.1); on_air = e }

-- the first waiting number from n on

record IsFound (n : ℕ) (xs : List Slot) (m r : ℕ) : Type 0 where
  above : n ≤ r
  from : m ≤ r
  waits : is_waiting (at no_slot xs (r - m)).state ≡ true

found_next : (n : ℕ) (x : Slot) (xs : List Slot) (m r : ℕ) → IsFound n xs (suc m) r → IsFound n (x ∷ xs) m r
found_next n x xs m r f =
    let next : suc (r - suc m) ≡ r - m = omega (arith, f.from) in
    record {
      above = f.above;
      from = omega (arith, f.from);
      waits =
          ap (λ (k : ℕ). is_waiting (at no_slot (x ∷ xs) k).state) (sym next) ∙ f.waits;
    }

found_here : (n : ℕ) (x : Slot) (xs : List Slot) (m r : ℕ) → n ≤ m → m ≡ r → is_waiting x.state ≡ true →
    IsFound n (x ∷ xs) m r
found_here n x xs m r above same w =
    let at_first : r - m ≡ 0 = omega arith in
    record {
      above = omega arith;
      from = omega arith;
      waits =
          ap (λ (k : ℕ). is_waiting (at no_slot (x ∷ xs) k).state) at_first ∙ w;
    }

find_is : (n : ℕ) (xs : List Slot) (m r : ℕ) →
    find (λ x. nat_le n x) (numbers_where is_waiting m xs) ≡ Some r → IsFound n xs m r
find_is n [] m r h = absurd (cc h)
find_is n (x ∷ xs) m r h = elim (is_waiting x.state) as
    (λ b. is_waiting x.state ≡ b → find (λ x. nat_le n x)
    (if b then m ∷ numbers_where is_waiting (suc m) xs else numbers_where is_waiting (suc m) xs) ≡ Some r →
    IsFound n (x ∷ xs) m r) [
      | true ↦ λ w h. pick (nat_le n m) refl w (λ h. found_next n x xs m r (find_is n xs (suc m) r h)) h
      | false ↦ λ w h. found_next n x xs m r (find_is n xs (suc m) r h)
    ] refl h
  where
    pick : (b : Bool) → nat_le n m ≡ b → is_waiting x.state ≡ true →
        (find (λ x. nat_le n x) (numbers_where is_waiting (suc m) xs) ≡ Some r → IsFound n (x ∷ xs) m r) →
        cond b (Some m) (find (λ x. nat_le n x) (numbers_where is_waiting (suc m) xs)) ≡ Some r →
        IsFound n (x ∷ xs) m r
    pick true t w next h = found_here n x xs m r (grind (arith, nat_tests, t)) (cc h) w
    pick false t w next h = next h

pub waiting_is : (st : State) → is_waiting st ≡ true → st ≡ State.Waiting
waiting_is State.Waiting h = refl
waiting_is (State.Flying e) h = absurd (cc h)
waiting_is State.Acked h = absurd (cc h)
waiting_is State.Failed h = absurd (cc h)

pub record IsWaitingFrom (s : Session) (n m : ℕ) : Type 0 where
  pub above : n ≤ m
  pub number : IsNumber s m (m % 4096)
  pub waits : (slot s m).state ≡ State.Waiting

pub waiting_from_is : (s : Session) (n m : ℕ) → waiting_from s n ≡ Some m → IsWaitingFrom s n m
waiting_from_is s n m h =
    let f = find_is n s.slots s.first m h in
    let w : (slot s m).state ≡ State.Waiting = waiting_is (slot s m).state f.waits in
    record { above = f.above; number = open_number s m (m % 4096) f.from (ap is_settled w) refl; waits = w }

-- no number flies

module _ (bodies : ℕ → FrameValue) where
  none_of : (ys : List Slot) → ((j : ℕ) → j < length ys → is_flying (get_or ys j no_slot).state ≡ false) →
      list_any (λ p. is_flying (state_of_place p)) (map (slot_place bodies) ys) ≡ false
  none_of [] h = refl
  none_of (y ∷ ys) h =
      let here : is_flying (state_of_place (slot_place bodies y)) ≡ false =
      ap is_flying (state_place bodies y) ∙ h 0 (omega arith) in
      ap (λ (b : Bool). b || list_any (λ p. is_flying (state_of_place p)) (map (slot_place bodies) ys)) here
      ∙ none_of ys (λ j below. h (suc j) (omega arith))

pub none_fly : (w : WindowValue) (s : Session) (bodies : ℕ → FrameValue) → WindowStandsFor w s bodies →
    ((n : ℕ) → start_of s ≤ n → n < next_number s → is_flying (slot s n).state ≡ false) → some_fly w ≡ false
none_fly w s bodies stands none =
    ap (λ (ps : List (Option Place)). list_any (λ p. is_flying (state_of_place p)) ps) stands.places
    ∙ none_of bodies (slots_from_start s) (λ j below.
    let k : ℕ = (start_of s + j) - s.first in
    let in_front : length (front slot_state s.slots) + j ≡ k = omega (arith, start_of_is s) in
    let same : at no_slot s.slots k ≡ get_or (slots_from_start s) j no_slot =
    at_rest s.slots k j in_front ∙ at_is no_slot (slots_from_start s) j in
    ap (λ (x : Slot). is_flying x.state) (sym same)
    ∙ none (start_of s + j) (omega arith) (omega (arith, next_is s, below)))

-- two windows of the same capacity that represent the same session are equal

pub one_shown : (w v : WindowValue) (s : Session) (bodies : ℕ → FrameValue) → w.capacity ≡ v.capacity →
    WindowStandsFor w s bodies → WindowStandsFor v s bodies → w ≡ v
one_shown w v s bodies capacity a b =
    let P : ℕ → ℕ → ℕ → List (Option Place) → Option ℕ → ℕ → WindowValue = λ c z t ps d u. record {
      capacity = c;
      size = z;
      start = t;
      places = ps;
      due = d;
      unacked = u;
    } in
    ap (λ (c : ℕ). P c w.size w.start w.places w.due w.unacked) capacity
    ∙ ap (λ (z : ℕ). P v.capacity z w.start w.places w.due w.unacked) (a.size ∙ sym b.size)
    ∙ ap (λ (t : ℕ). P v.capacity v.size t w.places w.due w.unacked) (a.start ∙ sym b.start)
    ∙ ap (λ (ps : List (Option Place)). P v.capacity v.size v.start ps w.due w.unacked)
    (a.places ∙ sym b.places)
    ∙ ap (λ (d : Option ℕ). P v.capacity v.size v.start v.places d w.unacked) (a.due ∙ sym b.due)
    ∙ ap (λ (u : ℕ). P v.capacity v.size v.start v.places v.due u) (a.unacked ∙ sym b.unacked)
