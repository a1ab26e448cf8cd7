-- Proves that as many places are on the air as numbers of the session, and that no place is left exactly if
-- all numbers are settled.
use Rattle.std.proofs.Common.{◌≡◌, ℕ, suc, ◌+◌, ◌<◌, ◌==◌, Bool, true, false, ◌&&◌, cond, if◌then◌else◌, Option, None, List, [], ◌∷◌, length, map, take, get_or, refl, ap, ap₂, sym, ◌∙◌, arith}
use Rattle.std.specs.Prelude.{count_by}
use Rattle.std.specs.List.{list_all}
use Rattle.std.proofs.lemmas.List.{length-map}
use Rattle.std.proofs.lemmas.List.Sums.{sum_by-cons, sum_by_more}
use Rattle.std.proofs.lemmas.Bool.Decides.{nat_tests}
use Rattle.wf_frame.specs.Frames.{FrameValue}
use Rattle.wf_def_agreement.specs.Session.{Session, Slot, State, is_settled, numbers_where}
use Rattle.wf_send_parts.specs.declared.window.place.Place.{Place}
use Rattle.wf_send_parts.specs.Flying.{flying_numbers, is_drained, flies}
use Rattle.wf_send_parts.specs.Places.{slot_place, slot_state, rest}
use Rattle.wf_send_parts.specs.Window.{WindowValue, WindowStandsFor, slots_from_start, is_flying}
use Rattle.wf_send_parts.proofs.Counting.{settled_flies}
use Rattle.wf_send_parts.proofs.Laws.{state_place}

count_cons : {X : Type 0} (p : X → Bool) (x : X) (xs : List X) →
    count_by p (x ∷ xs) ≡ cond (p x) 1 0 + count_by p xs
count_cons p x xs = sum_by-cons (λ y. cond (p y) 1 0) x xs

-- the settled slots at the front are not on the air
counted_rest : (xs : List Slot) →
    count_by (λ x. is_flying x.state) (rest slot_state xs) ≡ count_by (λ x. is_flying x.state) xs
counted_rest [] = refl
counted_rest (x ∷ xs) = elim (is_settled x.state) as
    (λ b. is_settled x.state ≡ b →
    count_by (λ y. is_flying y.state) (if b then rest slot_state xs else x ∷ xs)
    ≡ count_by (λ y. is_flying y.state) (x ∷ xs)) [
      | true ↦ λ e.
          let none : ◌≡◌ {A = ℕ} (cond (is_flying x.state) 1 0) 0 =
          ap (λ (b : Bool). cond {A = ℕ} b 1 0) (settled_flies x.state e) in
          omega (arith, counted_rest xs, none, count_cons (λ (y : Slot). is_flying y.state) x xs)
      | false ↦ λ _. refl
    ] refl

counted_map : (bodies : ℕ → FrameValue) (xs : List Slot) →
    count_by flies (map (slot_place bodies) xs) ≡ count_by (λ x. is_flying x.state) xs
counted_map bodies [] = refl
counted_map bodies (x ∷ xs) =
    count_cons flies (slot_place bodies x) (map (slot_place bodies) xs)
    ∙ ap₂ (λ (st : State) (n : ℕ). cond (is_flying st) 1 0 + n) (state_place bodies x)
    (counted_map bodies xs)
    ∙ sym (count_cons (λ (y : Slot). is_flying y.state) x xs)

counted_number : (n : ℕ) (xs : List Slot) → count_by (λ x. is_flying x.state) xs
    ≡ length (numbers_where is_flying n xs)
counted_number n [] = refl
counted_number n (x ∷ xs) =
    count_cons (λ (y : Slot). is_flying y.state) x xs
    ∙ elim (is_flying x.state) as (λ b. cond b 1 0 + count_by (λ x. is_flying x.state) xs
    ≡ length (if b then n ∷ numbers_where is_flying (suc n) xs
    else numbers_where is_flying (suc n) xs)) [
      | true ↦ omega (arith, counted_number (suc n) xs)
      | false ↦ omega (arith, counted_number (suc n) xs)
    ]

-- as many places are on the air as numbers
pub all_fly : (w : WindowValue) (s : Session) (bodies : ℕ → FrameValue) → WindowStandsFor w s bodies →
    count_by flies w.places ≡ length (flying_numbers s)
all_fly w s bodies stands =
    ap (λ (ps : List (Option Place)). count_by flies ps) stands.places
    ∙ counted_map bodies (slots_from_start s)
    ∙ counted_rest s.slots
    ∙ counted_number s.first s.slots

-- one place more is counted
pub count_more : (ps : List (Option Place)) (i count : ℕ) (flag : Bool) → i < length ps →
    count ≡ count_by flies (take i ps) → flag ≡ flies (get_or ps i None) →
    count + cond flag 1 0 ≡ count_by flies (take (i + 1) ps)
count_more ps i count flag low so_far is = omega (
  arith,
  so_far,
  ap (λ (b : Bool). cond {A = ℕ} b 1 0) is,
  sum_by_more (λ (p : Option Place). cond {A = ℕ} (flies p) 1 0) ps i None low,
)

-- no slot is left from the first unsettled one on exactly if all are settled
none_left : (xs : List Slot) →
    (length (rest slot_state xs) == 0) ≡ list_all (λ x. is_settled x.state) xs
none_left [] = refl
none_left (x ∷ xs) =
    let some : (suc (length xs) == 0) ≡ false = grind (arith, nat_tests) in
    elim (is_settled x.state) as (λ b. (length (if b then rest slot_state xs else x ∷ xs) == 0)
    ≡ b && list_all (λ y. is_settled y.state) xs) [
      | true ↦ none_left xs
      | false ↦ some
    ]

-- no place is left exactly if all numbers are settled
pub drained_is : (w : WindowValue) (s : Session) (bodies : ℕ → FrameValue) → WindowStandsFor w s bodies →
    (length w.places == 0) ≡ is_drained s
drained_is w s bodies stands =
    ap (λ (n : ℕ). n == 0) (ap (λ (ps : List (Option Place)). length ps) stands.places
    ∙ length-map (slots_from_start s) (slot_place bodies))
    ∙ none_left s.slots
