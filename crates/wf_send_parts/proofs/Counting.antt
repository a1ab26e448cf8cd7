-- Proves that equally many places wait, or fly, as numbers of the session do. Settled places at the front do
-- not matter, since no settled number waits or flies.
use Rattle.std.proofs.Common.{◌≡◌, ℕ, suc, ◌+◌, ◌<◌, nat_lt, Bool, true, false, ◌||◌, cond, if◌then◌else◌, Option, None, List, [], ◌∷◌, length, set, map, refl, ap, ap₂, sym, ◌∙◌, arith}
use Rattle.std.specs.Prelude.{count_by}
use Rattle.std.specs.List.{list_any}
use Rattle.std.proofs.lemmas.List.Sums.{sum_by-cons}
use Rattle.std.proofs.lemmas.Bool.Decides.{nat_tests}
use Rattle.wf_frame.specs.Frames.{FrameValue}
use Rattle.wf_def_agreement.specs.Session.{Session, Slot, State, is_settled, is_waiting, numbers_where, waiting_numbers}
use Rattle.wf_send_parts.specs.declared.window.place.Place.{Place}
use Rattle.wf_send_parts.specs.Places.{state_of_place, slot_place, slot_state, rest}
use Rattle.wf_send_parts.specs.Window.{WindowValue, WindowStandsFor, slots_from_start, waits, is_flying, some_fly}
use Rattle.wf_send_parts.specs.Expelling.{has_flying}
use Rattle.wf_send_parts.proofs.Fronts.{lengths}
use Rattle.wf_send_parts.proofs.Laws.{state_place}

-- a count is above 0 exactly if some item passes the test
pub some_counted : {X : Type 0} (p : X → Bool) → (xs : List X) → nat_lt 0 (count_by p xs) ≡ list_any p xs
some_counted p [] = refl
some_counted p (x ∷ xs) =
    let more : nat_lt 0 (1 + count_by p xs) ≡ true = grind (arith, nat_tests) in
    let same : 0 + count_by p xs ≡ count_by p xs = omega arith in
    ap (λ (n : ℕ). nat_lt 0 n) (sum_by-cons (λ y. cond (p y) 1 0) x xs)
    ∙ elim (p x) as (λ b. nat_lt 0 (cond b 1 0 + count_by p xs) ≡ b || list_any p xs) [
      | true ↦ more
      | false ↦ ap (λ (n : ℕ). nat_lt 0 n) same ∙ some_counted p xs
    ]

-- a settled number neither waits nor flies

pub settled_waits : (st : State) → is_settled st ≡ true → is_waiting st ≡ false
settled_waits State.Waiting h = absurd (cc h)
settled_waits (State.Flying e) h = refl
settled_waits State.Acked h = refl
settled_waits State.Failed h = refl

pub settled_flies : (st : State) → is_settled st ≡ true → is_flying st ≡ false
settled_flies State.Waiting h = refl
settled_flies (State.Flying e) h = absurd (cc h)
settled_flies State.Acked h = refl
settled_flies State.Failed h = refl

-- a test of states that no settled state passes
module _ (test : State → Bool) (open_alone : (st : State) → is_settled st ≡ true → test st ≡ false) where
  -- some item passes exactly if one from the first unsettled one on does
  pub some_rest : {X : Type 0} (state : X → State) (xs : List X) →
      list_any (λ x. test (state x)) (rest state xs) ≡ list_any (λ x. test (state x)) xs
  some_rest state [] = refl
  some_rest {X = X} state (x ∷ xs) = elim (is_settled (state x)) as
      (λ b. is_settled (state x) ≡ b → list_any (λ y. test (state y)) (if b then rest state xs else x ∷ xs)
      ≡ list_any (λ y. test (state y)) (x ∷ xs)) [
        | true ↦ λ e. some_rest state xs ∙ ap (λ (b : Bool). b || list_any (λ y. test (state y)) xs)
            (sym (open_alone (state x) e))
        | false ↦ λ _. refl
      ] refl

  some_map : (bodies : ℕ → FrameValue) (xs : List Slot) →
      list_any (λ p. test (state_of_place p)) (map (slot_place bodies) xs) ≡ list_any (λ x. test x.state) xs
  some_map bodies [] = refl
  some_map bodies (x ∷ xs) =
      ap (λ (st : State). test st || list_any (λ p. test (state_of_place p)) (map (slot_place bodies) xs))
      (state_place bodies x)
      ∙ ap (λ (b : Bool). test x.state || b) (some_map bodies xs)

  -- some place passes exactly if some slot does
  some_place : (w : WindowValue) (s : Session) (bodies : ℕ → FrameValue) → WindowStandsFor w s bodies →
      list_any (λ p. test (state_of_place p)) w.places ≡ list_any (λ x. test x.state) s.slots
  some_place w s bodies stands =
      ap (λ (ps : List (Option Place)). list_any (λ p. test (state_of_place p)) ps) stands.places
      ∙ some_map bodies (slots_from_start s)
      ∙ some_rest slot_state s.slots

-- some number of a list waits
some_number : (n : ℕ) (xs : List Slot) → list_any (λ x. is_waiting x.state) xs
    ≡ nat_lt 0 (length (numbers_where is_waiting n xs))
some_number n [] = refl
some_number n (x ∷ xs) =
    let more : nat_lt 0 (suc (length (numbers_where is_waiting (suc n) xs))) ≡ true =
    grind (arith, nat_tests) in
    elim (is_waiting x.state) as (λ b. b || list_any (λ x. is_waiting x.state) xs
    ≡ nat_lt 0 (length (if b then n ∷ numbers_where is_waiting (suc n) xs
    else numbers_where is_waiting (suc n) xs))) [
      | true ↦ sym more
      | false ↦ some_number (suc n) xs
    ]

-- ---- counts

count_cons : {X : Type 0} (p : X → Bool) (x : X) (xs : List X) →
    count_by p (x ∷ xs) ≡ cond (p x) 1 0 + count_by p xs
count_cons p x xs = sum_by-cons (λ y. cond (p y) 1 0) x xs

-- equally many items pass from the first unsettled one on
pub counted_rest : {X : Type 0} (state : X → State) (xs : List X) →
    count_by (λ x. is_waiting (state x)) (rest state xs) ≡ count_by (λ x. is_waiting (state x)) xs
counted_rest state [] = refl
counted_rest {X = X} state (x ∷ xs) = elim (is_settled (state x)) as
    (λ b. is_settled (state x) ≡ b →
    count_by (λ y. is_waiting (state y)) (if b then rest state xs else x ∷ xs)
    ≡ count_by (λ y. is_waiting (state y)) (x ∷ xs)) [
      | true ↦ λ e.
          let none : ◌≡◌ {A = ℕ} (cond (is_waiting (state x)) 1 0) 0 =
          ap (λ (b : Bool). cond {A = ℕ} b 1 0) (settled_waits (state x) e) in
          omega (arith, counted_rest state xs, none, count_cons (λ y. is_waiting (state y)) x xs)
      | false ↦ λ _. refl
    ] refl

counted_map : (bodies : ℕ → FrameValue) (xs : List Slot) →
    count_by waits (map (slot_place bodies) xs) ≡ count_by (λ x. is_waiting x.state) xs
counted_map bodies [] = refl
counted_map bodies (x ∷ xs) =
    count_cons waits (slot_place bodies x) (map (slot_place bodies) xs)
    ∙ ap₂ (λ (st : State) (n : ℕ). cond (is_waiting st) 1 0 + n) (state_place bodies x)
    (counted_map bodies xs)
    ∙ sym (count_cons (λ (y : Slot). is_waiting y.state) x xs)

counted_number : (n : ℕ) (xs : List Slot) → count_by (λ x. is_waiting x.state) xs
    ≡ length (numbers_where is_waiting n xs)
counted_number n [] = refl
counted_number n (x ∷ xs) =
    count_cons (λ (y : Slot). is_waiting y.state) x xs
    ∙ elim (is_waiting x.state) as (λ b. cond b 1 0 + count_by (λ x. is_waiting x.state) xs
    ≡ length (if b then n ∷ numbers_where is_waiting (suc n) xs
    else numbers_where is_waiting (suc n) xs)) [
      | true ↦ omega (arith, counted_number (suc n) xs)
      | false ↦ omega (arith, counted_number (suc n) xs)
    ]

-- equally many places wait as numbers do
pub all_waits : (w : WindowValue) (s : Session) (bodies : ℕ → FrameValue) → WindowStandsFor w s bodies →
    count_by waits w.places ≡ length (waiting_numbers s)
all_waits w s bodies stands =
    ap (λ (ps : List (Option Place)). count_by waits ps) stands.places
    ∙ counted_map bodies (slots_from_start s)
    ∙ counted_rest slot_state s.slots
    ∙ counted_number s.first s.slots

-- some place waits, or flies, exactly if some number does

pub some_waits : (w : WindowValue) (s : Session) (bodies : ℕ → FrameValue) → WindowStandsFor w s bodies →
    list_any waits w.places ≡ nat_lt 0 (length (waiting_numbers s))
some_waits w s bodies stands = some_place is_waiting settled_waits w s bodies stands
    ∙ some_number s.first s.slots

pub some_flies : (w : WindowValue) (s : Session) (bodies : ℕ → FrameValue) → WindowStandsFor w s bodies →
    some_fly w ≡ has_flying s
some_flies w s bodies stands = some_place is_flying settled_flies w s bodies stands

-- taking the first place leaves fewer places

pub one_fewer : (ps : List (Option Place)) → 0 < length ps →
    length (rest state_of_place (set ps 0 None)) < length ps
one_fewer [] some = absurd (omega arith)
one_fewer (p ∷ ps) some = omega (arith, lengths state_of_place ps)

pub none_flies_still : (ps : List (Option Place)) → list_any (λ p. is_flying (state_of_place p)) ps ≡ false →
    list_any (λ p. is_flying (state_of_place p)) (rest state_of_place (set ps 0 None)) ≡ false
none_flies_still [] h = refl
none_flies_still (p ∷ ps) h = some_rest is_flying settled_flies state_of_place ps
    ∙ behind (is_flying (state_of_place p)) h
  where
    behind : (b : Bool) → b || list_any (λ p. is_flying (state_of_place p)) ps ≡ false →
        list_any (λ p. is_flying (state_of_place p)) ps ≡ false
    behind true h = absurd (cc h)
    behind false h = h
