-- Proves the properties of a list's settled front, of its rest, and of the distances from its last failed and
-- its last acknowledged number.
use Rattle.std.proofs.Common.{◌≡◌, ℕ, zero, suc, ◌+◌, ◌<◌, nat_le, min, Bool, true, false, if◌then◌else◌, Option, Some, None, List, [], ◌∷◌, ◌++◌, length, get_or, set, map, refl, ap, ◌∙◌, arith, length-append}
use Rattle.std.proofs.lemmas.Bool.Decides.{nat_tests}
use Rattle.wf_def_agreement.specs.Session.{State, Slot, no_slot, is_settled, first_unsettled}
use Rattle.wf_def_lists.specs.Table.{at, change}
use Rattle.wf_send_parts.specs.Places.{slot_state, front, rest, settled_first, next_since, since_failed, next_unacked, since_acked, at_most}

module _ {X : Type 0} (state : X → State) where
  pub front_rest : (xs : List X) → front state xs ++ rest state xs ≡ xs
  front_rest [] = refl
  front_rest (x ∷ xs) = elim (is_settled (state x)) as
      (λ b. (if b then x ∷ front state xs else []) ++ (if b then rest state xs else x ∷ xs) ≡ x ∷ xs) [
        | true ↦
            ap (λ (ys : List X). x ∷ ys) (front_rest xs)
        | false ↦ refl
      ]

  pub lengths : (xs : List X) → length (front state xs) + length (rest state xs) ≡ length xs
  lengths xs = omega (arith, ap length (front_rest xs), length-append (front state xs) (rest state xs))

  pub front_none : (xs : List X) → settled_first state xs ≡ false → front state xs ≡ []
  front_none [] h = refl
  front_none (x ∷ xs) h = ap (λ (b : Bool). if b then x ∷ front state xs else []) h

  pub rest_none : (xs : List X) → settled_first state xs ≡ false → rest state xs ≡ xs
  rest_none [] h = refl
  rest_none (x ∷ xs) h = ap (λ (b : Bool). if b then rest state xs else x ∷ xs) h

  pub rest_unsettled : (xs : List X) → settled_first state (rest state xs) ≡ false
  rest_unsettled [] = refl
  rest_unsettled (x ∷ xs) = elim (is_settled (state x)) as
      (λ b. is_settled (state x) ≡ b → settled_first state (if b then rest state xs else x ∷ xs)
      ≡ false) [ true ↦ λ _. rest_unsettled xs | false ↦ λ e. e ] refl

  pub front_append : (xs ys : List X) → front state (front state xs ++ ys) ≡ front state xs ++ front state ys
  front_append [] ys = refl
  front_append (x ∷ xs) ys = elim (is_settled (state x)) as
      (λ b. is_settled (state x) ≡ b → front state ((if b then x ∷ front state xs else []) ++ ys)
      ≡ (if b then x ∷ front state xs else []) ++ front state ys) [
        | true ↦ λ e. ap (λ (b : Bool). if b then x ∷ front state (front state xs ++ ys) else []) e
            ∙ ap (λ (zs : List X). x ∷ zs) (front_append xs ys)
        | false ↦ λ _. refl
      ] refl

  pub front_push : (xs : List X) (y : X) → is_settled (state y) ≡ false →
      front state (xs ++ y ∷ []) ≡ front state xs
  front_push [] y h = ap (λ (b : Bool). if b then y ∷ [] else []) h
  front_push (x ∷ xs) y h = elim (is_settled (state x)) as
      (λ b. (if b then x ∷ front state (xs ++ y ∷ []) else [])
      ≡ (if b then x ∷ front state xs else [])) [
        | true ↦
            ap (λ (zs : List X). x ∷ zs) (front_push xs y h)
        | false ↦ refl
      ]

  pub rest_append : (xs ys : List X) → rest state (front state xs ++ ys) ≡ rest state ys
  rest_append [] ys = refl
  rest_append (x ∷ xs) ys = elim (is_settled (state x)) as
      (λ b. is_settled (state x) ≡ b → rest state ((if b then x ∷ front state xs else []) ++ ys)
      ≡ rest state ys) [
        | true ↦ λ e. ap (λ (b : Bool). if b then rest state (front state xs ++ ys)
            else x ∷ (front state xs ++ ys)) e ∙ rest_append xs ys
        | false ↦ λ _. refl
      ] refl

  pub since_append : (since : Option ℕ) (xs ys : List X) →
      since_failed state since (xs ++ ys) ≡ since_failed state (since_failed state since xs) ys
  since_append since [] ys = refl
  since_append since (x ∷ xs) ys = since_append (next_since (state x) since) xs ys

  pub unacked_append : (count : ℕ) (xs ys : List X) →
      since_acked state count (xs ++ ys) ≡ since_acked state (since_acked state count xs) ys
  unacked_append count [] ys = refl
  unacked_append count (x ∷ xs) ys = unacked_append (next_unacked (state x) count) xs ys

module _ {X Y : Type 0} (state : X → State) (shown : Y → State) (f : X → Y)
    (same : (x : X) → shown (f x) ≡ state x) where
  pub front_map : (xs : List X) → front shown (map f xs) ≡ map f (front state xs)
  front_map [] = refl
  front_map (x ∷ xs) =
      ap (λ (st : State). if is_settled st then f x ∷ front shown (map f xs) else []) (same x)
      ∙ elim (is_settled (state x)) as (λ b. (if b then f x ∷ front shown (map f xs) else [])
      ≡ map f (if b then x ∷ front state xs else [])) [
        | true ↦
            ap (λ (ys : List Y). f x ∷ ys) (front_map xs)
        | false ↦ refl
      ]

  pub rest_map : (xs : List X) → rest shown (map f xs) ≡ map f (rest state xs)
  rest_map [] = refl
  rest_map (x ∷ xs) =
      ap (λ (st : State). if is_settled st then rest shown (map f xs) else f x ∷ map f xs) (same x)
      ∙ elim (is_settled (state x)) as (λ b. (if b then rest shown (map f xs) else f x ∷ map f xs)
      ≡ map f (if b then rest state xs else x ∷ xs)) [ true ↦ rest_map xs | false ↦ refl ]

  pub since_map : (since : Option ℕ) (xs : List X) →
      since_failed shown since (map f xs) ≡ since_failed state since xs
  since_map since [] = refl
  since_map since (x ∷ xs) =
      ap (λ (st : State). since_failed shown (next_since st since) (map f xs)) (same x)
      ∙ since_map (next_since (state x) since) xs

  pub unacked_map : (count : ℕ) (xs : List X) →
      since_acked shown count (map f xs) ≡ since_acked state count xs
  unacked_map count [] = refl
  unacked_map count (x ∷ xs) =
      ap (λ (st : State). since_acked shown (next_unacked st count) (map f xs)) (same x)
      ∙ unacked_map (next_unacked (state x) count) xs

-- a distance with a limit

at_most_more : (limit d : ℕ) → at_most (limit + 1) (Some (d + 1))
    ≡ next_since State.Acked (at_most limit (Some d))
at_most_more limit d = grind (arith, nat_tests)

pub at_most_next : (limit : ℕ) (st : State) (since : Option ℕ) →
    at_most (limit + 1) (next_since st since) ≡ next_since st (at_most limit since)
at_most_next limit State.Failed since =
    let within : nat_le 1 (limit + 1) ≡ true = grind (arith, nat_tests) in
    ap (λ (b : Bool). if b then Some 1 else None) within
at_most_next limit State.Acked None = refl
at_most_next limit State.Acked (Some d) = at_most_more limit d
at_most_next limit State.Waiting None = refl
at_most_next limit State.Waiting (Some d) = grind (arith, nat_tests)
at_most_next limit (State.Flying e) None = refl
at_most_next limit (State.Flying e) (Some d) = grind (arith, nat_tests)

pub at_most_since : {X : Type 0} (state : X → State) (limit : ℕ) (since : Option ℕ) (xs : List X) →
    at_most (limit + length xs) (since_failed state since xs) ≡ since_failed state (at_most limit since) xs
at_most_since state limit since [] = ap (λ (l : ℕ). at_most l since) (omega arith)
at_most_since state limit since (x ∷ xs) =
    let more : limit + suc (length xs) ≡ (limit + 1) + length xs = omega arith in
    ap (λ (l : ℕ). at_most l (since_failed state (next_since (state x) since) xs)) more
    ∙ at_most_since state (limit + 1) (next_since (state x) since) xs
    ∙ ap (λ (d : Option ℕ). since_failed state d xs) (at_most_next limit (state x) since)

pub at_most_both : (a b : ℕ) (d : Option ℕ) → at_most a (at_most b d) ≡ at_most (min a b) d
at_most_both a b None = refl
at_most_both a b (Some d) = grind (arith, nat_tests)

-- the slots of a session

pub start_is : (n : ℕ) (xs : List Slot) → first_unsettled n xs ≡ n + length (front slot_state xs)
start_is n [] = omega arith
start_is n (x ∷ xs) = elim (is_settled x.state) as
    (λ b. (if b then first_unsettled (suc n) xs else n)
    ≡ n + length (if b then x ∷ front slot_state xs else [])) [
      | true ↦ omega (arith, start_is (suc n) xs)
      | false ↦ omega arith
    ]

pub at_is : {X : Type 0} (d : X) (xs : List X) (k : ℕ) → at d xs k ≡ get_or xs k d
at_is d [] k = refl
at_is d (x ∷ xs) zero = refl
at_is d (x ∷ xs) (suc k) = at_is d xs k

pub at_rest : (xs : List Slot) (k j : ℕ) → length (front slot_state xs) + j ≡ k →
    at no_slot xs k ≡ at no_slot (rest slot_state xs) j
at_rest [] k j e = refl
at_rest (x ∷ xs) zero j e = elim (is_settled x.state) as
    (λ b. length (if b then x ∷ front slot_state xs else []) + j ≡ 0 →
    x ≡ at no_slot (if b then rest slot_state xs else x ∷ xs) j) [
      | true ↦ λ e. absurd (omega arith)
      | false ↦ λ e. let same : 0 ≡ j = omega arith in ap (at no_slot (x ∷ xs)) same
    ] e
at_rest (x ∷ xs) (suc k) j e = elim (is_settled x.state) as
    (λ b. length (if b then x ∷ front slot_state xs else []) + j ≡ suc k →
    at no_slot xs k ≡ at no_slot (if b then rest slot_state xs else x ∷ xs) j) [
      | true ↦ λ e. at_rest xs k j (omega arith)
      | false ↦ λ e. let same : suc k ≡ j = omega arith in ap (at no_slot (x ∷ xs)) same
    ] e

pub change_is : {X : Type 0} (d : X) (xs : List X) (k : ℕ) (f : X → X) → k < length xs →
    change d xs k f ≡ set xs k (f (get_or xs k d))
change_is d [] k f h = absurd (omega arith)
change_is d (x ∷ xs) zero f h = refl
change_is {X = X} d (x ∷ xs) (suc k) f h = ap (λ (ys : List X). x ∷ ys) (change_is d xs k f (omega arith))

pub change_rest : (xs : List Slot) (k j : ℕ) (f : Slot → Slot) → length (front slot_state xs) + j ≡ k →
    change no_slot xs k f ≡ front slot_state xs ++ change no_slot (rest slot_state xs) j f
change_rest [] k j f e = let same : k ≡ j = omega arith in ap (λ (i : ℕ). change no_slot [] i f) same
change_rest (x ∷ xs) zero j f e = elim (is_settled x.state) as
    (λ b. length (if b then x ∷ front slot_state xs else []) + j ≡ 0 →
    f x ∷ xs ≡ (if b then x ∷ front slot_state xs else [])
    ++ change no_slot (if b then rest slot_state xs else x ∷ xs) j f) [
      | true ↦ λ e. absurd (omega arith)
      | false ↦ λ e. let same : 0 ≡ j = omega arith in ap (λ (i : ℕ). change no_slot (x ∷ xs) i f) same
    ] e
change_rest (x ∷ xs) (suc k) j f e = elim (is_settled x.state) as
    (λ b. length (if b then x ∷ front slot_state xs else []) + j ≡ suc k →
    x ∷ change no_slot xs k f ≡ (if b then x ∷ front slot_state xs else [])
    ++ change no_slot (if b then rest slot_state xs else x ∷ xs) j f) [
      | true ↦ λ e. ap (λ (ys : List Slot). x ∷ ys) (change_rest xs k j f (omega arith))
      | false ↦ λ e. let same : suc k ≡ j = omega arith in ap (λ (i : ℕ). change no_slot (x ∷ xs) i f) same
    ] e
