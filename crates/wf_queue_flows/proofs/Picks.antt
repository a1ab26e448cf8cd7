-- A pick removes no key with frames from a rotation, and leaves the winner a deficit above 0.
use Rattle.std.proofs.Common.{◌≡◌, ℕ, zero, suc, ◌+◌, ◌*◌, ◌/◌, ◌<◌, ◌≤◌, min, Bool, true, false, cond, not, List, [], ◌∷◌, ◌++◌, Option, Some, None, refl, sym, ap, ◌∙◌, inl, inr, arith, eq-eqb}
use Rattle.std.specs.Prelude.{ℤ, pos, negsuc, ◌+ℤ◌, ◌<ℤ◌, ◌==◌, ◌&&◌, nat_le, find}
use Rattle.std.specs.List.{filter}
use Rattle.std.proofs.lemmas.Int.{ints}
use Rattle.std.proofs.lemmas.Bool.{cases_Bool, eqb-true, and_parts}
use Rattle.wf_def_lists.specs.Table.{has}
use Rattle.wf_def_rotation.specs.Rotation.{Rotation, in_order, need_of, keys_before, keys_from, round, first_of_two, first_least, is_out, picked_now, picked_later, pick_later, pick_from, pick}
use Rattle.wf_def_lists.specs.Lists.{on}
use Rattle.wf_law_rules.proofs.Lemmas.Counts.{on-nil, on-first, on-cons_other, on-append}

-- ---- counting

pub on-filter : (p : ℕ → Bool) (xs : List ℕ) (y : ℕ) → p y ≡ true → on (filter p xs) y ≡ on xs y
on-filter p [] y h = refl
on-filter p (x ∷ xs) y h = elim (cases_Bool (p x)) [
  | inl holds ↦ rw holds (omega (arith, on-first x y (filter p xs), on-first x y xs, on-filter p xs y h))
  | inr fails ↦
      let other : x ≡ y → ⊥ = λ e. absurd (cc (ap p e)) in
      rw (fails, on-cons_other x y xs other) (on-filter p xs y h)
]

pub on-filter_out : (p : ℕ → Bool) (xs : List ℕ) (y : ℕ) → p y ≡ false → on (filter p xs) y ≡ 0
on-filter_out p [] y h = on-nil y
on-filter_out p (x ∷ xs) y h = elim (cases_Bool (p x)) [
  | inl holds ↦
      let other : x ≡ y → ⊥ = λ e. absurd (cc (ap p e)) in
      rw holds (omega (arith, on-cons_other x y (filter p xs) other, on-filter_out p xs y h))
  | inr fails ↦ rw fails (on-filter_out p xs y h)
]

pub on-filter_le : (p : ℕ → Bool) (xs : List ℕ) (y : ℕ) → on (filter p xs) y ≤ on xs y
on-filter_le p [] y = omega arith
on-filter_le p (x ∷ xs) y = elim (cases_Bool (p x)) [
  | inl holds ↦ rw holds (omega (arith, on-first x y (filter p xs), on-first x y xs, on-filter_le p xs y))
  | inr fails ↦ rw fails (omega (arith, on-first x y xs, on-filter_le p xs y))
]

-- a list splits into the keys before a key and the keys from it on
before_from : (v : ℕ) (xs : List ℕ) → keys_before v xs ++ keys_from v xs ≡ xs
before_from v [] = refl
before_from v (x ∷ xs) = elim (cases_Bool (x == v)) [
  | inl holds ↦ rw holds refl
  | inr fails ↦ rw fails (ap (λ (t : List ℕ). x ∷ t) (before_from v xs))
]

on-split : (v : ℕ) (xs : List ℕ) (y : ℕ) → on (keys_before v xs) y + on (keys_from v xs) y ≡ on xs y
on-split v xs y = sym (on-append (keys_before v xs) (keys_from v xs) y)
    ∙ ap (λ (t : List ℕ). on t y) (before_from v xs)

-- ---- who wins

least-none : (f : ℕ → ℕ) (xs : List ℕ) → first_least f xs ≡ None → xs ≡ []
least-none f [] e = refl
least-none f (x ∷ xs) e = absurd (go (first_least f xs) e)
  where
    some : (b : Bool) (z : ℕ) → cond b (Some x) (Some z) ≡ None → ⊥
    some true z e = cc
    some false z e = cc

    go : (o : Option ℕ) → first_of_two f x o ≡ None → ⊥
    go None e = cc
    go (Some z) e = some (nat_le (f x) (f z)) z e

-- if there is no least ready key, no key of the list is ready
none-ready : (f : ℕ → ℕ) (ready : ℕ → Bool) (xs : List ℕ) (y : ℕ) → first_least f (filter ready xs) ≡ None →
    ready y ≡ true → on xs y ≡ 0
none-ready f ready xs y e is =
    let empty : on (filter ready xs) y ≡ on [] y =
    ap (λ (t : List ℕ). on t y) (least-none f (filter ready xs) e) in
    omega (arith, on-filter ready xs y is, on-nil y)

find-passes : (p : ℕ → Bool) (xs : List ℕ) (v : ℕ) → find p xs ≡ Some v → p v ≡ true
find-passes p [] v e = absurd cc
find-passes p (x ∷ xs) v e = elim (cases_Bool (p x)) [
  | inl holds ↦
      let here : Some x ≡ Some v = rw holds at e in
      let same : x ≡ v = cc in
      ap p (sym same) ∙ holds
  | inr fails ↦ find-passes p xs v (rw fails at e)
]

-- ---- the keys on the lists

module _ (need : ℕ → ℕ) (ready : ℕ → Bool) (r : Rotation) where
  on-now : (w y : ℕ) → on (in_order (picked_now need r w).lists) y ≡ on (in_order r) y
  on-now w y = omega (
    arith,
    on-append (r.old ++ keys_before w r.new) (keys_from w r.new) y,
    on-append r.old (keys_before w r.new) y,
    on-append r.old r.new y,
    on-split w r.new y,
  )

  turned : (w y : ℕ) → on (keys_from w (in_order r) ++ keys_before w (in_order r)) y ≡ on (in_order r) y
  turned w y = omega (
    arith,
    on-append (keys_from w (in_order r)) (keys_before w (in_order r)) y,
    on-split w (in_order r) y,
  )

  stays : (w turn : ℕ) → ℕ → Bool
  stays w turn y = not (is_out need ready r w turn y)

  on-later_le : (w turn y : ℕ) → on (in_order (picked_later need ready r w turn).lists) y ≤ on (in_order r) y
  unfolding stays
  on-later_le w turn y =
      omega (
        arith,
        on-append (filter (stays w turn)
            (keys_from w (in_order r) ++ keys_before w (in_order r))) [] y,
        on-nil y,
        on-filter_le (stays w turn) (keys_from w (in_order r) ++ keys_before w (in_order r)) y,
        turned w y,
      )

  on-later : (w turn y : ℕ) → ready y ≡ true → on (in_order (picked_later need ready r w turn).lists) y
      ≡ on (in_order r) y
  unfolding stays
  on-later w turn y is =
      let stay : stays w turn y ≡ true = rw is refl in
      omega (
        arith,
        on-append (filter (stays w turn)
            (keys_from w (in_order r) ++ keys_before w (in_order r))) [] y,
        on-nil y,
        on-filter (stays w turn) (keys_from w (in_order r) ++ keys_before w (in_order r)) y stay,
        turned w y,
      )

  -- no key is added to the lists
  pub on-picked_le : (y : ℕ) → on (in_order (pick need ready r).lists) y ≤ on (in_order r) y
  unfolding pick
  on-picked_le y = go (find (λ k. ready k && (need k == 0)) r.new)
    where
      later : (o : Option ℕ) → on (in_order (pick_later need ready r o).lists) y ≤ on (in_order r) y
      later None = omega (arith, on-nil y)
      later (Some w) = on-later_le w (round need r w) y

      go : (o : Option ℕ) → on (in_order (pick_from need ready r o).lists) y ≤ on (in_order r) y
      go None = later (first_least (round need r) (filter ready (in_order r)))
      go (Some w) = omega (arith, on-now w y)

  -- a ready key stays on the lists
  pub on-picked : (y : ℕ) → ready y ≡ true → on (in_order (pick need ready r).lists) y ≡ on (in_order r) y
  unfolding pick
  on-picked y is = go (find (λ k. ready k && (need k == 0)) r.new)
    where
      later : (o : Option ℕ) → first_least (round need r) (filter ready (in_order r)) ≡ o →
          on (in_order (pick_later need ready r o).lists) y ≡ on (in_order r) y
      later None e = omega (arith, on-nil y, none-ready (round need r) ready (in_order r) y e is)
      later (Some w) e = on-later w (round need r w) y is

      go : (o : Option ℕ) → on (in_order (pick_from need ready r o).lists) y ≡ on (in_order r) y
      go None = later (first_least (round need r) (filter ready (in_order r))) refl
      go (Some w) = on-now w y

  -- without a winner no key of the lists is ready
  pub none-picked : (y : ℕ) → (pick need ready r).winner ≡ None → ready y ≡ true → on (in_order r) y ≡ 0
  unfolding pick
  none-picked y e is = go (find (λ k. ready k && (need k == 0)) r.new) e
    where
      later : (o : Option ℕ) → first_least (round need r) (filter ready (in_order r)) ≡ o →
          (pick_later need ready r o).winner ≡ None → on (in_order r) y ≡ 0
      later None none e = none-ready (round need r) ready (in_order r) y none is
      later (Some w) none e = absurd cc

      go : (o : Option ℕ) → (pick_from need ready r o).winner ≡ None → on (in_order r) y ≡ 0
      go None e = later (first_least (round need r) (filter ready (in_order r))) refl e
      go (Some w) e = absurd cc

  -- the winner gets what it needs
  pub won_quanta : (v : ℕ) → (pick need ready r).winner ≡ Some v → (pick need ready r).quanta v ≡ need v
  unfolding pick
  won_quanta v e = go (find (λ k. ready k && (need k == 0)) r.new) refl e
    where
      none_needed : (b : Bool) (n : ℕ) → n ≡ 0 → cond b (min 1 n) 0 ≡ n
      none_needed true n e = omega arith
      none_needed false n e = sym e

      later : (o : Option ℕ) → (pick_later need ready r o).winner ≡ Some v →
          (pick_later need ready r o).quanta v ≡ need v
      later None e = absurd cc
      later (Some w) e =
          let same : v ≡ w = cc in
          rw (eq-eqb v w same) refl

      go : (o : Option ℕ) → find (λ k. ready k && (need k == 0)) r.new ≡ o →
          (pick_from need ready r o).winner ≡ Some v → (pick_from need ready r o).quanta v ≡ need v
      go None found e = later (first_least (round need r) (filter ready (in_order r))) e
      go (Some w) found e =
          let same : w ≡ v = cc in
          let passes : (ready w && (need w == 0)) ≡ true =
          find-passes (λ k. ready k && (need k == 0)) r.new w found in
          let zero_need : need w ≡ 0 = eqb-true (need w) 0 (and_parts (ready w) (need w == 0) passes).1 in
          none_needed (has (keys_before w r.new) v) (need v) (ap need (sym same) ∙ zero_need)

-- the quanta that a key needs raise its deficit above 0
pub lifted_above : (d : ℤ) (q : ℕ) → 0 < q → pos 0 <ℤ (d +ℤ pos (need_of q d * q))
lifted_above (pos zero) q some = omega (arith, ints)
lifted_above (pos (suc n)) q some = omega (arith, ints)
lifted_above (negsuc n) q some =
    let enough : 1 + n < (1 + n + q) / q * q = grind arith in
    omega (arith, ints)
