-- A list of distinct keys has at most as many keys as there are: it is counted key by key.
use Rattle.std.proofs.Common.{◌≡◌, ℕ, zero, suc, ◌+◌, ◌<◌, ◌≤◌, List, [], ◌∷◌, length, refl, sym, subst, inl, inr, arith}
use Rattle.std.proofs.lemmas.Bool.{cases_eq}
use Rattle.wf_def_rotation.specs.Rotation.{Rotation, in_order}
use Rattle.wf_def_lists.specs.Lists.{on}
use Rattle.wf_rotation.specs.Lists.{AllLists, AreDisjoint, lists_at, keys_at, side_of}
use Rattle.wf_rotation.specs.declared.side.Side.{Side}
use Rattle.wf_rotation.specs.declared.side.Side.TheVariants.{New, Old}
use Rattle.wf_law_rules.proofs.Lemmas.Counts.{on-nil, on-first, on-cons_same, on-cons_other, on-append}

-- numbers below n of which no two are equal are at most n
total : ℕ → List ℕ → ℕ
total zero xs = 0
total (suc n) xs = on xs n + total n xs

total-nil : (n : ℕ) → total n [] ≡ 0
unfolding total
total-nil zero = refl
total-nil (suc n) = omega (arith, on-nil n, total-nil n)

total-cons_past : (n x : ℕ) (xs : List ℕ) → n ≤ x → total n (x ∷ xs) ≡ total n xs
unfolding total
total-cons_past zero x xs past = refl
total-cons_past (suc n) x xs past =
    let apart : x ≡ n → ⊥ = λ e. omega arith in
    omega (arith, on-cons_other x n xs apart, total-cons_past n x xs (omega arith))

total-cons : (n x : ℕ) (xs : List ℕ) → x < n → total n (x ∷ xs) ≡ 1 + total n xs
unfolding total
total-cons zero x xs low = absurd (omega arith)
total-cons (suc n) x xs low = elim (cases_eq x n) [
  | inl e ↦
      let here : on (x ∷ xs) n ≡ 1 + on xs n = subst (λ (k : ℕ). on (x ∷ xs) k ≡ 1 + on xs k) e
      (on-cons_same x xs) in
      omega (arith, here, total-cons_past n x xs (omega arith))
  | inr other ↦ omega (arith, on-cons_other x n xs other, total-cons n x xs (omega arith))
]

total-le : (n : ℕ) (xs : List ℕ) → ((k : ℕ) → on xs k ≤ 1) → total n xs ≤ n
unfolding total
total-le zero xs once = omega arith
total-le (suc n) xs once = omega (arith, once n, total-le n xs once)

length_is_total : (n : ℕ) (xs : List ℕ) → ((k : ℕ) → 0 < on xs k → k < n) → length xs ≡ total n xs
length_is_total n [] low = sym (total-nil n)
length_is_total n (x ∷ xs) low =
    let rest : length xs ≡ total n xs = length_is_total n xs
    (λ k stands. low k (omega (arith, on-first x k xs))) in
    omega (arith, total-cons n x xs (low x (omega (arith, on-cons_same x xs))), rest)

pub few : (n : ℕ) (xs : List ℕ) → ((k : ℕ) → on xs k ≤ 1) → ((k : ℕ) → 0 < on xs k → k < n) → length xs ≤ n
few n xs once low = omega (arith, length_is_total n xs low, total-le n xs once)

-- no list is longer than there are keys
pub side_few : (q : AllLists) (l : ℕ) (s : Side) → AreDisjoint q → length (keys_at q.lists l s) ≤ q.keys
side_few q l s apart = few q.keys (keys_at q.lists l s)
    (λ k. omega (arith, on_side (lists_at q.lists l) s k, apart.once l k))
    (λ k stands. apart.below l k (omega (arith, on_side (lists_at q.lists l) s k)))
  where
    on_side : (r : Rotation) (s : Side) (k : ℕ) → on (side_of r s) k ≤ on (in_order r) k
    on_side r New k = omega (arith, on-append r.old r.new k)
    on_side r Old k = omega (arith, on-append r.old r.new k)
