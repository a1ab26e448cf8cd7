-- Proves how a sum over a table changes if one entry changes, and that it does not rise if no entry rises.
-- By induction on the list.
use Rattle.std.proofs.Common.{◌≡◌, refl, arith, ℕ, zero, suc, ◌+◌, ◌<◌, ◌≤◌, List, [], ◌∷◌, length}
use Rattle.std.proofs.lemmas.List.Sums.{sum_by-cons}
use Rattle.std.specs.Prelude.{sum_by}
use Rattle.wf_def_lists.specs.Table.{at, put}

-- One entry of the list changes.
pub sum_put_within : {X : Type 0} (f : X → ℕ) (d : X) (t : List X) (k : ℕ) (v : X) → k < length t →
    sum_by f (put d t k v) + f (at d t k) ≡ sum_by f t + f v
sum_put_within f d [] k v h = absurd (omega (arith, h))
sum_put_within f d (x ∷ xs) zero v h = omega (arith, sum_by-cons f v xs, sum_by-cons f x xs)
sum_put_within f d (x ∷ xs) (suc k) v h = omega
    (arith, sum_by-cons f x (put d xs k v), sum_by-cons f x xs, sum_put_within f d xs k v (omega (arith, h)))

-- Any entry changes, if the default value d counts 0.
pub sum_put : {X : Type 0} (f : X → ℕ) (d : X) (t : List X) (k : ℕ) (v : X) → f d ≡ 0 →
    sum_by f (put d t k v) + f (at d t k) ≡ sum_by f t + f v
sum_put f d [] zero v h = omega (arith, sum_by-cons f v [], h)
sum_put f d [] (suc k) v h = omega (arith, sum_by-cons f d (put d [] k v), h, sum_put f d [] k v h)
sum_put f d (x ∷ xs) zero v h = omega (arith, sum_by-cons f v xs, sum_by-cons f x xs)
sum_put f d (x ∷ xs) (suc k) v h = omega (
  arith,
  sum_by-cons f x (put d xs k v),
  sum_by-cons f x xs,
  sum_put f d xs k v h,
)

-- If no entry of one table is above that of another, neither is its sum.
pub sum_below : {X : Type 0} (f : X → ℕ) (d : X) (ts us : List X) → f d ≡ 0 →
    ((k : ℕ) → f (at d us k) ≤ f (at d ts k)) → sum_by f us ≤ sum_by f ts
sum_below f d ts [] e h = omega arith
sum_below f d [] (u ∷ us) e h = omega (
  arith,
  sum_by-cons f u us,
  h zero,
  e,
  sum_below f d [] us e (λ k. h (suc k)),
)
sum_below f d (t ∷ ts) (u ∷ us) e h = omega (
  arith,
  sum_by-cons f u us,
  sum_by-cons f t ts,
  h zero,
  sum_below f d ts us e (λ k. h (suc k)),
)

pub length_put : {X : Type 0} (d : X) (t : List X) (k : ℕ) (v : X) → k < length t →
    length (put d t k v) ≡ length t
length_put d [] k v h = absurd (omega (arith, h))
length_put d (x ∷ xs) zero v h = refl
length_put d (x ∷ xs) (suc k) v h = let e : length (put d xs k v) ≡ length xs =
    length_put d xs k v (omega (arith, h)) in omega arith
