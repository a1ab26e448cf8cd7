-- Proves facts about products of a natural and a signed number, by induction on the natural number.
use Rattle.std.proofs.Common.{◌≡◌, arith, ℕ, zero, suc, ℤ, pos, ◌+ℤ◌, ◌*ℤ◌, ◌≤ℤ◌}
use Rattle.std.proofs.lemmas.Int.{ints}
use Rattle.std.proofs.Math.IntN.{suc_ℤ-*ℤ, zero-*ℤ}

-- A product with the next number.
pub times_suc : (h : ℕ) (x : ℤ) → (pos (suc h) *ℤ x) ≡ ((pos h *ℤ x) +ℤ x)
times_suc h x = suc_ℤ-*ℤ (pos h) x

pub times_nothing : (x : ℤ) → (pos zero *ℤ x) ≡ pos 0
times_nothing x = zero-*ℤ x

pub times_plus : (h : ℕ) (x y : ℤ) → (pos h *ℤ (x +ℤ y)) ≡ ((pos h *ℤ x) +ℤ (pos h *ℤ y))
times_plus zero x y = omega (arith, ints, times_nothing (x +ℤ y), times_nothing x, times_nothing y)
times_plus (suc h) x y =
    omega (arith, ints, times_suc h (x +ℤ y), times_suc h x, times_suc h y, times_plus h x y)

pub times_mono : (h : ℕ) (x y : ℤ) → x ≤ℤ y → (pos h *ℤ x) ≤ℤ (pos h *ℤ y)
times_mono zero x y l = omega (arith, ints, times_nothing x, times_nothing y)
times_mono (suc h) x y l = omega (arith, ints, times_suc h x, times_suc h y, times_mono h x y l)
