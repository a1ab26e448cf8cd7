-- Proves that `root` is the integer square root of a number, by induction on the digits, and that the step
-- of the control law is the greatest that fits.
use Rattle.std.proofs.Common.{◌≡◌, ℕ, zero, suc, ◌+◌, ◌*◌, ◌/◌, ◌^◌, ◌≤◌, ◌<◌, inl, inr, refl, arith, true, false, if◌then◌else◌}
use Rattle.std.specs.Prelude.{nat_le}
use Rattle.std.proofs.lemmas.Bool.Decides.{leb_tells}
use Rattle.std.proofs.lemmas.Bool.{leb-true, leb-false}
use Rattle.std.proofs.Math.Nat.{div-le_self, pow-suc, mul-le-mul, mul-le-mul_right, div-mul-le_self, le-div_iff_mul-le}
use Rattle.wf_def_codel.specs.Codel.{IsRoot, root, step_of, IsGreatestStep}

-- A number whose square is below (r + 1)^2 is at most r.
pub least_above : (n d r : ℕ) → d * d ≤ n → n < (r + 1) * (r + 1) → d ≤ r
least_above n d r low high =
    elim (leb_tells d r) [
      | inl h ↦ h.1
      | inr h ↦ let past : r + 1 ≤ d = omega (arith, h.1) in
          let squares : (r + 1) * (r + 1) ≤ d * d = mul-le-mul past past in
          absurd (omega (arith, squares, low, high))
    ]

pub one_root : (n r s : ℕ) → IsRoot r n → IsRoot s n → r ≤ s
one_root n r s i j = least_above n r s i.below j.above

pub same_root : (n r s : ℕ) → IsRoot r n → IsRoot s n → r ≡ s
same_root n r s i j = omega (arith, one_root n r s i j, one_root n s r j i)

pub root-is : (digits n : ℕ) → n < 4 ^ digits → IsRoot (root digits n) n
root-is zero n small = record { below = omega arith; above = omega arith }
root-is (suc digits) n small =
    let s : ℕ = root digits (n / 4) in
    let fits : n / 4 < 4 ^ digits = omega (arith, pow-suc 4 digits) in
    let quarter : IsRoot s (n / 4) = root-is digits (n / 4) fits in
    elim (nat_le ((2 * s + 1) * (2 * s + 1)) n) as
    (λ b. nat_le ((2 * s + 1) * (2 * s + 1)) n ≡ b → IsRoot (if b then 2 * s + 1 else 2 * s) n) [
      | true ↦ λ yes. record { below = leb-true _ _ yes; above = omega (arith, quarter.above) }
      | false ↦ λ no. record { below = omega (arith, quarter.below); above = leb-false _ _ no }
    ] refl

-- The root of the quotient is the greatest step.
pub greatest_step : (interval count root : ℕ) → 0 < count → IsRoot root (interval * interval / count) →
    IsGreatestStep interval count root
greatest_step interval count root some is = record {
  fits = omega (arith, mul-le-mul_right count is.below, div-mul-le_self (interval * interval) count);
  greatest = λ d fits. let quotient : d * d ≤ interval * interval / count = (le-div_iff_mul-le some).1 fits in
      least_above (interval * interval / count) d root quotient is.above;
}

pub step-is : (interval count : ℕ) → interval < 2 ^ 32 →
    IsRoot (step_of interval count) (interval * interval / count)
unfolding step_of
step-is interval count small =
    let low : interval ≤ 4294967295 = omega arith in
    root-is 64 (interval * interval / count) (omega
    (arith, mul-le-mul low low, div-le_self (interval * interval) count))

pub step_greatest : (interval count : ℕ) → interval < 2 ^ 32 → 0 < count →
    IsGreatestStep interval count (step_of interval count)
step_greatest interval count small some = greatest_step interval count (step_of interval count) some
    (step-is interval count small)
