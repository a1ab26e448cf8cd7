-- A deficit after some visits stays within its bounds, by the least number of quanta that lift it above 0.
use Rattle.std.proofs.Common.{◌≡◌, ℕ, zero, suc, ◌+◌, ◌-◌, ◌*◌, ◌/◌, ◌^◌, ◌<◌, ◌≤◌, arith, min}
use Rattle.std.specs.Prelude.{ℤ, pos, negsuc, ◌≤ℤ◌, ◌<ℤ◌}
use Rattle.std.proofs.lemmas.Int.{ints}
use Rattle.std.proofs.Math.Nat.{mul-le-mul_right}
use Rattle.wf_def_rotation.specs.Rotation.{need_of}
use Rattle.wf_rotation.specs.Pass.{raised}

pub quotient_below : (m q : ℕ) → m / q * q ≤ m
quotient_below m q = grind arith

fewer_below : (v n q : ℕ) → min v n * q ≤ n * q
fewer_below v n q = mul-le-mul_right q (omega arith)

-- a deficit that is lifted ends at most at its quantum, and a deficit above 0 is unchanged
pub record Lifted (d : ℤ) (q v : ℕ) : Type 0 where
  pub fits : min v (need_of q d) * q < 2 ^ 63
  pub low : d ≤ℤ raised d q v
  pub high : raised d q v <ℤ pos (2 ^ 32)
  pub capped : d ≤ℤ pos q → raised d q v ≤ℤ pos q

pub lifted : (d : ℤ) (q v : ℕ) → 0 < q → q < 2 ^ 32 → negsuc (2 ^ 62 - 1) ≤ℤ d → d <ℤ pos (2 ^ 32) →
    Lifted d q v
lifted (pos zero) q v some small low high =
    let b : min v 1 * q ≤ 1 * q = fewer_below v 1 q in
    record {
      fits = omega arith;
      low = omega (arith, ints);
      high = omega (arith, ints);
      capped =
          λ h. omega (arith, ints);
    }
lifted (pos (suc n)) q v some small low high =
    let none : min v 0 * q ≡ 0 = (let least : min v 0 ≡ 0 = omega arith in rw least (omega arith)) in
    record {
      fits = omega arith;
      low = omega (arith, ints);
      high = omega (arith, ints);
      capped =
          λ h. omega (arith, ints);
    }
lifted (negsuc n) q v some small low high =
    let b : min v ((1 + n + q) / q) * q ≤ (1 + n + q) / q * q = fewer_below v ((1 + n + q) / q) q in
    let c : (1 + n + q) / q * q ≤ 1 + n + q = quotient_below (1 + n + q) q in
    let least : n < 2 ^ 62 = omega (arith, ints) in
    record {
      fits = omega arith;
      low = omega (arith, ints);
      high = omega (arith, ints);
      capped =
          λ h. omega (arith, ints);
    }
