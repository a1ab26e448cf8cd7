-- A way from a leaf to the root halves the node's number in each step.
use Rattle.std.proofs.Common.{◌≡◌, ℕ, ◌+◌, ◌*◌, ◌/◌, ◌^◌, ◌<◌, ◌≤◌, inl, inr, ap, arith}
use Rattle.std.proofs.Math.Nat.{mul-le-mul_left, pow-le-pow_right}
use Rattle.std.proofs.lemmas.Nat.{pow-add}
use Rattle.std.proofs.lemmas.Bool.{cases_lt}

pub power : (k : ℕ) → 2 ^ (k + 1) ≡ 2 * 2 ^ k
power k = omega (arith, pow-add 2 k 1)

-- a way of 64 levels would begin at a node that 64 bits can't number
pub few_levels : (node levels total : ℕ) → node * 2 ^ levels ≤ total → 0 < node → total < 2 ^ 64 →
    levels + 1 < 2 ^ 32
few_levels node levels total cost some small = elim (cases_lt levels 64) [
  | inl few ↦ omega (arith, few)
  | inr many ↦
      let wide : 2 ^ levels * 1 ≤ 2 ^ levels * node = mul-le-mul_left (2 ^ levels) (omega arith) in
      let most : 2 ^ 64 ≤ 2 ^ levels = pow-le-pow_right (let two : 0 < 2 = omega arith in two) many in
      absurd (omega (arith, wide, most))
]

pub cost_halved : (node p total : ℕ) → node * p ≤ total → node / 2 * (2 * p) ≤ total
cost_halved node p total cost =
    let less : p * (node / 2 * 2) ≤ p * node = mul-le-mul_left p (omega arith) in
    omega arith

pub levels_halved : (node p total : ℕ) → total < (node + 1) * p → total < (node / 2 + 1) * (2 * p)
levels_halved node p total levels =
    let more : p * (node + 1) ≤ p * (node / 2 * 2 + 2) = mul-le-mul_left p (omega arith) in
    omega arith

-- a climb below a tree of fewer than 2^most nodes
pub below_most : (levels nodes most : ℕ) → 2 ^ levels ≤ nodes → nodes < 2 ^ most → levels < most
below_most levels nodes most cost few = elim (cases_lt levels most) [
  | inl low ↦ low
  | inr high ↦
      let wide : 2 ^ most ≤ 2 ^ levels = pow-le-pow_right (let two : 0 < 2 = omega arith in two) high in
      absurd (omega (arith, wide))
]

-- one climb less is left, and the climbs so far are one more
pub one_climbed : (levels more left before most : ℕ) → before ≡ left + 1 → more < most →
    levels + before * most ≤ 256 * most → levels + more + left * most ≤ 256 * most
one_climbed levels more left before most one low cost =
    let each : before * most ≡ (left + 1) * most = ap (λ (n : ℕ). n * most) one in
    omega (arith, each)
