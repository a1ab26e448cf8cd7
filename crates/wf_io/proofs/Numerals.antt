-- Proves that further digits do not make a value smaller, and that greater powers of ten are greater.
use Rattle.std.proofs.Common.{ℕ, ◌+◌, ◌-◌, ◌*◌, ◌^◌, ◌≤◌, List, [], ◌∷◌, arith}
use Rattle.std.proofs.Math.Nat.{pow-le-pow_right}
use Rattle.wf_io.specs.Digits.{value_from}

pub at_least : (digits : List ℕ) (value : ℕ) → value ≤ value_from value digits
at_least [] value = omega arith
at_least (digit ∷ digits) value = omega (arith, at_least digits (value * 10 + (digit - 48)))

pub power_at_most : (i j : ℕ) → i ≤ j → 10 ^ i ≤ 10 ^ j
power_at_most i j most = pow-le-pow_right (omega arith) most
