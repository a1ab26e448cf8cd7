-- Proves that quotients which are rounded up are the same in code and in definitions.
use Rattle.std.proofs.Common.{◌≡◌, ℕ, ◌+◌, ◌-◌, ◌/◌, ◌%◌, ◌<◌, ◌≤◌, min, arith}
use Rattle.std.proofs.Math.Nat.{le-div_iff_mul-le, div-lt_iff_lt-mul}
use Rattle.std.proofs.lemmas.Grind.{div_ceil_times}

-- Rust's `div_ceil` and the definitions' formula have the same result
pub same_ceiling : (a b : ℕ) → 0 < b → a / b + min 1 (a % b) ≡ (a + (b - 1)) / b
same_ceiling a b some =
    let times = div_ceil_times a b some in
    let least : a / b + min 1 (a % b) ≤ (a + (b - 1)) / b =
    (le-div_iff_mul-le some).1 (omega (arith, times)) in
    let most : (a + (b - 1)) / b < a / b + min 1 (a % b) + 1 =
    (div-lt_iff_lt-mul some).1 (omega (arith, times)) in
    omega (arith, least, most)
