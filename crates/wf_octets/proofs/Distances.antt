-- Proves that the distance of two sequence numbers equals the distance of the whole numbers that they
-- represent.
use Rattle.std.proofs.Common.{◌≡◌, ℕ, ◌+◌, ◌<◌, ◌≤◌, arith}
use Rattle.wf_octets.specs.Distance.{distance, TwelveBitsStandFor}

pub distance_whole : (s t n b : ℕ) → TwelveBitsStandFor s n → TwelveBitsStandFor t b → distance s t ≡ distance n b
distance_whole s t n b p q = omega arith

-- a number that is less than 4096 above another
pub distance_near : (n b : ℕ) → b ≤ n → n < b + 4096 → b + distance n b ≡ n
distance_near n b p q = omega arith

-- a number that is at most 4096 below another
pub distance_behind : (n b : ℕ) → n < b → b ≤ n + 4096 → distance n b + b ≡ n + 4096
distance_behind n b p q = omega arith

pub distance_below : (n b : ℕ) → distance n b < 4096
distance_below n b = omega arith
