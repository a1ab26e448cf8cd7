-- Defines the distance between whole numbers modulo 4096, and the 12-bit sequence numbers that represent them
-- (IEEE 802.11-2012, 8.2.4.4.2).
use Rattle.std.specs.Prelude.{◌≡◌, ℕ, ◌+◌, ◌-◌, ◌%◌}

-- (n - b) mod 4096 for whole numbers, also if n is below b
abbrev pub distance : ℕ → ℕ → ℕ
distance n b = (n + (4096 - b % 4096)) % 4096

-- s is the 12-bit number of the whole number n
abbrev pub TwelveBitsStandFor : ℕ → ℕ → Type 0
TwelveBitsStandFor s n = s ≡ n % 4096
