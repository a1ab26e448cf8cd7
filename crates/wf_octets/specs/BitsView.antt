-- Defines the set of offsets that words represent.
use Rattle.std.specs.Prelude.{ℕ, ◌+◌, ◌*◌, ◌^◌, ◌==◌, List, [], ◌∷◌, filter}
use Rattle.std.specs.List.{range_with_len}
use Rattle.std.specs.Int.{bit_at}

-- the offsets below `end` whose bit in the number is 1
unfoldable pub set_of : ℕ → ℕ → List ℕ
set_of end number = filter (λ i. bit_at number i == 1) (range_with_len 0 end)

-- the number with these digits of `size` bits, the least significant first
abbrev pub number_of_bits : ℕ → List ℕ → ℕ
number_of_bits size [] = 0
number_of_bits size (digit ∷ digits) = number_of_bits size digits * 2 ^ size + digit
