-- Defines how fields of frames are read at their places. A single octet is read with `slice_index`.
use Rattle.std.specs.Prelude.{ℕ, ◌+◌, ◌*◌, ◌/◌, ◌%◌, ◌==◌, Bool, List, [], ◌∷◌, slice_index, take, drop}
use Rattle.std.specs.Int.{bit_at}

-- whether bit k of an octet is 1, bit 0 being the least significant
abbrev pub is_set : ℕ → ℕ → Bool
is_set octet k = bit_at octet k == 1

-- the number in the two octets at a place, the low octet first
abbrev pub number_at : List ℕ → ℕ → ℕ
number_at octets place = slice_index octets place + 256 * slice_index octets (place + 1)

-- `count` octets from a place on
abbrev pub part : List ℕ → ℕ → ℕ → List ℕ
part octets place count = take count (drop place octets)

-- a number below 2 ^ 16 as two octets, the low one first
abbrev pub two_octets : ℕ → List ℕ
two_octets n = n % 256 ∷ n / 256 % 256 ∷ []
