-- Defines the octets of a line `frame` or `bar`: two hexadecimal digits without capital letters for each
-- octet, as the crate hex decodes them.
use Rattle.std.specs.Prelude.{ℕ, ◌-◌, nat_le, ◌&&◌, ◌||◌, Bool, List, ◌++◌, length, replicate, Option, Some, None, Result, Ok, Err, if◌then◌else◌}
use Rattle.std.specs.List.{list_all}
use Rattle.hex.specs.declared.error.FromHexError.{FromHexError}
use Rattle.hex.specs.Hex.{decode_of}

-- `0` to `9` are 48 to 57, and `a` to `f` are 97 to 102.
abbrev pub is_lower_digit : ℕ → Bool
is_lower_digit octet = (nat_le 48 octet && nat_le octet 57) || (nat_le 97 octet && nat_le octet 102)

-- The most octets in a line.
abbrev pub most_octets_of_line : ℕ
most_octets_of_line = 50

-- 2 to 100 digits without capital letters.
abbrev pub are_digits : List ℕ → Bool
are_digits word = nat_le 2 (length word) && nat_le (length word) 100 && list_all is_lower_digit word

abbrev pub decoded_octets : Result (List ℕ) FromHexError → Option (List ℕ)
decoded_octets (Ok octets) = Some octets
decoded_octets (Err fault) = None

-- The octets that a word encodes, or none if the number of its digits is odd.
abbrev pub octets_of_word : List ℕ → Option (List ℕ)
octets_of_word word = if are_digits word then decoded_octets (decode_of word) else None

-- The octets, padded with zeros to the most octets in a line.
abbrev pub padded_octets : List ℕ → List ℕ
padded_octets octets = octets ++ replicate (most_octets_of_line - length octets) 0
