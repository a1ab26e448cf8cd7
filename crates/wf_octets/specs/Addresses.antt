-- Defines the placeholder addresses of an access point and its stations, which they have until others are
-- set.
use Rattle.std.specs.Prelude.{ℕ, ◌/◌, ◌%◌, List, [], ◌∷◌}

abbrev pub base : List ℕ
base = 0x02 ∷ 0x00 ∷ 0x00 ∷ 0x00 ∷ 0x00 ∷ 0x00 ∷ []

-- the last two octets are the station's number, the high one first
abbrev pub address_of_station : ℕ → List ℕ
address_of_station station = 0x02 ∷ 0x00 ∷ 0x00 ∷ 0x01 ∷ station / 256 ∷ station % 256 ∷ []
