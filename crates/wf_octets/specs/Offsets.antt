-- Defines sets of offsets, as rising lists, and the bitmaps that represent them.
use Rattle.std.specs.Prelude.{ℕ, ◌-◌, ◌*◌, ◌/◌, ◌%◌, ◌<◌, ◌≤◌, ◌==◌, nat_le, suc, List, [], ◌∷◌, length, map, filter, slice_index}
use Rattle.std.specs.List.{range_with_len}
use Rattle.std.specs.Int.{bit_at}

-- the members rise, the first is at least `from`, and all are below `end`
abbrev pub RisesBetween : ℕ → ℕ → List ℕ → Type 0
RisesBetween from end [] = Unit {0}
RisesBetween from end (x ∷ xs) = (from ≤ x) × (x < end) × RisesBetween (suc x) end xs

-- a set of offsets below `end`
abbrev pub IsOffsets : ℕ → List ℕ → Type 0
IsOffsets end xs = RisesBetween 0 end xs

-- the set moved down: offset i becomes i - n, and offsets below n are removed
abbrev pub moved_down : ℕ → List ℕ → List ℕ
moved_down n xs = map (λ i. i - n) (filter (λ i. nat_le n i) xs)

-- the offsets in a bitmap of octets: offset i is bit i mod 8 of octet i / 8, whose least significant bit is
-- bit 0
unfoldable pub offsets_in : List ℕ → List ℕ
offsets_in octets = filter (λ i. bit_at (slice_index octets (i / 8)) (i % 8) == 1)
    (range_with_len 0 (8 * length octets))
