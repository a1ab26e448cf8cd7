-- Defines the sums of a counter by the entries of its history.
use Rattle.std.specs.Prelude.{◌≡◌, ℕ, ◌+◌, ◌*◌, ◌%◌, ◌^◌, ◌<◌, List, cond, eqb, sum_by, slice_index}

-- the octets that an entry adds to the sum at this place: all if the caller's number has this remainder, else
-- 0
abbrev pub octets_if : ℕ → ℕ × ℕ → ℕ
octets_if place e = cond (eqb (e.0 % 256) place) e.1 0

-- the sum at this place
abbrev pub octets_at : ℕ → List (ℕ × ℕ) → ℕ
octets_at place entries = sum_by (octets_if place) entries

-- these are the 256 sums of the entries
abbrev pub AreSumsOfCalls : List ℕ → List (ℕ × ℕ) → Type 0
AreSumsOfCalls sums entries = (place : ℕ) → place < 256 → slice_index sums place ≡ octets_at place entries

-- this many more calls do not make a sum exceed 64 bits
abbrev pub AreSmall : List ℕ → ℕ → Type 0
AreSmall sums left = (place : ℕ) → place < 256 → slice_index sums place + 4294967295 * left < 2 ^ 64
