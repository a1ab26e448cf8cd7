-- Defines the best of numbered leaves, which is the longest queue in algorithm 1 of "Ending the Anomaly"
-- (USENIX ATC 2017), and the first leaf from a value on.
use Rattle.std.specs.Prelude.{◌≡◌, ℕ, ◌^◌, ◌<◌, ◌≤◌, List, length, slice_index}

-- the leaf has the greatest value, which is not 0, and it is the least of these leaves
pub record IsBest (values : List ℕ) (leaf : ℕ) : Type 0 where
  pub within : leaf < length values
  pub some : 0 < slice_index values leaf
  pub greatest : (other : ℕ) → slice_index values other ≤ slice_index values leaf
  pub least : (other : ℕ) → other < leaf → slice_index values other < slice_index values leaf

-- the leaf has a value of at least `low`, and it is the least of these leaves
pub record IsFirstFrom (values : List ℕ) (low leaf : ℕ) : Type 0 where
  pub within : leaf < length values
  pub from : low ≤ slice_index values leaf
  pub least : (other : ℕ) → other < leaf → slice_index values other < low

abbrev pub IsPowerOfTwo : ℕ → Type 0
IsPowerOfTwo n = (levels : ℕ) × (n ≡ 2 ^ levels)
