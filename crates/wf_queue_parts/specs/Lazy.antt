-- Defines which leaves of a tournament tree lack their newest values. The representation is this crate's; no
-- document defines it.
use Rattle.std.specs.Prelude.{◌≡◌, ℕ, ◌<◌, ◌≤◌, Bool, true, false, List, length, slice_index, slice_index_or}

abbrev pub is_pending_at : List Bool → ℕ → Bool
is_pending_at flags leaf = slice_index_or flags leaf false

-- the list of the pending leaves has this one at some place
abbrev pub HasLeaf : List ℕ → ℕ → Type 0
HasLeaf pending leaf = (place : ℕ) × (place < length pending) × (slice_index pending place ≡ leaf)

-- the tree has the values of the leaves that are not pending, and each pending leaf is on the list
pub record IsLazy (tree values : List ℕ) (flags : List Bool) (pending : List ℕ) : Type 0 where
  pub size : length tree ≡ length values
  pub as_many : length flags ≡ length values
  pub small : length values ≤ 65536
  pub few : length pending ≤ 256
  pub within : (place : ℕ) → place < length pending → slice_index pending place < length values
  pub known : (leaf : ℕ) → leaf < length values → is_pending_at flags leaf ≡ false →
      slice_index tree leaf ≡ slice_index values leaf
  pub found : (leaf : ℕ) → leaf < length values → is_pending_at flags leaf ≡ true → HasLeaf pending leaf
