-- Defines how arrays of links represent the lists of all rotations. The representation is this crate's; no
-- document defines it.
use Rattle.std.specs.Prelude.{◌≡◌, ℕ, zero, suc, ◌+◌, ◌*◌, ◌<◌, ◌≤◌, nat_lt, if◌then◌else◌, List, [], ◌∷◌, length, map, get_or}
use Rattle.wf_def_rotation.specs.Rotation.{Rotation}
use Rattle.std.specs.List.{range_with_len}
use Rattle.wf_def_lists.specs.Lists.{on}
use Rattle.wf_rotation.specs.Lists.{AllLists, keys_at}
use Rattle.wf_rotation.specs.declared.side.Side.{Side}
use Rattle.wf_rotation.specs.declared.side.Side.TheVariants.{New, Old}

abbrev pub entry_at : List ℕ → ℕ → ℕ
entry_at xs k = get_or xs k 0

-- the keys along the links from a start, at most n keys; a number past the links ends a chain
unfoldable pub walk : ℕ → List ℕ → ℕ → List ℕ
walk zero next from = []
walk (suc n) next from = if nat_lt from (length next) then from ∷ walk n next (entry_at next from) else []

-- the links lead from a start through these keys and then end
unfoldable pub Leads : List ℕ → ℕ → List ℕ → Type 0
Leads next from [] = length next ≤ from
Leads next from (x ∷ xs) = (from ≡ x) × (x < length next) × Leads next (entry_at next x) xs

-- the last key of a list, if there is one
unfoldable pub EndsWith : List ℕ → ℕ → Type 0
EndsWith [] t = Unit {0}
EndsWith (x ∷ []) t = x ≡ t
EndsWith (x ∷ y ∷ ys) t = EndsWith (y ∷ ys) t

-- the keys of a chain
abbrev pub chain : List ℕ → List ℕ → ℕ → List ℕ
chain next heads slot = walk (length next) next (entry_at heads slot)

-- rotation l has the chains 2 * l, for its new list, and 2 * l + 1, for its old list
abbrev pub slot_of : ℕ → Side → ℕ
slot_of l New = 2 * l
slot_of l Old = 2 * l + 1

abbrev pub chain_lists : List ℕ → List ℕ → ℕ → Rotation
chain_lists next heads l = record { new = chain next heads (2 * l); old = chain next heads (2 * l + 1) }

abbrev pub all_chains : List ℕ → List ℕ → ℕ → List Rotation
all_chains next heads lists = map (chain_lists next heads) (range_with_len 0 lists)

-- the chains are these lists, and no key is on two of them
pub record Chains (next heads tails : List ℕ) (lists : ℕ) (keys_of : ℕ → List ℕ) : Type 0 where
  pub leads : (slot : ℕ) → slot < 2 * lists → Leads next (entry_at heads slot) (keys_of slot)
  pub ends : (slot : ℕ) → slot < 2 * lists → EndsWith (keys_of slot) (entry_at tails slot)
  pub once : (slot key : ℕ) → slot < 2 * lists → on (keys_of slot) key ≤ 1
  pub apart : (slot other key : ℕ) → slot < 2 * lists → other < 2 * lists → 0 < on (keys_of slot) key →
      0 < on (keys_of other) key → slot ≡ other

pub record AreLinks (next heads tails : List ℕ) (lists : ℕ) : Type 0 where
  pub heads_there : length heads ≡ 2 * lists
  pub tails_there : length tails ≡ 2 * lists
  pub chains : Chains next heads tails lists (chain next heads)

-- from a key on, the entry of each later key of a list is the key before it
unfoldable pub Follows : List ℕ → ℕ → List ℕ → Type 0
Follows prev x [] = Unit {0}
Follows prev x (y ∷ ys) = (entry_at prev y ≡ x) × Follows prev y ys

-- the entry of each key of a list, except the first, is the key before it
abbrev pub Backs : List ℕ → List ℕ → Type 0
Backs prev [] = Unit {0}
Backs prev (x ∷ xs) = Follows prev x xs

-- each key has an entry, and the entries lead back along every list
pub record AreBacks (prev : List ℕ) (q : AllLists) : Type 0 where
  pub keys : length prev ≡ q.keys
  pub backs : (list : ℕ) (side : Side) → Backs prev (keys_at q.lists list side)
