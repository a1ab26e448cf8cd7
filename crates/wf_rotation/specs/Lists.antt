-- Defines the lists of many rotations (the new and old lists of "Ending the Anomaly", USENIX ATC 2017,
-- algorithms 1 to 3), and the relation of a key to a list.
use Rattle.std.specs.Prelude.{◌≡◌, ℕ, ◌<◌, ◌≤◌, ◌==◌, not, Bool, List, [], ◌∷◌, get_or, set, Option, Some, None}
use Rattle.wf_def_lists.specs.Table.{has}
use Rattle.wf_def_rotation.specs.Rotation.{Rotation, no_keys, in_order}
use Rattle.std.specs.List.{filter}
use Rattle.wf_def_lists.specs.Lists.{on}
use Rattle.wf_rotation.specs.declared.side.Side.{Side}
use Rattle.wf_rotation.specs.declared.side.Side.TheVariants.{New, Old}

-- the lists of all rotations, and the number that every key is below
pub record AllLists : Type 0 where
  pub lists : List Rotation
  pub keys : ℕ

-- the lists of the rotation with this number
abbrev pub lists_at : List Rotation → ℕ → Rotation
lists_at all list = get_or all list no_keys

abbrev pub side_of : Rotation → Side → List ℕ
side_of lists New = lists.new
side_of lists Old = lists.old

abbrev pub with_side : Rotation → Side → List ℕ → Rotation
with_side lists New keys = record { new = keys; old = lists.old }
with_side lists Old keys = record { new = lists.new; old = keys }

abbrev pub keys_at : List Rotation → ℕ → Side → List ℕ
keys_at all list side = side_of (lists_at all list) side

-- the key is on this list
abbrev pub has_on : List Rotation → ℕ → Side → ℕ → Bool
has_on all list side key = has (keys_at all list side) key

-- one list gets these keys, and the others stay
abbrev pub with_keys : List Rotation → ℕ → Side → List ℕ → List Rotation
with_keys all list side keys = set all list (with_side (lists_at all list) side keys)

-- how often a key is on the lists of one rotation
abbrev pub on_at : List Rotation → ℕ → ℕ → ℕ
on_at all list key = on (in_order (lists_at all list)) key

-- the key is on no list of any rotation
abbrev pub IsOff : List Rotation → ℕ → Type 0
IsOff all key = (list : ℕ) → on_at all list key ≡ 0

-- each key is on at most one list, at most once, and is below the number of keys
pub record AreDisjoint (q : AllLists) : Type 0 where
  pub once : (list key : ℕ) → on_at q.lists list key ≤ 1
  pub one_list : (list other key : ℕ) → 0 < on_at q.lists list key → 0 < on_at q.lists other key →
      list ≡ other
  pub below : (list key : ℕ) → 0 < on_at q.lists list key → key < q.keys

abbrev pub first_of : List ℕ → Option ℕ
first_of [] = None
first_of (y ∷ ys) = Some y

abbrev pub keys_behind : List ℕ → List ℕ
keys_behind [] = []
keys_behind (y ∷ ys) = ys

-- the least of a number and these keys
pub record IsLeast (number : ℕ) (keys : List ℕ) (least : ℕ) : Type 0 where
  pub most : least ≤ number
  pub low : (key : ℕ) → 0 < on keys key → least ≤ key
  pub stands : least < number → 0 < on keys least

-- the list without a key
abbrev pub without : ℕ → List ℕ → List ℕ
without key xs = filter (λ x. not (x == key)) xs
