-- Defines what a `Rota` keeps: the home of each key, which is its list, and the bounds of deficits and
-- quanta. The representation is this crate's; no document defines it.
use Rattle.std.specs.Prelude.{◌≡◌, ℕ, ◌^◌, ◌-◌, ◌<◌, List, length, get_or, Option, Some, None, ℤ, pos, negsuc, ◌≤ℤ◌, ◌<ℤ◌}
use Rattle.wf_def_rotation.specs.Rotation.{Rotation}
use Rattle.wf_def_lists.specs.Lists.{on}
use Rattle.wf_rotation.specs.Lists.{AllLists, keys_at, IsOff}
use Rattle.wf_rotation.specs.Rotas.{deficit_at, quantum_at}
use Rattle.wf_rotation.specs.declared.rota.Home.{Home}

-- the key is on this list, or on no list if it has no home
abbrev pub IsHome : List Rotation → ℕ → Option Home → Type 0
IsHome all key None = IsOff all key
IsHome all key (Some home) = (home.list < length all) × (0 < on (keys_at all home.list home.side) key)

abbrev pub home_at : List (Option Home) → ℕ → Option Home
home_at homes key = get_or homes key None

-- the links, homes, deficits and quanta are for the same keys, the homes are right, and the numbers fit
pub record AreKept (links : AllLists) (homes : List (Option Home)) (deficits : List ℤ)
    (quanta : List ℕ) : Type 0 where
  pub keys : links.keys ≡ length deficits
  pub homes_keys : length homes ≡ length deficits
  pub quanta_keys : length quanta ≡ length deficits
  pub at_home : (key : ℕ) → key < length deficits → IsHome links.lists key (home_at homes key)
  pub low : (key : ℕ) → negsuc (2 ^ 62 - 1) ≤ℤ deficit_at deficits key
  pub high : (key : ℕ) → deficit_at deficits key <ℤ pos (2 ^ 32)
  pub positive : (key : ℕ) → 0 < quantum_at quanta key
  pub fits : (key : ℕ) → quantum_at quanta key < 2 ^ 32
  pub few : length deficits < 2 ^ 32
