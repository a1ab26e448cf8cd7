-- Defines many disjoint rotations of numbered keys, each with a deficit and a quantum, and the pick of one of
-- them ("Ending the Anomaly", USENIX ATC 2017, algorithms 2 and 3).
use Rattle.std.specs.Prelude.{◌≡◌, ℕ, Bool, false, List, get_or, ℤ, pos, int_le, if◌then◌else◌}
use Rattle.wf_def_rotation.specs.Rotation.{Rotation, Picked, has_key, need_of, pick}
use Rattle.wf_rotation.specs.Lists.{lists_at}

pub record Rotas : Type 0 where
  pub lists : List Rotation
  pub deficits : List ℤ
  pub quanta : List ℕ

abbrev pub deficit_at : List ℤ → ℕ → ℤ
deficit_at deficits key = get_or deficits key (pos 0)

abbrev pub quantum_at : List ℕ → ℕ → ℕ
quantum_at quanta key = get_or quanta key 1

-- the quanta that a key needs
abbrev pub need_at : Rotas → ℕ → ℕ
need_at v key = need_of (quantum_at v.quanta key) (deficit_at v.deficits key)

-- the lesser of two integers
abbrev pub lesser : ℤ → ℤ → ℤ
lesser x y = if int_le x y then x else y

-- which keys are ready
abbrev pub is_ready : List Bool → ℕ → Bool
is_ready ready key = get_or ready key false

-- no rotation lists the key
abbrev pub IsUnlisted : List Rotation → ℕ → Type 0
IsUnlisted all key = (list : ℕ) → has_key (lists_at all list) key ≡ false

-- the pick of one of the rotations
abbrev pub picked_at : Rotas → List Bool → ℕ → Picked
picked_at v ready list = pick (need_at v) (is_ready ready) (lists_at v.lists list)
