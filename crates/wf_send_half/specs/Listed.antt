-- Defines the list of a class that a station is on.
use Rattle.std.specs.Prelude.{ℕ, Option, Some, None, if◌then◌else◌}
use Rattle.wf_def_lists.specs.Table.{has}
use Rattle.wf_def_rotation.specs.Rotation.{Rotation}
use Rattle.wf_rotation.specs.declared.side.Side.{Side}
use Rattle.wf_rotation.specs.declared.side.Side.TheVariants.{New, Old}

-- the list of a rotation that a key is on, if any
abbrev pub list_of : Rotation → ℕ → Option Side
list_of r key = if has r.new key then Some New else if has r.old key then Some Old else None
