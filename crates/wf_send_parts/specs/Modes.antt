-- Defines the modes of the TIDs of all stations, as a list by `tid_number`.
use Rattle.std.specs.Prelude.{ℕ, ◌||◌, Bool, List, slice_index_or, slice_set}
use Rattle.std.specs.List.{list_any}
use Rattle.wf_def_lists.specs.Table.{upto}
use Rattle.wf_frame.specs.Classes.{tid_number}
use Rattle.wf_def_world.specs.World.{Mode as WorldMode, has_agreement, holds_back}
use Rattle.wf_send_parts.specs.declared.stations.modes.Mode.{Mode}
use Rattle.wf_send_parts.specs.declared.stations.modes.Mode.TheVariants.{Plain, OnHold, Agreed}

-- the mode of the definition that a mode of the code is
abbrev pub as_mode : Mode → WorldMode
as_mode Plain = WorldMode.Plain
as_mode OnHold = WorldMode.OnHold
as_mode Agreed = WorldMode.Agreed

-- the mode of TID t of station s
abbrev pub mode_of : List Mode → ℕ → ℕ → Mode
mode_of modes s t = slice_index_or modes (tid_number s t) Plain

-- whether TID t of station s has an agreement or is held
abbrev pub is_set_in : List Mode → ℕ → ℕ → Bool
is_set_in modes s t = has_agreement (as_mode (mode_of modes s t)) || holds_back (as_mode (mode_of modes s t))

-- whether some TID of station s has an agreement or is held
abbrev pub any_set_in : List Mode → ℕ → Bool
any_set_in modes s = list_any (is_set_in modes s) (upto 8)

-- the modes with this one at TID t of station s
abbrev pub with_mode_of : List Mode → ℕ → ℕ → Mode → List Mode
with_mode_of modes s t mode = slice_set modes (tid_number s t) mode
