-- Defines which numbers of a window are on the air, and whether all are settled.
use Rattle.std.specs.Prelude.{ℕ, Bool, List, Option}
use Rattle.std.specs.List.{list_all}
use Rattle.wf_def_agreement.specs.Session.{Session, numbers_where, is_settled}
use Rattle.wf_send_parts.specs.declared.window.place.Place.{Place}
use Rattle.wf_send_parts.specs.Places.{state_of_place}
use Rattle.wf_send_parts.specs.Window.{is_flying}

-- the numbers that are on the air, in increasing order
abbrev pub flying_numbers : Session → List ℕ
flying_numbers s = numbers_where is_flying s.first s.slots

-- whether each number is acknowledged or failed, so that none waits or is on the air
abbrev pub is_drained : Session → Bool
is_drained s = list_all (λ x. is_settled x.state) s.slots

-- whether a place is on the air
abbrev pub flies : Option Place → Bool
flies p = is_flying (state_of_place p)
