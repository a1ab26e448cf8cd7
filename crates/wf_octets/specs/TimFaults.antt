-- Defines the checks of a TIM element, in order.
use Rattle.std.specs.Prelude.{ℕ, ◌+◌, ◌-◌, ◌==◌, ◌||◌, not, nat_lt, List, length, slice_index, Option, Some, None, if◌then◌else◌}
use Rattle.wf_octets.specs.declared.tim.TimFault.{TimFault}
use Rattle.wf_octets.specs.declared.tim.TimFault.TheVariants.{Short, Id, Length}
use Rattle.wf_octets.specs.Tim.{first_octet_of_bitmap}

-- the first fault of a TIM element
abbrev pub first_tim_fault : List ℕ → Option TimFault
first_tim_fault octets =
    if nat_lt (length octets) 6 then Some (Short (length octets))
    else (if not (slice_index octets 0 == 5) then Some (Id (slice_index octets 0))
    else (if not (slice_index octets 1 + 2 == length octets)
    || nat_lt 251 (first_octet_of_bitmap octets + (length octets - 5))
    then Some (Length (slice_index octets 1)) else None))
