-- Defines which frame octets encode.
use Rattle.std.specs.Prelude.{ℕ, zero, suc, ◌/◌, ◌%◌, ◌==◌, nat_lt, ◌&&◌, ◌||◌, Bool, true, false, is_none, List, [], ◌∷◌, length, take, drop, Option, Some, None, slice_index, if◌then◌else◌}
use Rattle.wf_def_tim.specs.Tim.{tim_id}
use Rattle.wf_octets.specs.Fields.{is_set, number_at}
use Rattle.wf_octets.specs.declared.tim.Tim.{Tim}
use Rattle.wf_octets.specs.declared.header.header.Kind.TheVariants.{QosData}
use Rattle.wf_octets.specs.HeaderLayout.{first_octet, sequence_at, qos_at}
use Rattle.wf_octets.specs.HeaderFaults.{first_header_fault as header_fault}
use Rattle.wf_octets.specs.BlockLayout.{request, answer}
use Rattle.wf_octets.specs.BlockFaults.{first_block_fault as block_fault}
use Rattle.wf_report.specs.declared.captures.listing.frame.Frame.{Frame}
use Rattle.wf_report.specs.declared.captures.listing.frame.Frame.TheVariants.{Data, Bar, Ba, Beacon, Group, Other}

-- The octets begin with a header of QoS Data that passes all checks.
abbrev pub is_qos_data : List ℕ → Bool
is_qos_data octets = is_none (header_fault octets) && slice_index octets 0 == first_octet QosData

-- The octets pass all checks of a BlockAckReq, of a BlockAck with 64 numbers, or of one with 256.
abbrev pub is_bar : List ℕ → Bool
is_bar octets = is_none (block_fault 20 request false octets)

abbrev pub is_ba : List ℕ → Bool
is_ba octets = is_none (block_fault 28 answer false octets) || is_none (block_fault 52 answer true octets)

-- QoS Data: the TID is bits 0 to 3 of QoS Control, and the sequence number bits 4 to 15 of Sequence Control.
abbrev pub data_in : List ℕ → Frame
data_in octets = Data (slice_index octets qos_at % 16) (number_at octets sequence_at / 16)

-- A BlockAckReq or BlockAck: the TID is bits 12 to 15 of the control field, and the first number of the
-- window bits 4 to 15 of Starting Sequence Control.
abbrev pub block_tid : List ℕ → ℕ
block_tid octets = slice_index octets 17 / 16

abbrev pub block_start : List ℕ → ℕ
block_start octets = number_at octets 18 / 16

-- The fields of the TIM element with this body: its DTIM count and period, and bit 0 of its bitmap control.
-- At least one octet of the bitmap follows.
abbrev pub tim_of : List ℕ → Option Tim
tim_of (count ∷ period ∷ control ∷ octet ∷ octets) =
    Some (record { count = count; period = period; group = is_set control 0 })
tim_of octets = None

-- The fields of the first TIM element among elements, of which the first `inside` octets are left out. Each
-- element has its number, the length of its body, and its body. None if there is no TIM element, or if it or
-- an element before it is incomplete.
abbrev pub tim_behind : ℕ → List ℕ → Option Tim
tim_behind zero [] = None
tim_behind zero (number ∷ []) = None
tim_behind zero (number ∷ len ∷ octets) =
    if nat_lt (length octets) len then None
    else (if number == tim_id then tim_of (take len octets) else tim_behind len octets)
tim_behind (suc inside) [] = None
tim_behind (suc inside) (octet ∷ octets) = tim_behind inside octets

-- A beacon, by the fields of its TIM element (8.3.3.2).
abbrev pub beacon_with : ℕ → Option Tim → Frame
beacon_with seq None = Other
beacon_with seq (Some tim) = Beacon seq tim.count tim.period tim.group

-- A beacon with this sequence number. Its elements follow 36 octets.
abbrev pub beacon_in : ℕ → List ℕ → Frame
beacon_in seq octets =
    if nat_lt (length octets) 36 then Other else beacon_with seq (tim_behind 0 (drop 36 octets))

-- A frame with a header of 24 octets: a beacon, or Data without QoS to a group, whose address has bit 0 of
-- its first octet set. The sequence number is bits 4 to 15 of Sequence Control.
abbrev pub plain_in : List ℕ → Frame
plain_in octets =
    if slice_index octets 0 == 0x80 then beacon_in (number_at octets sequence_at / 16) octets
    else (if slice_index octets 0 == 0x08 && is_set (slice_index octets 4) 0
    then Group (number_at octets sequence_at / 16) else Other)

abbrev pub other_in : List ℕ → Frame
other_in octets = if nat_lt (length octets) 24 then Other else plain_in octets

abbrev pub block_in : List ℕ → Frame
block_in octets =
    if is_bar octets then Bar (block_tid octets) (block_start octets)
    else (if is_ba octets then Ba (block_tid octets) (block_start octets) else other_in octets)

abbrev pub frame_listed : List ℕ → Frame
frame_listed octets = if is_qos_data octets then data_in octets else block_in octets
