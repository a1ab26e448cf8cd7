-- Defines the checks of a data frame from a station, in order, that depend only on its octets. The layout of
-- the header is defined in wf_octets; the body follows it.
use Rattle.std.specs.Prelude.{ℕ, ◌+◌, ◌-◌, ◌*◌, ◌/◌, ◌%◌, ◌==◌, nat_lt, nat_le, ◌&&◌, Bool, List, length, slice_index, Option, Some, None, if◌then◌else◌}
use Rattle.std.specs.Option.{option_map}
use Rattle.std.specs.Str.{bytes_eq}
use Rattle.wf_def_lists.specs.Lengths.{greatest_body}
use Rattle.wf_octets.specs.Fields.{is_set, number_at, part}
use Rattle.wf_octets.specs.Addresses.{base, address_of_station}
use Rattle.wf_octets.specs.HeaderLayout.{first_octet, size_of}
use Rattle.wf_octets.specs.HeaderFaults.{first_header_fault as first_header_fault}
use Rattle.wf_octets.specs.declared.header.header.Kind.TheVariants.{QosData}
use Rattle.wf_uplink.specs.declared.fault.UplinkFault.{UplinkFault}
use Rattle.wf_uplink.specs.declared.fault.UplinkFault.TheVariants.{Header, Kind, Tid, Length}

-- the number in the last two octets of an address, the high one first
abbrev pub address_number : List ℕ → ℕ
address_number address = 256 * slice_index address 4 + slice_index address 5

-- the number of the station that Address 2 would belong to
abbrev pub sender_of : List ℕ → ℕ
sender_of octets = address_number (part octets 10 6)

-- To DS is set, Address 1 is the access point's, and Address 2 that of the station
abbrev pub is_addressed : List ℕ → Bool
is_addressed octets =
    is_set (slice_index octets 1) 0 && bytes_eq (part octets 4 6) base
    && bytes_eq (part octets 10 6) (address_of_station (sender_of octets))

-- the TID is in the low four bits of QoS Control
abbrev pub tid_in_control : List ℕ → ℕ
tid_in_control octets = slice_index octets 24 % 16

-- the sequence number is in the high twelve bits of Sequence Control
abbrev pub sequence_of : List ℕ → ℕ
sequence_of octets = number_at octets 22 / 16

abbrev pub body_length : List ℕ → ℕ
body_length octets = length octets - size_of QosData

-- ---- the checks: each returns its fault, if any

abbrev pub header_fault : List ℕ → Option UplinkFault
header_fault octets = option_map Header (first_header_fault octets)

abbrev pub kind_fault : List ℕ → Option UplinkFault
kind_fault octets = if slice_index octets 0 == first_octet QosData then None
    else Some (Kind (slice_index octets 0))

abbrev pub uplink_tid_fault : List ℕ → Option UplinkFault
uplink_tid_fault octets = if nat_lt (tid_in_control octets) 8 then None
    else Some (Tid (tid_in_control octets))

abbrev pub length_fault : List ℕ → Option UplinkFault
length_fault octets =
    if nat_le 1 (body_length octets) && nat_le (body_length octets) greatest_body then None
    else Some (Length (body_length octets))
