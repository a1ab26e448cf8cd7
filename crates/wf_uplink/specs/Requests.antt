-- Defines the checks of a BlockAckReq from a station, in order, that depend only on its octets
-- (IEEE 802.11-2012, 8.3.1.8). Its layout is defined in wf_octets.
use Rattle.std.specs.Prelude.{ℕ, ◌/◌, ◌==◌, nat_lt, ◌&&◌, Bool, false, List, slice_index, Option, Some, None, if◌then◌else◌}
use Rattle.std.specs.Option.{option_map}
use Rattle.std.specs.Str.{bytes_eq}
use Rattle.wf_octets.specs.Fields.{number_at, part}
use Rattle.wf_octets.specs.Addresses.{base, address_of_station}
use Rattle.wf_octets.specs.HeaderLayout.{first_octet}
use Rattle.wf_octets.specs.HeaderFaults.{first_header_fault as first_header_fault}
use Rattle.wf_octets.specs.declared.header.header.Kind.TheVariants.{BlockAckReq}
use Rattle.wf_octets.specs.BlockLayout.{request}
use Rattle.wf_octets.specs.BlockFaults.{first_block_fault as first_block_fault}
use Rattle.wf_uplink.specs.declared.fault.RequestFault.{RequestFault}
use Rattle.wf_uplink.specs.declared.fault.RequestFault.TheVariants.{Header, Kind, Form, Tid}
use Rattle.wf_uplink.specs.Frames.{sender_of}

-- Address 1 is the access point's, and Address 2 that of the station
abbrev pub is_request_addressed : List ℕ → Bool
is_request_addressed octets =
    bytes_eq (part octets 4 6) base && bytes_eq (part octets 10 6) (address_of_station (sender_of octets))

-- the TID is in the high four bits of the control field
abbrev pub request_tid : List ℕ → ℕ
request_tid octets = slice_index octets 17 / 16

-- the start is in the high twelve bits of Starting Sequence Control
abbrev pub request_start : List ℕ → ℕ
request_start octets = number_at octets 18 / 16

-- ---- the checks: each returns its fault, if any

abbrev pub request_header_fault : List ℕ → Option RequestFault
request_header_fault octets = option_map Header (first_header_fault octets)

abbrev pub request_kind_fault : List ℕ → Option RequestFault
request_kind_fault octets = if slice_index octets 0 == first_octet BlockAckReq then None
    else Some (Kind (slice_index octets 0))

abbrev pub request_form_fault : List ℕ → Option RequestFault
request_form_fault octets = option_map Form (first_block_fault 20 request false octets)

abbrev pub request_tid_fault : List ℕ → Option RequestFault
request_tid_fault octets = if nat_lt (request_tid octets) 8 then None else Some (Tid (request_tid octets))
