-- Defines the checks of octets that reach a station, in their order, and the content of a frame that passes
-- them.
use Rattle.std.specs.Prelude.{ℕ, ◌/◌, ◌%◌, ◌==◌, nat_lt, Bool, false, ◌&&◌, ◌||◌, List, slice_index, Option, Some, None, if◌then◌else◌}
use Rattle.std.specs.Option.{option_map, option_or}
use Rattle.std.specs.Str.{bytes_eq}
use Rattle.wf_octets.specs.Fields.{number_at, part}
use Rattle.wf_octets.specs.HeaderLayout.{address_1_at, address_2_at, sequence_at, qos_at, address_octets, first_octet}
use Rattle.wf_octets.specs.HeaderFaults.{first_header_fault as first_header_fault}
use Rattle.wf_octets.specs.declared.header.header.Kind.TheVariants.{QosData, BlockAckReq}
use Rattle.wf_octets.specs.BlockLayout.{request}
use Rattle.wf_octets.specs.BlockFaults.{first_block_fault as first_block_fault}
use Rattle.wf_recv_peer.specs.declared.fault.PeerFault.{PeerFault}
use Rattle.wf_recv_peer.specs.declared.fault.PeerFault.TheVariants.{Header, Kind, Block, NotMine, Tid}
use Rattle.wf_recv_peer.specs.declared.reading.Reading.{Reading}
use Rattle.wf_recv_peer.specs.declared.reading.Reading.TheVariants.{Data, Request}

abbrev pub is_data_to_peer : List ℕ → Bool
is_data_to_peer octets = slice_index octets 0 == first_octet QosData

abbrev pub is_request_to_peer : List ℕ → Bool
is_request_to_peer octets = slice_index octets 0 == first_octet BlockAckReq

-- The content of a frame. A data frame has the TID in the low four bits of QoS Control and the number in the
-- high twelve of Sequence Control. A request has the TID in the high four bits of the control field and the
-- start in the high twelve of Starting Sequence Control.
abbrev pub reading_of : List ℕ → Reading
reading_of octets =
    if is_data_to_peer octets then Data (slice_index octets qos_at % 16) (number_at octets sequence_at / 16)
    else Request (slice_index octets 17 / 16) (number_at octets 18 / 16)

abbrev pub tid_read : Reading → ℕ
tid_read (Data tid number) = tid
tid_read (Request tid start) = tid

-- ---- the checks: each returns its fault, or none

abbrev pub peer_header_fault : List ℕ → Option PeerFault
peer_header_fault octets = option_map Header (first_header_fault octets)

abbrev pub peer_kind_fault : List ℕ → Option PeerFault
peer_kind_fault octets = if is_data_to_peer octets || is_request_to_peer octets then None
    else Some (Kind (slice_index octets 0))

abbrev pub block_fault : List ℕ → Option PeerFault
block_fault octets = if is_request_to_peer octets
    then option_map Block (first_block_fault 20 request false octets) else None

-- Address 1 has to be the station's, and Address 2 the access point's
abbrev pub peer_address_fault : List ℕ → List ℕ → List ℕ → Option PeerFault
peer_address_fault own base octets =
    if bytes_eq (part octets address_1_at address_octets) own
    && bytes_eq (part octets address_2_at address_octets) base then None else Some NotMine

abbrev pub peer_tid_fault : List ℕ → Option PeerFault
peer_tid_fault octets = if nat_lt (tid_read (reading_of octets)) 8 then None
    else Some (Tid (tid_read (reading_of octets)))

-- the first check that fails at a station with the address `own`, whose access point has the address `base`
abbrev pub first_peer_fault : List ℕ → List ℕ → List ℕ → Option PeerFault
first_peer_fault own base octets =
    option_or (peer_header_fault octets)
    (option_or (peer_kind_fault octets) (option_or (block_fault octets)
    (option_or (peer_address_fault own base octets) (peer_tid_fault octets))))
