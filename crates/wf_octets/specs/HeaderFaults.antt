-- Defines the checks of a MAC header, in order.
use Rattle.std.specs.Prelude.{ℕ, ◌%◌, ◌==◌, ◌&&◌, ◌||◌, not, nat_lt, Bool, List, length, slice_index, Option, Some, None, if◌then◌else◌}
use Rattle.wf_octets.specs.Fields.{is_set, number_at}
use Rattle.wf_octets.specs.declared.header.header.Kind.{Kind}
use Rattle.wf_octets.specs.declared.header.header.Kind.TheVariants.{QosData, QosNull, PsPoll, Ack, BlockAckReq, BlockAck}
use Rattle.wf_octets.specs.declared.header.decoding.HeaderFault.{HeaderFault}
use Rattle.wf_octets.specs.declared.header.decoding.HeaderFault.TheVariants.{Short, Version, Form}
use Rattle.wf_octets.specs.declared.header.decoding.HeaderFault.TheVariants.{Kind as Unknown}
use Rattle.wf_octets.specs.HeaderLayout.{flags_at, sequence_at, qos_at, size_of, is_qos}

-- the kind whose headers have this first octet
abbrev pub kind_of : ℕ → Option Kind
kind_of octet =
    if octet == 0x88 then Some QosData
    else (if octet == 0xC8 then Some QosNull
    else (if octet == 0xA4 then Some PsPoll
    else (if octet == 0xD4 then Some Ack
    else (if octet == 0x84 then Some BlockAckReq
    else (if octet == 0x94 then Some BlockAck else None)))))

-- a QoS header has something that is not supported: both DS flags, More Fragments, Protected, Order, a
-- fragment number, or an A-MSDU
abbrev pub is_malformed : List ℕ → Bool
is_malformed octets =
    (is_set (slice_index octets flags_at) 0 && is_set (slice_index octets flags_at) 1)
    || is_set (slice_index octets flags_at) 2
    || is_set (slice_index octets flags_at) 6 || is_set (slice_index octets flags_at) 7
    || not (number_at octets sequence_at % 16 == 0)
    || is_set (slice_index octets qos_at) 7

abbrev pub fault_of_kind : List ℕ → Kind → Option HeaderFault
fault_of_kind octets kind =
    if nat_lt (length octets) (size_of kind) then Some (Short (size_of kind) (length octets))
    else (if is_qos kind && is_malformed octets then Some Form else None)

-- the first fault of a header
abbrev pub first_header_fault : List ℕ → Option HeaderFault
first_header_fault octets =
    if nat_lt (length octets) 2 then Some (Short 2 (length octets))
    else (if not (slice_index octets 0 % 4 == 0) then Some (Version (slice_index octets 0 % 4))
    else fault_with (kind_of (slice_index octets 0)))
  where
    fault_with : Option Kind → Option HeaderFault
    fault_with None = Some (Unknown (slice_index octets 0))
    fault_with (Some kind) = fault_of_kind octets kind
