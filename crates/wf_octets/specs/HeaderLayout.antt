-- Defines the layouts of MAC headers (IEEE 802.11-2012, 8.2.4 and 8.3), as relations between octets and
-- fields. All numbers are little-endian.
use Rattle.std.specs.Prelude.{◌≡◌, ℕ, ◌+◌, ◌*◌, ◌%◌, ◌<◌, ◌≤◌, ◌&&◌, Bool, true, false, List, [], ◌∷◌, ◌++◌, length, slice_index, MatchBool, if◌then◌else◌}
use Rattle.wf_octets.specs.Fields.{is_set, number_at, part, two_octets}
use Rattle.wf_octets.specs.declared.header.header.Kind.{Kind}
use Rattle.wf_octets.specs.declared.header.header.Kind.TheVariants.{QosData, QosNull, PsPoll, Ack, BlockAckReq, BlockAck}
use Rattle.wf_octets.specs.declared.header.header.Header.{Header}

-- the first octet of Frame Control: version 0, the type and the subtype
abbrev pub first_octet : Kind → ℕ
first_octet QosData = 0x88
first_octet QosNull = 0xC8
first_octet PsPoll = 0xA4
first_octet Ack = 0xD4
first_octet BlockAckReq = 0x84
first_octet BlockAck = 0x94

-- the offsets of a header's fields in octets (8.2.4): the second octet of Frame Control, Duration, the
-- addresses, and Sequence Control and QoS Control of a QoS frame
abbrev pub flags_at : ℕ
flags_at = 1

abbrev pub duration_at : ℕ
duration_at = 2

abbrev pub address_1_at : ℕ
address_1_at = 4

abbrev pub address_2_at : ℕ
address_2_at = 10

abbrev pub address_3_at : ℕ
address_3_at = 16

abbrev pub sequence_at : ℕ
sequence_at = 22

abbrev pub qos_at : ℕ
qos_at = 24

-- the size of an address in octets (8.2.4.3)
abbrev pub address_octets : ℕ
address_octets = 6

-- the size of a header in octets
abbrev pub size_of : Kind → ℕ
size_of QosData = 26
size_of QosNull = 26
size_of PsPoll = 16
size_of Ack = 10
size_of BlockAckReq = 16
size_of BlockAck = 16

abbrev pub is_qos : Kind → Bool
is_qos QosData = true
is_qos QosNull = true
is_qos PsPoll = false
is_qos Ack = false
is_qos BlockAckReq = false
is_qos BlockAck = false

abbrev pub has_address_2 : Kind → Bool
has_address_2 QosData = true
has_address_2 QosNull = true
has_address_2 PsPoll = true
has_address_2 Ack = false
has_address_2 BlockAckReq = true
has_address_2 BlockAck = true

abbrev pub no_address : List ℕ
no_address = 0 ∷ 0 ∷ 0 ∷ 0 ∷ 0 ∷ 0 ∷ []

-- all flags of the header are false
pub record HasNoFlags (h : Header) : Type 0 where
  pub to_ds : h.to_ds ≡ false
  pub from_ds : h.from_ds ≡ false
  pub retry : h.retry ≡ false
  pub power : h.power ≡ false
  pub more : h.more ≡ false
  pub eosp : h.eosp ≡ false

-- QoS Data and QoS Null after Address 1: the second octet of Frame Control, two addresses, Sequence Control
-- with fragment number 0 in bits 0 to 3, and QoS Control, whose bits 5, 6 and 8 to 15 are free
pub record HasQosFields (octets : List ℕ) (h : Header) : Type 0 where
  pub to_ds : is_set (slice_index octets flags_at) 0 ≡ h.to_ds
  pub from_ds : is_set (slice_index octets flags_at) 1 ≡ h.from_ds
  pub more_fragments : is_set (slice_index octets flags_at) 2 ≡ false
  pub retry : is_set (slice_index octets flags_at) 3 ≡ h.retry
  pub power : is_set (slice_index octets flags_at) 4 ≡ h.power
  pub more : is_set (slice_index octets flags_at) 5 ≡ h.more
  pub protected : is_set (slice_index octets flags_at) 6 ≡ false
  pub order : is_set (slice_index octets flags_at) 7 ≡ false
  pub not_both : (h.to_ds && h.from_ds) ≡ false
  pub address_2 : part octets address_2_at address_octets ≡ h.a2
  pub address_3 : part octets address_3_at address_octets ≡ h.a3
  pub sequence : number_at octets sequence_at ≡ 16 * h.seq
  pub tid : slice_index octets qos_at % 16 ≡ h.tid
  pub eosp : is_set (slice_index octets qos_at) 4 ≡ h.eosp
  pub a_msdu : is_set (slice_index octets qos_at) 7 ≡ false

-- Ack, PS-Poll, BlockAckReq and BlockAck after Address 1: the second octet of Frame Control is free, an Ack
-- has no Address 2, and the fields that such a header does not have are false or 0
pub record HasShortFields (octets : List ℕ) (h : Header) : Type 0 where
  pub flags : HasNoFlags h
  pub address_2 : h.a2 ≡ (if has_address_2 h.kind then part octets address_2_at address_octets
      else no_address)
  pub address_3 : h.a3 ≡ no_address
  pub sequence : h.seq ≡ 0
  pub tid : h.tid ≡ 0

-- the octets begin with this header
pub record BeginsWithHeader (octets : List ℕ) (h : Header) : Type 0 where
  pub long : size_of h.kind ≤ length octets
  pub first : slice_index octets 0 ≡ first_octet h.kind
  pub duration : number_at octets duration_at ≡ h.duration
  pub address_1 : part octets address_1_at address_octets ≡ h.a1
  pub others : MatchBool (is_qos h.kind) (HasQosFields octets h) (HasShortFields octets h)

-- a header that can be written: each field that its kind does not have is false or 0, at most one DS flag is
-- set, and the TID has four bits
pub record IsPlainQos (h : Header) : Type 0 where
  pub not_both : (h.to_ds && h.from_ds) ≡ false
  pub tid : h.tid < 16

pub record IsPlainShort (h : Header) : Type 0 where
  pub flags : HasNoFlags h
  pub address_2 : MatchBool (has_address_2 h.kind) (Unit {0}) (h.a2 ≡ no_address)
  pub address_3 : h.a3 ≡ no_address
  pub sequence : h.seq ≡ 0
  pub tid : h.tid ≡ 0

abbrev pub IsPlain : Header → Type 0
IsPlain h = MatchBool (is_qos h.kind) (IsPlainQos h) (IsPlainShort h)

abbrev pub bit_of : Bool → ℕ
bit_of true = 1
bit_of false = 0

-- the flags as an octet
abbrev pub flags_octet : Header → ℕ
flags_octet h = bit_of h.to_ds + 2 * bit_of h.from_ds + 8 * bit_of h.retry + 16 * bit_of h.power + 32 * bit_of
    h.more

-- the first octet of QoS Control (8.2.4.5): the TID in bits 0 to 3, and EOSP in bit 4
abbrev pub qos_octet : Header → ℕ
qos_octet h = h.tid + 16 * bit_of h.eosp

-- the octets of a header, with free bits 0
abbrev pub header_as_octets : Header → List ℕ
header_as_octets h =
    (first_octet h.kind ∷ flags_octet h ∷ []) ++ two_octets h.duration ++ h.a1
    ++ (if has_address_2 h.kind then h.a2 else [])
    ++ (if is_qos h.kind then h.a3 ++ two_octets (16 * h.seq) ++ (qos_octet h ∷ 0 ∷ []) else [])
