-- Defines the receive half of a station for the TIDs without an agreement: which frames repeat the one before
-- (IEEE 802.11-2012, 9.3.2.10), the checks of octets, and the half after a frame.
use Rattle.std.specs.Prelude.{ℕ, ◌/◌, ◌%◌, ◌==◌, nat_lt, ◌&&◌, Bool, false, List, replicate, slice_index, slice_index_or, slice_set, Option, Some, None, if◌then◌else◌}
use Rattle.std.specs.Option.{option_or}
use Rattle.wf_octets.specs.Fields.{is_set, number_at}
use Rattle.wf_octets.specs.HeaderLayout.{flags_at, sequence_at, qos_at}
use Rattle.wf_recv_peer.specs.declared.fault.PeerFault.{PeerFault}
use Rattle.wf_recv_peer.specs.declared.fault.PeerFault.TheVariants.{Kind, Tid}
use Rattle.wf_recv_peer.specs.Receiving.{is_data_to_peer, peer_header_fault, peer_address_fault}

-- whether a frame of number n repeats the frame of its TID that was passed up last: it has the Retry bit, and
-- the last number is n. `last` is None if no frame was passed up.
abbrev pub is_repeat : Option ℕ → Bool → ℕ → Bool
is_repeat None retry n = false
is_repeat (Some last) retry n = retry && (last == n)

pub record PlainPeerValue : Type 0 where
  pub own : List ℕ  -- the station's address
  pub base : List ℕ  -- the access point's
  pub last : List (Option ℕ)  -- by TID, the number of the frame that was passed up last

-- the half of the station with the address `own`, at the access point with the address `base`
abbrev pub new_plain_peer : List ℕ → List ℕ → PlainPeerValue
new_plain_peer own base = record { own = own; base = base; last = replicate 8 None }

abbrev pub last_passed : PlainPeerValue → ℕ → Option ℕ
last_passed p tid = slice_index_or p.last tid None

abbrev pub with_last : ℕ → Option ℕ → PlainPeerValue → PlainPeerValue
with_last tid last p = record p { last = slice_set p.last tid last }

-- ---- the fields of a data frame

abbrev pub retry_of : List ℕ → Bool
retry_of octets = is_set (slice_index octets flags_at) 3

abbrev pub data_tid : List ℕ → ℕ
data_tid octets = slice_index octets qos_at % 16

abbrev pub data_number : List ℕ → ℕ
data_number octets = number_at octets sequence_at / 16

-- ---- the checks: each returns its fault, or none

abbrev pub data_kind_fault : List ℕ → Option PeerFault
data_kind_fault octets = if is_data_to_peer octets then None else Some (Kind (slice_index octets 0))

abbrev pub data_tid_fault : List ℕ → Option PeerFault
data_tid_fault octets = if nat_lt (data_tid octets) 8 then None else Some (Tid (data_tid octets))

-- the first check that fails at a station with the address `own`, whose access point has the address `base`
abbrev pub first_data_fault : List ℕ → List ℕ → List ℕ → Option PeerFault
first_data_fault own base octets =
    option_or (peer_header_fault octets)
    (option_or (data_kind_fault octets)
    (option_or (peer_address_fault own base octets) (data_tid_fault octets)))

-- ---- a data frame without fault

abbrev pub repeats_last : List ℕ → PlainPeerValue → Bool
repeats_last octets p = is_repeat (last_passed p (data_tid octets)) (retry_of octets) (data_number octets)

-- its number is the last one: a repeat has that number already
abbrev pub after_data : List ℕ → PlainPeerValue → PlainPeerValue
after_data octets p = with_last (data_tid octets) (Some (data_number octets)) p
