-- Defines the checks of the octets of a BlockAck to an open exchange, in their order, and the content of the
-- BlockAck (IEEE 802.11-2012, 8.3.1.9, and 802.11ax-2021, 9.3.1.8.2).
use Rattle.std.specs.Prelude.{ℕ, ◌/◌, ◌==◌, Bool, ◌&&◌, not, false, List, length, drop, slice_index, Option, Some, None, if◌then◌else◌}
use Rattle.std.specs.Option.{option_map, option_map_or, option_or}
use Rattle.std.specs.Str.{bytes_eq}
use Rattle.wf_def_air.specs.Airtime.{block_ack_octets}
use Rattle.wf_octets.specs.Offsets.{offsets_in}
use Rattle.wf_octets.specs.Fields.{number_at, part}
use Rattle.wf_octets.specs.HeaderLayout.{address_1_at, address_2_at, address_octets}
use Rattle.wf_octets.specs.BlockLayout.{answer}
use Rattle.wf_octets.specs.BlockFaults.{first_block_fault}
use Rattle.wf_def_world.specs.World.{World, station, exchange, is_wide}
use Rattle.wf_path.specs.Addresses.{Addresses, address_in, bss_in}
use Rattle.wf_path.specs.declared.faults.DoneFault.{DoneFault}
use Rattle.wf_path.specs.declared.faults.DoneFault.TheVariants.{NoExchange, Block, NotMine, WrongTid}

-- ---- the content of a BlockAck

-- the first octets of its fields: the second octet of BA Control, whose high four bits are the TID; Starting
-- Sequence Control, whose high twelve bits are the start; the bitmap
abbrev pub tid_octet : ℕ
tid_octet = 17

abbrev pub start_at : ℕ
start_at = 18

abbrev pub bitmap_at : ℕ
bitmap_at = 20

abbrev pub recipient_in : List ℕ → List ℕ
recipient_in octets = part octets address_1_at address_octets

abbrev pub transmitter_in : List ℕ → List ℕ
transmitter_in octets = part octets address_2_at address_octets

abbrev pub tid_in : List ℕ → ℕ
tid_in octets = slice_index octets tid_octet / 16

-- its start, and the offsets from the start of the numbers that arrived
abbrev pub block_ack_in : List ℕ → ℕ × List ℕ
block_ack_in octets = (number_at octets start_at / 16, offsets_in (drop bitmap_at octets))

-- ---- the checks: each gives its fault, or none

-- whether octets are read as a BlockAck of 256 numbers: if the session is wide, unless they have the length
-- of a BlockAck of 64, which a wide session takes too
abbrev pub is_read_wide : Bool → List ℕ → Bool
is_read_wide wide octets = wide && not (length octets == block_ack_octets false)

-- the check that the octets are a BlockAck of 256 numbers, if they are read so, or else of 64
abbrev pub layout_fault : Bool → List ℕ → Option DoneFault
layout_fault wide octets =
    let long : Bool = is_read_wide wide octets in
    option_map Block (first_block_fault (block_ack_octets long) answer long octets)

-- the check that the BlockAck is to the access point of BSS b and from station s
abbrev pub address_fault : Addresses → ℕ → ℕ → List ℕ → Option DoneFault
address_fault a s b octets = if bytes_eq (recipient_in octets) (bss_in a b)
    && bytes_eq (transmitter_in octets) (address_in a s) then None else Some NotMine

-- the check that the BlockAck is for TID t
abbrev pub tid_fault : ℕ → List ℕ → Option DoneFault
tid_fault t octets = if tid_in octets == t then None else Some (WrongTid (tid_in octets))

-- the first check that fails, for an exchange to TID t of station s, which is of BSS b
abbrev pub answer_fault : Addresses → Bool → ℕ → ℕ → ℕ → List ℕ → Option DoneFault
answer_fault a wide s b t octets = option_or (layout_fault wide octets)
    (option_or (address_fault a s b octets) (tid_fault t octets))

-- the first check that fails, for exchange e
abbrev pub read_fault : Addresses → World → ℕ → List ℕ → Option DoneFault
read_fault a w e octets = option_map_or
    (λ x. answer_fault a (is_wide w x.station x.tid) x.station (station w x.station).bss x.tid octets)
    (exchange w e) (Some NoExchange)
