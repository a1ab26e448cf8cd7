-- Defines the addresses of a path: the access point's, that of each BSS, and for each station number the
-- station's and its association identifier (AID; IEEE 802.11-2012, 8.4.1.8).
use Rattle.std.specs.Prelude.{ℕ, ◌+◌, ◌%◌, ◌==◌, ◌≡◌, ◌<◌, ◌≤◌, nat_le, nat_lt, Bool, ◌&&◌, List, length, map, replicate, slice_index, slice_index_or, slice_set, Option, Some, None, unwrap_or, if◌then◌else◌}
use Rattle.std.specs.List.{range_with_len}
use Rattle.wf_def_world.specs.Group.{bss_count}
use Rattle.wf_octets.specs.Addresses.{base as made_up_base, address_of_station}
use Rattle.wf_path.specs.declared.faults.BadAddress.{BadAddress}
use Rattle.wf_path.specs.declared.faults.BadAddress.TheVariants.{NoStation, BadBss, Group}
use Rattle.wf_path.specs.declared.faults.AidFault.{AidFault}
use Rattle.wf_path.specs.declared.faults.AidFault.TheVariants as aid

-- the number of station numbers, which are 0 to 255
abbrev pub station_numbers : ℕ
station_numbers = 256

-- the number of BSS numbers, which are 0 to 15
abbrev pub bss_numbers : ℕ
bss_numbers = 16

-- the greatest AID (IEEE 802.11-2012, 8.4.1.8)
abbrev pub greatest_aid : ℕ
greatest_aid = 2007

-- the number is an AID
abbrev pub IsAid : ℕ → Type 0
IsAid n = (1 ≤ n) × (n ≤ greatest_aid)

-- the AID of station s before another is set
abbrev pub aid_of_station : ℕ → ℕ
aid_of_station s = s + 1

-- Each address is six octets, in the order of transmission. A BSS whose address was not set has the
-- access point's.
pub record Addresses : Type 0 where
  pub base : List ℕ  -- the access point's
  pub stations : List (List ℕ)  -- by station number
  pub bsses : List (Option (List ℕ))  -- by BSS number
  pub aids : List ℕ  -- by station number

-- the AIDs of a new path
unfoldable pub made_up_aids : List ℕ
made_up_aids = map aid_of_station (range_with_len 0 station_numbers)

-- the placeholder addresses of a new path
unfoldable pub made_up : Addresses
made_up = record {
  base = made_up_base;
  stations = map address_of_station (range_with_len 0 station_numbers);
  bsses = replicate bss_numbers None;
  aids = made_up_aids;
}

-- the address of station s; a number above 255 has its placeholder
abbrev pub address_in : Addresses → ℕ → List ℕ
address_in a s = slice_index_or a.stations s (address_of_station s)

-- the address of the access point in BSS b, in frames to and from its stations
abbrev pub bss_in : Addresses → ℕ → List ℕ
bss_in a b = unwrap_or (slice_index_or a.bsses b None) a.base

-- the AID of station s
abbrev pub aid_in : Addresses → ℕ → ℕ
aid_in a s = slice_index_or a.aids s (aid_of_station s)

-- a list of AIDs by station number: each is an AID
pub record HasAids (aids : List ℕ) : Type 0 where
  pub all : length aids ≡ station_numbers
  pub each : (s : ℕ) → s < station_numbers → IsAid (slice_index_or aids s (aid_of_station s))

-- the addresses with this address of the access point
abbrev pub with_base : Addresses → List ℕ → Addresses
with_base a address = record a { base = address }

-- the addresses with this address of station s
abbrev pub with_address : Addresses → ℕ → List ℕ → Addresses
with_address a s address = record a { stations = slice_set a.stations s address }

-- the addresses with this address of BSS b
abbrev pub with_bss : Addresses → ℕ → List ℕ → Addresses
with_bss a b address = record a { bsses = slice_set a.bsses b (Some address) }

-- the addresses with this AID of station s
abbrev pub with_aid : Addresses → ℕ → ℕ → Addresses
with_aid a s n = record a { aids = slice_set a.aids s n }

-- the address of station s, or none if s is not below the number of stations
abbrev pub address_told : ℕ → Addresses → ℕ → Option (List ℕ)
address_told stations a s = if nat_lt s stations then Some (address_in a s) else None

-- whether an address is a group's, that is, the lowest bit of its first octet is set (IEEE 802.11-2012,
-- 8.2.4.3)
abbrev pub is_group : List ℕ → Bool
is_group address = slice_index address 0 % 2 == 1

-- the fault of an access point's address: Group if it is a group's
abbrev pub group_fault : List ℕ → Option BadAddress
group_fault address = if is_group address then Some Group else None

-- the fault of an address of station s: the first check that fails, by the number of stations
abbrev pub set_fault : ℕ → ℕ → List ℕ → Option BadAddress
set_fault stations s address = if nat_le stations s then Some NoStation else group_fault address

-- the fault of an address of BSS b: the first check that fails, by the setting `bsses`
abbrev pub bss_fault : ℕ → ℕ → List ℕ → Option BadAddress
bss_fault bsses b address = if nat_le (bss_count bsses) b then Some BadBss else group_fault address

-- whether a number is an AID, as a test
abbrev pub is_aid : ℕ → Bool
is_aid n = nat_le 1 n && nat_le n greatest_aid

-- the fault of an AID of station s: the first check that fails, by the number of stations
abbrev pub aid_fault : ℕ → ℕ → ℕ → Option AidFault
aid_fault stations s n = if nat_le stations s then Some aid.NoStation else
    (if is_aid n then None else Some aid.BadAid)
