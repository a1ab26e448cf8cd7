-- Defines the checks of a BlockAckReq or BlockAck, in order.
use Rattle.std.specs.Prelude.{ℕ, ◌%◌, ◌==◌, ◌&&◌, not, Bool, List, length, slice_index, Option, Some, None, if◌then◌else◌}
use Rattle.wf_octets.specs.Fields.{is_set, number_at}
use Rattle.wf_octets.specs.BlockLayout.{narrow_fragment, fragment_of}
use Rattle.wf_octets.specs.declared.block.decoding.BlockFault.{BlockFault}
use Rattle.wf_octets.specs.declared.block.decoding.BlockFault.TheVariants.{Length, Kind, NotCompressed, MultiTid, Fragment, NotWide}

-- the first fault of a frame of `need` octets that begins with `first`; `wide` says whether its bitmap has
-- 256 bits
abbrev pub first_block_fault : ℕ → ℕ → Bool → List ℕ → Option BlockFault
first_block_fault need first wide octets =
    if not (length octets == need) then Some (Length need (length octets))
    else (if not (slice_index octets 0 == first) then Some (Kind (slice_index octets 0))
    else (if not (is_set (slice_index octets 16) 2) then Some NotCompressed
    else (if is_set (slice_index octets 16) 1 then Some MultiTid
    else (if wide && (number_at octets 18 % 16 == narrow_fragment) then Some NotWide
    else (if not (number_at octets 18 % 16 == fragment_of wide)
    then Some (Fragment (number_at octets 18 % 16))
    else None)))))
