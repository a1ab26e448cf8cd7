-- Defines the checks before a transmission is written, in their order.
use Rattle.std.specs.Prelude.{ℕ, nat_lt, Bool, true, List, length, Option, Some, None, if◌then◌else◌}
use Rattle.std.specs.Option.{option_map_or}
use Rattle.wf_frame.specs.Frames.{FrameValue}
use Rattle.wf_def_world.specs.World.{World, exchange}
use Rattle.wf_path.specs.Addresses.{Addresses}
use Rattle.wf_path.specs.declared.faults.PathFault.{PathFault}
use Rattle.wf_path.specs.declared.faults.PathFault.TheVariants.{NoExchange, BadIndex, NoBody, SmallBuffer}
use Rattle.wf_path.specs.Transmissions.{transmission_octets, transmission_id, bare_sent}

-- the transmission exists, and the buffer has room for it
abbrev pub room_fault : ℕ → Option (List ℕ) → Option PathFault
room_fault room None = Some BadIndex
room_fault room (Some octets) = if nat_lt room (length octets) then Some (SmallBuffer (length octets))
    else None

-- the first check that fails, for a transmission of exchange e and a buffer with this room, in octets, if
-- zeros may represent the body of a bare frame
abbrev pub write_fault : Addresses → World → (ℕ → FrameValue) → ℕ → ℕ → ℕ → Option PathFault
write_fault a w bodies e index room = option_map_or
    (λ x. room_fault room (transmission_octets a w bodies x index)) (exchange w e) (Some NoExchange)

-- a transmission whose frame is bare is not written; other transmissions have this fault, if any
abbrev pub body_fault : Option Bool → Option PathFault → Option PathFault
body_fault (Some true) other = Some NoBody
body_fault bare other = other

-- the first check that fails, for a transmission of exchange e and a buffer with this room, in octets
abbrev pub mpdu_fault : Addresses → World → (ℕ → FrameValue) → ℕ → ℕ → ℕ → Option PathFault
mpdu_fault a w bodies e index room =
    body_fault (bare_sent w bodies e index) (write_fault a w bodies e index room)

-- the transmission exists and carries data
abbrev pub no_data_fault : Option ℕ → Option PathFault
no_data_fault None = Some BadIndex
no_data_fault (Some id) = None

-- the first check that fails, for the header of a transmission of exchange e
abbrev pub write_header_fault : World → ℕ → ℕ → Option PathFault
write_header_fault w e index = option_map_or
    (λ x. no_data_fault (transmission_id x index)) (exchange w e) (Some NoExchange)
