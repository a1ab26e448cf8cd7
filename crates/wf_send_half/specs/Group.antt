-- Defines what the readers of group frames report of a world.
use Rattle.std.specs.Prelude.{ℕ, List, [], ◌∷◌, is_some, if◌then◌else◌, length}
use Rattle.wf_def_world.specs.Group.{GroupState}
use Rattle.wf_send_parts.specs.declared.group.GroupCounts.{GroupCounts}
use Rattle.wf_send_parts.specs.declared.group.Beacon.{Beacon}

-- the address of all stations (IEEE 802.11-2012, 8.2.4.3.4)
abbrev pub everyone : List ℕ
everyone = 255 ∷ 255 ∷ 255 ∷ 255 ∷ 255 ∷ 255 ∷ []

-- the counts of the group frames of a world
abbrev pub counts_in_state : GroupState → GroupCounts
counts_in_state g = record {
  accepted = g.accepted;
  sent = g.sent;
  queued = length g.queued;
  flying = if is_some g.flying then 1 else 0;
  air = g.air;
  numbers = g.number;
}

-- the latest beacon of a world, with this DTIM period
abbrev pub beacon_in_state : ℕ → GroupState → Beacon
beacon_in_state period g = record { count = g.count; period = period; announced = g.announced }
