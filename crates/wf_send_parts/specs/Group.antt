-- Defines the group frames and the beacons of a BSS as its access point keeps them. In addition to what the
-- machine knows of a group frame (wf_def_world), it keeps its owner's tag and its destination, and the number
-- and the More Data bit of the one that is on the air. Lengths are in octets, times in microseconds.
use Rattle.std.specs.Prelude.{◌≡◌, ℕ, ◌+◌, ◌*◌, ◌<◌, ◌%◌, ◌==◌, nat_lt, nat_le, Bool, false, not, ◌&&◌, List, [], ◌∷◌, ◌++◌, Option, Some, None, is_some, is_none, option_map, if◌then◌else◌, length, map, drop, slice_get, slice_index_or, slice_set}
use Rattle.wf_frame.specs.declared.settings.Config.{Config}
use Rattle.wf_frame.specs.declared.notes.GroupAsk.{GroupAsk}
use Rattle.wf_frame.specs.declared.notes.GroupAsk.TheVariants as group
use Rattle.wf_frame.specs.declared.notes.GroupReply.{GroupReply}
use Rattle.wf_frame.specs.declared.notes.GroupReply.TheVariants as reply
use Rattle.wf_frame.specs.declared.notes.Refusal.{Refusal}
use Rattle.wf_frame.specs.declared.notes.Refusal.TheVariants.{Buffered, Flying, Idle, Nothing}
use Rattle.wf_def_world.specs.Group.{GroupFrame as WorldFrame, GroupState, dtim_period, next_count, may_go, first_queued, after_group_pull, group_air_of, id_of}
use Rattle.wf_send_parts.specs.declared.group.GroupFrame.{GroupFrame}
use Rattle.wf_send_parts.specs.declared.group.GroupFlight.{GroupFlight}
use Rattle.wf_send_parts.specs.declared.group.GroupCounts.{GroupCounts}
use Rattle.wf_send_parts.specs.declared.group.Beacon.{Beacon}

-- ---- the value

-- the state of group frames and of beacons, with what the machine does not know
pub record GroupValue : Type 0 where
  pub capacity : ℕ  -- how many frames may be queued
  pub count : ℕ  -- the DTIM count of the latest beacon
  pub announced : Bool  -- whether the latest beacon announced group frames
  pub served_below : ℕ  -- queued frames with a lower id may go while a station sleeps
  pub queued : List GroupFrame  -- those that wait, in order
  pub flying : Option GroupFlight  -- the one that is on the air
  pub number : ℕ  -- the sequence number of the next beacon or group frame
  pub accepted : ℕ  -- how many were accepted: the next id
  pub sent : ℕ  -- how many were sent
  pub air : ℕ  -- the airtime of those that were sent

-- the value before the first call, with room for this many queued frames
abbrev pub no_group_frames : ℕ → GroupValue
no_group_frames capacity = record {
  capacity = capacity;
  count = 0;
  announced = false;
  served_below = 0;
  queued = [];
  flying = None;
  number = 0;
  accepted = 0;
  sent = 0;
  air = 0;
}

-- the group frames and the beacons of BSS b, from those of all BSSs
abbrev pub group_at : List GroupValue → ℕ → GroupValue
group_at groups b = slice_index_or groups b (no_group_frames 0)

-- those of all BSSs, with v in BSS b
abbrev pub with_group : List GroupValue → ℕ → GroupValue → List GroupValue
with_group groups b v = slice_set groups b v

-- each BSS has room for n queued frames
pub record GroupsHaveRoom (n : ℕ) (groups : List GroupValue) : Type 0 where
  pub each : (b : ℕ) → b < length groups → (group_at groups b).capacity ≡ n

-- More than the airtime of a group frame, in microseconds: its body has at most 65,535 octets.
abbrev pub group_air_limit : ℕ
group_air_limit = 131072

-- The counts are below n: the frames that were accepted, the sequence numbers that were taken, and the
-- airtime of the frames that were sent if each took `group_air_limit`.
pub record HasGroupBelow (n : ℕ) (v : GroupValue) : Type 0 where
  pub accepted : v.accepted < n
  pub number : v.number < n
  pub sent : group_air_limit * v.sent < n

-- ---- what the machine knows

-- a group frame as the machine knows it
abbrev pub world_frame : GroupFrame → WorldFrame
world_frame x = record { id = x.id; len = x.len }

-- the frame that is on the air, as the machine knows it
abbrev pub world_flight : GroupFlight → WorldFrame
world_flight x = world_frame x.frame

-- the state as the machine knows it
abbrev pub group_state : GroupValue → GroupState
group_state v = record {
  count = v.count;
  announced = v.announced;
  served_below = v.served_below;
  queued = map world_frame v.queued;
  flying = option_map world_flight v.flying;
  number = v.number;
  accepted = v.accepted;
  sent = v.sent;
  air = v.air;
}

-- ---- the calls

-- a frame with this length, this tag and this destination is accepted, and goes last
abbrev pub with_group_frame : ℕ → ℕ → List ℕ → GroupValue → GroupValue
with_group_frame len tag to v = record v {
  queued = v.queued ++ record { id = v.accepted; len = len; tag = tag; to = to } ∷ [];
  accepted = v.accepted + 1;
}

-- a beacon goes out, with this DTIM period
abbrev pub with_beacon : ℕ → GroupValue → GroupValue
with_beacon period v =
    let count : ℕ = next_count period v.count in
    record v {
      count = count;
      announced = (count == 0) && nat_lt 0 (length v.queued);
      served_below = if count == 0 then v.accepted else 0;
      number = v.number + 1;
    }

-- whether a queued frame may go now, by whether a station sleeps
abbrev pub may_go_of : Bool → GroupValue → Bool
may_go_of sleeps v = may_go sleeps (group_state v)

-- A frame that has just left the queue, on the air: it has the next number, and the More Data bit if a
-- station sleeps and another frame may go next.
abbrev pub flight_in : Bool → GroupValue → GroupFrame → GroupFlight
flight_in sleeps v x = record { frame = x; number = v.number % 4096; more = sleeps && may_go_of sleeps v }

-- the first queued frame gets a number, and is on the air
abbrev pub with_flight : Bool → GroupValue → GroupValue
with_flight sleeps v =
    let rest : GroupValue = record v { queued = drop 1 v.queued } in
    record rest { flying = option_map (flight_in sleeps rest) (slice_get v.queued 0); number = v.number + 1 }

-- the frame on the air was sent; each frame has this many octets of encryption
abbrev pub with_flight_ended : ℕ → GroupValue → GroupValue
with_flight_ended overhead v = record v {
  flying = None;
  sent = v.sent + 1;
  air = v.air + group_air_of overhead (option_map world_flight v.flying);
}

-- The value after a call that is not refused, by whether a station sleeps. A frame that the call accepts has
-- this tag and this destination.
abbrev pub group_value_after : Config → Bool → GroupAsk → ℕ → List ℕ → GroupValue → GroupValue
group_value_after config sleeps (group.Accept len) tag to v = with_group_frame len tag to v
group_value_after config sleeps group.Beacon tag to v = with_beacon (dtim_period config.period) v
group_value_after config sleeps group.Pull tag to v = with_flight sleeps v
group_value_after config sleeps group.Done tag to v = with_flight_ended config.overhead v

-- ---- refusals and answers

-- why a call is refused, if it is, by whether a station sleeps
abbrev pub group_refusal : Bool → GroupAsk → GroupValue → Option Refusal
group_refusal sleeps (group.Accept len) v =
    if nat_le v.capacity (length v.queued) then Some (Buffered (length v.queued)) else None
group_refusal sleeps group.Beacon v = None
group_refusal sleeps group.Pull v =
    if is_some v.flying then Some Flying else (if not (may_go_of sleeps v) then Some Idle else None)
group_refusal sleeps group.Done v = if is_none v.flying then Some Nothing else None

-- the answer to a pull that is not refused, by whether a station sleeps, with these octets of encryption
abbrev pub flight_reply : ℕ → Bool → GroupValue → GroupReply
flight_reply overhead sleeps v =
    let first : Option WorldFrame = first_queued (map world_frame v.queued) in
    reply.Send (id_of first) (v.number % 4096) (group_air_of overhead first)
    (sleeps && may_go sleeps (after_group_pull (group_state v)))

-- ---- readers

-- the counts of group frames
abbrev pub group_counts : GroupValue → GroupCounts
group_counts v = record {
  accepted = v.accepted;
  sent = v.sent;
  queued = length v.queued;
  flying = if is_some v.flying then 1 else 0;
  air = v.air;
  numbers = v.number;
}

-- the latest beacon, with this DTIM period
abbrev pub latest_beacon : ℕ → GroupValue → Beacon
latest_beacon period v = record { count = v.count; period = period; announced = v.announced }
