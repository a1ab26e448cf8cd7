-- Defines group frames: data frames whose first address is the address of a group of stations. They are apart
-- from the frames of stations, and their ids count separately. While a station sleeps, a group frame goes
-- only after a DTIM beacon that announced it (IEEE 802.11-2012, 10.2.1.4). Lengths are in octets, times in
-- microseconds.
use Rattle.std.specs.Prelude.{ℕ, zero, suc, ◌+◌, ◌-◌, ◌%◌, ◌==◌, nat_lt, max, Bool, false, not, ◌&&◌, ◌||◌, List, [], ◌∷◌, ◌++◌, Option, Some, None, is_some, if◌then◌else◌, length}
use Rattle.wf_frame.specs.declared.settings.Config.{Config}
use Rattle.wf_frame.specs.declared.notes.GroupAsk.{GroupAsk}
use Rattle.wf_frame.specs.declared.notes.GroupAsk.TheVariants as group
use Rattle.wf_frame.specs.declared.notes.GroupReply.{GroupReply}
use Rattle.wf_frame.specs.declared.notes.GroupReply.TheVariants as reply
use Rattle.wf_def_air.specs.Airtime.{Ofdm, data_time, check_octets, slow_mbps}

-- ---- the state

-- a group frame: its id, which is the number of group frames that were accepted before it, and the length of
-- its body
pub record GroupFrame : Type 0 where
  pub id : ℕ
  pub len : ℕ

-- the state of the group frames and of the beacons of a BSS
pub record GroupState : Type 0 where
  pub count : ℕ  -- the DTIM count of the latest beacon: how many beacons go before the next DTIM beacon
  pub announced : Bool  -- whether the latest beacon announced group frames
  pub served_below : ℕ  -- queued frames with a lower id may go while a station sleeps
  pub queued : List GroupFrame  -- those that wait, in order
  pub flying : Option GroupFrame  -- the one that is on the air
  pub number : ℕ  -- the sequence number of the next beacon or group frame
  pub accepted : ℕ  -- how many were accepted: the next id
  pub sent : ℕ  -- how many were sent
  pub air : ℕ  -- the airtime of those that were sent

-- the state before the first call
abbrev pub no_group : GroupState
no_group = record {
  count = 0;
  announced = false;
  served_below = 0;
  queued = [];
  flying = None;
  number = 0;
  accepted = 0;
  sent = 0;
  air = 0;
}

-- the number of group frames that were accepted and not yet sent
abbrev pub held_count : GroupState → ℕ
held_count g = length g.queued + (if is_some g.flying then 1 else 0)

-- the number of BSSs, from the setting `bsses`; each has its own state, and its number is below this
abbrev pub bss_count : ℕ → ℕ
bss_count bsses = max 1 bsses

-- ---- airtime

-- the length of the MAC header of a group frame: that of a Data frame without QoS (8.3.2.1)
abbrev pub group_header_octets : ℕ
group_header_octets = 24

-- the airtime of a group frame with a body of `len` octets and its octets of encryption. It is sent with OFDM
-- at the lowest rate, and has no answer.
abbrev pub group_air : ℕ → ℕ → ℕ
group_air overhead len = data_time (Ofdm slow_mbps) (group_header_octets + len + overhead + check_octets)

-- ---- acceptance

-- a frame with this length is accepted, and goes last
abbrev pub after_accept : ℕ → GroupState → GroupState
after_accept len g = record g {
  queued = g.queued ++ record { id = g.accepted; len = len } ∷ [];
  accepted = g.accepted + 1;
}

-- ---- beacons

-- the DTIM period in beacons, from the setting `period`
abbrev pub dtim_period : ℕ → ℕ
dtim_period period = max 1 period

-- the DTIM count of the next beacon, from that of the latest one (8.4.2.7): it falls to 0, and begins again
abbrev pub next_count : ℕ → ℕ → ℕ
next_count period zero = period - 1
next_count period (suc count) = count

-- A beacon goes out. After a DTIM beacon, with count 0, the frames that are queued now may go while a station
-- sleeps; after another beacon none may. A beacon announces that some may. It takes a sequence number: group
-- frames and management frames share one counter (9.3.2.10).
abbrev pub after_beacon : ℕ → GroupState → GroupState
after_beacon period g =
    let count : ℕ = next_count period g.count in
    record g {
      count = count;
      announced = (count == 0) && nat_lt 0 (length g.queued);
      served_below = if count == 0 then g.accepted else 0;
      number = g.number + 1;
    }

-- ---- transmission

-- whether the first of these frames may go now: no station sleeps, or the latest beacon was a DTIM beacon and
-- the frame was queued then
abbrev pub is_first_free : Bool → ℕ → List GroupFrame → Bool
is_first_free sleeps below [] = false
is_first_free sleeps below (x ∷ xs) = not sleeps || nat_lt x.id below

-- whether a queued frame may go now, by whether a station sleeps
abbrev pub may_go : Bool → GroupState → Bool
may_go sleeps g = is_first_free sleeps g.served_below g.queued

-- the first of some frames
abbrev pub first_queued : List GroupFrame → Option GroupFrame
first_queued [] = None
first_queued (x ∷ xs) = Some x

-- the frames after the first
abbrev pub after_first : List GroupFrame → List GroupFrame
after_first [] = []
after_first (x ∷ xs) = xs

-- the first queued frame gets a sequence number, and is on the air
abbrev pub after_group_pull : GroupState → GroupState
after_group_pull g =
    record g { queued = after_first g.queued; flying = first_queued g.queued; number = g.number + 1 }

-- the airtime of a frame, if there is one
abbrev pub group_air_of : ℕ → Option GroupFrame → ℕ
group_air_of overhead None = 0
group_air_of overhead (Some x) = group_air overhead x.len

-- the frame on the air was sent
abbrev pub after_group_done : ℕ → GroupState → GroupState
after_group_done overhead g =
    record g { flying = None; sent = g.sent + 1; air = g.air + group_air_of overhead g.flying }

-- ---- the calls

-- the state after a call that is not refused
abbrev pub group_after : Config → GroupAsk → GroupState → GroupState
group_after config (group.Accept len) g = after_accept len g
group_after config group.Beacon g = after_beacon (dtim_period config.period) g
group_after config group.Pull g = after_group_pull g
group_after config group.Done g = after_group_done config.overhead g

-- the id of a frame; 0 if there is none, which is unreached: a call that needs one is refused
abbrev pub id_of : Option GroupFrame → ℕ
id_of None = 0
id_of (Some x) = x.id

-- The answer to a call that is not refused, by whether a station sleeps. A frame has the More Data bit if a
-- station sleeps and another frame may go next (8.2.4.1.8). On the air its number is modulo 4096.
abbrev pub group_answer : Config → Bool → GroupAsk → GroupState → GroupReply
group_answer config sleeps (group.Accept len) g = reply.Queued g.accepted
group_answer config sleeps group.Beacon g =
    let after : GroupState = after_beacon (dtim_period config.period) g in
    reply.Beacon after.count after.announced
group_answer config sleeps group.Pull g =
    let first : Option GroupFrame = first_queued g.queued in
    reply.Send (id_of first) (g.number % 4096) (group_air_of config.overhead first)
    (sleeps && may_go sleeps (after_group_pull g))
group_answer config sleeps group.Done g = reply.Done (id_of g.flying)
