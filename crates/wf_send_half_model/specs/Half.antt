-- Defines what a transmit half of an access point keeps, as its callers see it; what stations received is no
-- part of it. Times, deficits and airtime are in microseconds.
use Rattle.std.specs.Prelude.{ℕ, ◌-◌, ◌*◌, ◌==◌, nat_lt, nat_le, pos, int_le, Bool, false, not, ◌&&◌, ◌||◌, List, [], ◌∷◌, ◌++◌, Option, Some, None, is_some, option_map, if◌then◌else◌, map, find, replicate}
use Rattle.std.specs.List.{list_any}
use Rattle.wf_frame.specs.declared.settings.Config.{Config}
use Rattle.wf_frame.specs.declared.classes.Class.{Class}
use Rattle.wf_frame.specs.Classes.{lower_tid, upper_tid, tid_number}
use Rattle.wf_frame.specs.Frames.{FrameValue}
use Rattle.wf_def_lists.specs.Table.{upto}
use Rattle.wf_def_world.specs.Group.{bss_count}
use Rattle.wf_def_world.specs.World.{has_agreement, holds_back}
use Rattle.wf_def_world.specs.Exchanges.{longest_computed}
use Rattle.wf_queue_flows.specs.Flows.{FlowsValue, empty_flows, frames_of_tid}
use Rattle.wf_sched.specs.ClassRotas.{SchedValue, deficit, new_scheduler as empty_sched}
use Rattle.wf_send_parts.specs.declared.window.place.Place.{Place}
use Rattle.wf_send_parts.specs.declared.window.place.Place.TheVariants.{Waiting as Waits, Flying as Flies}
use Rattle.wf_send_parts.specs.Window.{WindowValue, waits, can_take}
use Rattle.wf_send_parts.specs.Windows.{new_window, window_of}
use Rattle.wf_send_parts.specs.declared.exchanges.opened.Open.{Open}
use Rattle.wf_send_parts.specs.Exchanges.{asks, airtime_of, airtime_to}
use Rattle.wf_send_parts.specs.declared.stations.members.Member.{Member}
use Rattle.wf_send_parts.specs.Members.{member, is_offloaded_in}
use Rattle.wf_send_parts.specs.declared.stations.modes.Mode.{Mode}
use Rattle.wf_send_parts.specs.declared.stations.modes.Mode.TheVariants.{Plain}
use Rattle.wf_send_parts.specs.Modes.{as_mode, mode_of}
use Rattle.wf_send_parts.specs.declared.stations.sleepers.Sleeper.{Sleeper}
use Rattle.wf_send_parts.specs.Sleepers.{awake, sleeper, is_reachable_in}
use Rattle.wf_send_parts.specs.Tally.{Counts, no_counts}
use Rattle.wf_send_parts.specs.Group.{GroupValue, no_group_frames, group_at}

-- what the transmit half keeps
pub record TransmitValue : Type 0 where
  pub config : Config
  pub clock : ℕ
  pub exchanges : ℕ  -- how many were opened so far
  pub inside : ℕ  -- how many frames were accepted and are not reaped
  pub flows : FlowsValue
  pub sched : SchedValue
  pub windows : List WindowValue  -- by tid_number
  pub modes : List Mode  -- by tid_number
  pub members : List (Option Member)  -- by station; None if it is not live
  pub sleepers : List Sleeper  -- by station
  pub opened : List Open  -- in the order of their numbers
  pub tally : Counts
  pub groups : List GroupValue  -- the group frames and the beacons, by BSS

-- a new half: no station is live, it holds no frames, and no window has a number
abbrev pub opening_half : Config → TransmitValue
opening_half c = record {
  config = c;
  clock = 0;
  exchanges = 0;
  inside = 0;
  flows = empty_flows c;
  sched = empty_sched c.stations c.quantum;
  windows = replicate (8 * c.stations) new_window;
  modes = replicate (8 * c.stations) Plain;
  members = replicate c.stations None;
  sleepers = replicate c.stations awake;
  opened = [];
  tally = no_counts;
  groups = replicate (bss_count c.bsses) (no_group_frames c.buffered);
}

-- ---- queries

-- whether some number of a window waits to be sent
abbrev pub some_wait : WindowValue → Bool
some_wait x = list_any waits x.places

-- whether TID t of station s has an agreement
abbrev pub is_agreed_of : TransmitValue → ℕ → ℕ → Bool
is_agreed_of v s t = has_agreement (as_mode (mode_of v.modes s t))

-- whether TID t of station s sends its frames one at a time, each with an Ack
abbrev pub is_plain_of : TransmitValue → ℕ → ℕ → Bool
is_plain_of v s t = not (is_offloaded_in v.members s || is_agreed_of v s t)

-- whether no frame of TID t of station s gets a number
abbrev pub is_held_back_of : TransmitValue → ℕ → ℕ → Bool
is_held_back_of v s t = holds_back (as_mode (mode_of v.modes s t))

-- whether a TID may give a queued frame a number: its window has room, and it is not held back
abbrev pub can_give_of : TransmitValue → ℕ → ℕ → Bool
can_give_of v s t =
    nat_lt 0 (frames_of_tid v.flows (tid_number s t))
    && (can_take (window_of v.windows s t) && not (is_held_back_of v s t))

-- whether a TID can send; a request that is due goes before all frames, and only one is open at a time
abbrev pub can_send_of : TransmitValue → ℕ → ℕ → Bool
can_send_of v s t =
    let x : WindowValue = window_of v.windows s t in
    if is_some x.due then not (asks v.opened s t)
    else some_wait x || can_give_of v s t

-- whether the airtime in flight to a station in a class is below the setting `aql`, which is no limit if it
-- is 0
abbrev pub is_below_aql_of : TransmitValue → ℕ → Class → Bool
is_below_aql_of v s c = (v.config.aql == 0) || nat_lt (airtime_to v.opened s c) v.config.aql

-- whether a station may receive in a class: it is not stopped, it receives there now, and its airtime in
-- flight is below the limit
abbrev pub may_receive_of : TransmitValue → ℕ → Class → Bool
may_receive_of v s c = not (sleeper v.sleepers s).stopped
    && (is_reachable_in (sleeper v.sleepers s) c && is_below_aql_of v s c)

-- whether a station is ready in a class: it is live, one of its two TIDs of the class can send, and it may
-- receive in the class
abbrev pub is_ready_of : TransmitValue → Class → ℕ → Bool
is_ready_of v c s =
    is_some (member v.members s)
    && ((can_send_of v s (lower_tid c) || can_send_of v s (upper_tid c)) && may_receive_of v s c)

-- the airtime in flight that counts against a station's deficit in a class: none without the setting
-- `pending`
abbrev pub pending_air_of : TransmitValue → ℕ → Class → ℕ
pending_air_of v s c = if v.config.pending == 1 then airtime_to v.opened s c else 0

-- the same airtime, as far as it is above that of all exchanges of the class but one, each with the greatest
-- charge that is computed
abbrev pub uncovered_air_of : TransmitValue → ℕ → Class → ℕ
uncovered_air_of v s c = pending_air_of v s c - (v.config.inflight - 1) * longest_computed v.config c

-- whether a credit blocks a poll: with the setting `credits`, only one in whose class the station can send
abbrev pub is_live_credit_of : TransmitValue → ℕ → Option Class → Bool
is_live_credit_of v s None = false
is_live_credit_of v s (Some c) = (v.config.credits == 0)
    || (can_send_of v s (lower_tid c) || can_send_of v s (upper_tid c))

-- whether a station has a credit that blocks a poll
abbrev pub has_live_credit_of : TransmitValue → ℕ → Bool
has_live_credit_of v s = is_live_credit_of v s (sleeper v.sleepers s).credit

-- whether a station is live and has nothing left to use in a class, with the setting `pending`: the scheduler
-- keeps the standing
abbrev pub is_debtor_of : TransmitValue → Class → ℕ → Bool
is_debtor_of v c s = (v.config.pending == 1)
    && (is_some (member v.members s) && int_le (deficit v.sched c s) (pos 0))

-- whether a station belongs on a list of a class: it is ready there, or a debtor
abbrev pub is_to_list_of : TransmitValue → Class → ℕ → Bool
is_to_list_of v c s = is_ready_of v c s || is_debtor_of v c s

-- the group frames and the beacons of BSS b
abbrev pub group_in : TransmitValue → ℕ → GroupValue
group_in v b = group_at v.groups b

-- whether station s is live, sleeps, and is of BSS b
abbrev pub is_asleep_of : TransmitValue → ℕ → ℕ → Bool
is_asleep_of v b s =
    let y : Sleeper = sleeper v.sleepers s in
    is_some (member v.members s) && (y.asleep && (y.bss == b))

-- whether some live station of BSS b sleeps
abbrev pub is_any_asleep_of : TransmitValue → ℕ → Bool
is_any_asleep_of v b = list_any (is_asleep_of v b) (upto v.config.stations)

-- whether the airtime in flight in all classes has reached the setting `aql_total`, which is no limit if it
-- is 0
abbrev pub is_ahead_of : TransmitValue → Bool
is_ahead_of v = nat_lt 0 v.config.aql_total && nat_le v.config.aql_total (airtime_of v.opened)

-- the frame that a place holds, if any
abbrev pub frame_in : Option Place → List FrameValue
frame_in (Some (Waits parcel attempts)) = parcel ∷ []
frame_in (Some (Flies parcel attempts exchange)) = parcel ∷ []
frame_in _ = []

-- the frames of these lists, one list after another
abbrev pub all_of : List (List FrameValue) → List FrameValue
all_of [] = []
all_of (fs ∷ rest) = fs ++ all_of rest

-- the frames that a window holds, in the order of its numbers
abbrev pub frames_in_window : WindowValue → List FrameValue
frames_in_window x = all_of (map frame_in x.places)

-- all frames: those in the flow queues, those in the windows, and those on the finished list
abbrev pub frames_in : TransmitValue → List FrameValue
frames_in v =
    all_of v.flows.backlog.queues ++ all_of (map frames_in_window v.windows) ++ v.flows.backlog.finished

-- the body of the frame with this id, if the half has it
abbrev pub body_of : TransmitValue → ℕ → Option (List ℕ)
body_of v id = option_map (λ f. f.body) (find (λ f. f.id == id) (frames_in v))
