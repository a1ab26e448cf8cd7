-- Defines when a transmit half represents a world of a run.
use Rattle.std.specs.Prelude.{◌≡◌, ℕ, ◌<◌, ◌*◌, true, List, Option, Some, None, length, map}
use Rattle.wf_frame.specs.declared.classes.Class.{Class}
use Rattle.wf_frame.specs.declared.classes.Cause.TheVariants.{Overlimit, Codel, Retries, Left, Flushed, Ended}
use Rattle.wf_frame.specs.declared.classes.Fate.TheVariants.{Acked, Dropped}
use Rattle.wf_frame.specs.declared.notes.Note.{Note}
use Rattle.wf_frame.specs.declared.notes.ReplyNote.{ReplyNote}
use Rattle.wf_frame.specs.Frames.{FrameValue}
use Rattle.wf_frame.specs.Settings.{IsInRange}
use Rattle.wf_def_lists.specs.Table.{at}
use Rattle.wf_def_world.specs.Group.{bss_count}
use Rattle.wf_def_world.specs.World.{World, Station, Mpdu, Content, Frames, Request, Exchange, opening, is_live, station, tid_of, session, group_of, accepted_count, inside as inside_of}
use Rattle.wf_def_world.specs.Step.{step}
use Rattle.wf_def_world.specs.Run.{Entry, world_after}
use Rattle.wf_def_world.specs.Text.{tally as tally_of}
use Rattle.wf_def_lists.specs.Lengths.{greatest_body}
use Rattle.wf_law_runs.specs.Queues.{HaveLengths, AreAtMost}
use Rattle.wf_queue_flows_refines.specs.Frames.{HasFrames, AreAccepted}
use Rattle.wf_queue_flows_refines.specs.Standing.{FlowsStandFor as FlowsStandFor}
use Rattle.wf_sched_refines.specs.Standing.{SchedulerStandsFor as TurnsStandFor, share_in}
use Rattle.wf_send_parts.specs.Window.{WindowValue, on_air}
use Rattle.wf_send_parts.specs.Windows.{WindowsHaveRoom}
use Rattle.wf_send_parts.specs.Many.{AllStand}
use Rattle.wf_send_parts.specs.declared.exchanges.opened.Open.{Open}
use Rattle.wf_send_parts.specs.declared.exchanges.opened.Sending.{Sending}
use Rattle.wf_send_parts.specs.declared.exchanges.opened.Sending.TheVariants.{Data, Request as Starts_at}
use Rattle.wf_send_parts.specs.declared.stations.members.Member.{Member}
use Rattle.wf_send_parts.specs.Members.{member, upper_in, charged_in, received_in}
use Rattle.wf_send_parts.specs.declared.stations.sleepers.Sleeper.{Sleeper}
use Rattle.wf_send_parts.specs.Sleepers.{sleeper}
use Rattle.wf_send_parts.specs.declared.stations.modes.Mode.{Mode}
use Rattle.wf_send_parts.specs.Modes.{as_mode, mode_of}
use Rattle.wf_send_parts.specs.Tally.{Counts}
use Rattle.wf_send_parts.specs.Group.{GroupValue, group_state, group_at}
use Rattle.wf_send_half_model.specs.Half.{TransmitValue}

-- ---- exchanges

-- the numbers of an aggregate modulo 4096, as they are on the air
abbrev pub numbers_on_air : List Mpdu → List ℕ
numbers_on_air mpdus = map (λ m. on_air m.number) mpdus

-- what an exchange sends, as the half keeps it: numbers and the start are modulo 4096
abbrev pub sending_of : Content → Sending
sending_of (Frames mpdus) = Data (numbers_on_air mpdus)
sending_of (Request start) = Starts_at (on_air start)

-- an open exchange, as the half keeps it: with the marks of the device, without what arrived and without its
-- answer
abbrev pub open_of : Exchange → Open
open_of x = record {
  number = x.number;
  station = x.station;
  tid = x.tid;
  class = x.class;
  charge = x.charge;
  sending = sending_of x.content;
  more = x.more;
  eosp = x.eosp;
  batch = x.batch;
  plain = x.plain;
  unsent = x.unsent;
  given_up = x.given_up;
}

-- ---- stations

-- a member has a turn and two sums for each of the four classes
pub record HasFour (m : Member) : Type 0 where
  pub upper : length m.upper ≡ 4
  pub charged : length m.charged ≡ 4
  pub received : length m.received ≡ 4

-- a member represents a live station: rate, exponent, stated length of aggregates, whether it is offloaded,
-- turns, and sums of airtime
pub record IsMember (m : Member) (x : Station) : Type 0 where
  pub four : HasFour m
  pub rate : m.rate ≡ x.rate
  pub exponent : m.exponent ≡ x.exponent
  pub ampdu : m.ampdu ≡ x.ampdu
  pub offloaded : m.offloaded ≡ x.offloaded
  pub upper : (c : Class) → upper_in m c ≡ (share_in x c).upper
  pub charged : (c : Class) → charged_in m c ≡ (share_in x c).charged
  pub received : (c : Class) → received_in m c ≡ (share_in x c).received

-- what the half keeps of the power save of a station, of its stop and of its BSS
abbrev pub sleeper_of : Station → Sleeper
sleeper_of x = record {
  asleep = x.asleep;
  credit = x.credit;
  stopped = x.stopped;
  bss = x.bss;
  delivery = x.delivery;
  most = x.most;
  service = x.service;
}

-- both values are present and R holds of them, or both are absent
abbrev pub AreBoth : {X Y : Type 0} → (X → Y → Type 0) → Option X → Option Y → Type 0
AreBoth R None None = Unit {0}
AreBoth R (Some x) (Some y) = R x y
AreBoth R _ _ = ⊥

-- the members are the live stations, and the sleepers have the power save of each, whether it is stopped, and
-- its BSS
pub record HasStations (members : List (Option Member)) (sleepers : List Sleeper) (w : World) : Type 0 where
  pub sized : (length members ≡ w.config.stations) × (length sleepers ≡ w.config.stations)
  pub live : (s : ℕ) → AreBoth IsMember (member members s) (at None w.stations s)
  pub rests : (s : ℕ) → is_live w s ≡ true → sleeper sleepers s ≡ sleeper_of (station w s)

-- the modes are those of the TIDs of each live station
pub record HasModes (modes : List Mode) (w : World) : Type 0 where
  pub sized : length modes ≡ 8 * w.config.stations
  pub each : (s t : ℕ) → is_live w s ≡ true → t < 8 → as_mode (mode_of modes s t) ≡ (tid_of w s t).mode

-- the group frames and the beacons of each BSS are those of the world
pub record HasGroups (groups : List GroupValue) (w : World) : Type 0 where
  pub sized : length groups ≡ bss_count w.config.bsses
  pub each : (b : ℕ) → group_state (group_at groups b) ≡ group_of w b

-- ---- frames

-- how many frames were accepted, and how many have each fate
abbrev pub counts_in : World → Counts
counts_in w = record {
  accepted = accepted_count w;
  acked = tally_of w Acked;
  overlimit = tally_of w (Dropped Overlimit);
  codel = tally_of w (Dropped Codel);
  retries = tally_of w (Dropped Retries);
  left = tally_of w (Dropped Left);
  flushed = tally_of w (Dropped Flushed);
  ended = tally_of w (Dropped Ended);
}

-- ---- the parts

-- The eight windows of each live station represent the originator's sides of its TIDs, with an agreement or
-- without, and there is room for a window of the greatest size. The windows of a station that is not live
-- hold no frames.
pub record HasWindows (windows : List WindowValue) (w : World) (bodies : ℕ → FrameValue) : Type 0 where
  pub sized : length windows ≡ 8 * w.config.stations
  pub room : WindowsHaveRoom windows
  pub all : AllStand windows (λ s. is_live w s) (λ s t. session w s t) bodies

-- all parts except the windows represent the world; `bodies` has the frame of each id as it was accepted,
-- with its attempts since
pub record HasOthers (v : TransmitValue) (w : World) (bodies : ℕ → FrameValue) : Type 0 where
  pub config : v.config ≡ w.config
  pub clock : v.clock ≡ w.clock
  pub exchanges : v.exchanges ≡ w.exchanges
  pub opened : v.opened ≡ map open_of w.opened
  pub flows : FlowsStandFor v.flows w
  pub turns : TurnsStandFor v.sched w
  pub stations : HasStations v.members v.sleepers w
  pub modes : HasModes v.modes w
  pub inside : v.inside ≡ inside_of w
  pub tally : v.tally ≡ counts_in w
  pub groups : HasGroups v.groups w
  pub frames : HasFrames v.flows.backlog bodies
  pub notes : AreAccepted w bodies

-- all parts represent the world; in the middle of a call, this may hold alone
pub record Parts (v : TransmitValue) (w : World) (bodies : ℕ → FrameValue) : Type 0 where
  pub windows : HasWindows v.windows w bodies
  pub others : HasOthers v w bodies

-- ---- the world of a run

-- the world after some history in which each frame has 1 to 2304 octets, with settings in their ranges
pub record IsReached (w : World) : Type 0 where
  pub in_range : IsInRange w.config
  pub history : List Entry
  pub lengths : HaveLengths history × AreAtMost greatest_body history
  pub after : w ≡ world_after (opening w.config) history

-- a transmit half represents a world of a run
pub record StandsFor (v : TransmitValue) (w : World) (bodies : ℕ → FrameValue) : Type 0 where
  pub parts : Parts v w bodies
  pub reached : IsReached w

-- a call takes the world w to a half v: v represents the world after the step, and the reply is the step's
pub record Meets (w : World) (bodies : ℕ → FrameValue) (note : Note) (v : TransmitValue)
    (answer : ReplyNote) : Type 0 where
  pub stands : StandsFor v (step w note).world bodies
  pub reply : answer ≡ (step w note).reply
