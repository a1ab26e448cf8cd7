-- Proves that which worlds a half represents depends only on their views. The relation is split into one for
-- each view (`Pieces`), and put together again.
use Rattle.std.proofs.Common.{◌≡◌, refl, ap, sym, ◌∙◌, subst, ℕ, ◌*◌, ◌<◌, true, List, length, Option, Some, None, is_some, IfSome, unwrap_or, option_map}
use Rattle.wf_frame.specs.declared.classes.Class.{Class}
use Rattle.wf_frame.specs.declared.settings.Config.{Config}
use Rattle.wf_frame.specs.Frames.{FrameValue}
use Rattle.wf_def_lists.specs.Table.{at}
use Rattle.wf_def_world.specs.Group.{GroupState, bss_count, no_group}
use Rattle.wf_def_world.specs.World.{World, Station, no_station}
use Rattle.wf_send_parts.specs.Tally.{Counts}
use Rattle.wf_send_parts.specs.Group.{GroupValue, group_state, group_at}
use Rattle.wf_send_parts.specs.Window.{WindowValue}
use Rattle.wf_send_parts.specs.Windows.{WindowsHaveRoom}
use Rattle.wf_send_parts.specs.Many.{AllStand}
use Rattle.wf_send_parts.specs.declared.stations.members.Member.{Member}
use Rattle.wf_send_parts.specs.Members.{member, upper_in, charged_in, received_in}
use Rattle.wf_send_parts.specs.declared.stations.modes.Mode.{Mode}
use Rattle.wf_send_parts.specs.Modes.{as_mode, mode_of}
use Rattle.wf_send_parts.specs.declared.stations.sleepers.Sleeper.{Sleeper}
use Rattle.wf_send_parts.specs.Sleepers.{sleeper}
use Rattle.wf_queue_flows_refines.specs.Standing.{FlowsStandFor as FlowsStandFor}
use Rattle.wf_queue_flows_refines.specs.Frames.{HasFrames, IsAccepted}
use Rattle.wf_queue_flows_refines.proofs.Leaves.{stands_same}
use Rattle.wf_sched.specs.ClassRotas.{SchedValue}
use Rattle.wf_sched_refines.specs.Standing.{SchedulerStandsFor as TurnsStandFor, LeavesRotas}
use Rattle.wf_send_half_model.specs.Half.{TransmitValue}
use Rattle.wf_send_half_model.specs.Standing.{HasFour, IsMember, sleeper_of, AreBoth, HasWindows, Parts}
use Rattle.wf_send_half_model.specs.Views.{Agreements, agreements, StationView, view_of, Roster, roster, Ledger, ledger, HasSameViews}

-- ---- windows

pub record WindowsStand (windows : List WindowValue) (bodies : ℕ → FrameValue) (a : Agreements) : Type 0 where
  pub sized : length windows ≡ 8 * a.config.stations
  pub room : WindowsHaveRoom windows
  pub all : AllStand windows a.live a.sessions bodies

pub to_agreements : (windows : List WindowValue) (w : World) (bodies : ℕ → FrameValue) →
    HasWindows windows w bodies → WindowsStand windows bodies (agreements w)
to_agreements windows w bodies h = record { sized = h.sized; room = h.room; all = h.all }

pub of_agreements : (windows : List WindowValue) (w : World) (bodies : ℕ → FrameValue) →
    WindowsStand windows bodies (agreements w) → HasWindows windows w bodies
of_agreements windows w bodies h = record { sized = h.sized; room = h.room; all = h.all }

pub windows_same : (windows : List WindowValue) (w u : World) (bodies : ℕ → FrameValue) →
    agreements u ≡ agreements w → HasWindows windows w bodies → HasWindows windows u bodies
windows_same windows w u bodies e h = of_agreements windows u bodies
    (subst (WindowsStand windows bodies) (sym e) (to_agreements windows w bodies h))

-- ---- modes

-- the modes represent those of the TIDs of live stations
pub record ModesStand (modes : List Mode) (a : Agreements) : Type 0 where
  pub sized : length modes ≡ 8 * a.config.stations
  pub each : (s t : ℕ) → a.live s ≡ true → t < 8 → as_mode (mode_of modes s t) ≡ a.modes s t

-- ---- the roster

-- a member represents a station's view
pub record IsOfView (m : Member) (x : StationView) : Type 0 where
  pub four : HasFour m
  pub rate : m.rate ≡ x.rate
  pub exponent : m.exponent ≡ x.exponent
  pub ampdu : m.ampdu ≡ x.ampdu
  pub offloaded : m.offloaded ≡ x.offloaded
  pub upper : (c : Class) → upper_in m c ≡ x.upper c
  pub charged : (c : Class) → charged_in m c ≡ x.charged c
  pub received : (c : Class) → received_in m c ≡ x.received c

-- a sleeper represents a station's view
abbrev pub IsSleeperOf : Sleeper → StationView → Type 0
IsSleeperOf y x = y ≡ x.sleeper

pub record StationsStand (members : List (Option Member)) (sleepers : List Sleeper) (count : ℕ)
    (stations : ℕ → Option StationView) : Type 0 where
  pub members_sized : length members ≡ count
  pub sleepers_sized : length sleepers ≡ count
  pub live : (s : ℕ) → AreBoth IsOfView (member members s) (stations s)
  pub rests : (s : ℕ) → IfSome (stations s) (IsSleeperOf (sleeper sleepers s))

member_view : (m : Option Member) (o : Option Station) → AreBoth IsMember m o →
    AreBoth IsOfView m (option_map view_of o)
member_view None None h = h
member_view None (Some x) h = h
member_view (Some m) None h = h
member_view (Some m) (Some x) h = record {
  four = h.four;
  rate = h.rate;
  exponent = h.exponent;
  ampdu = h.ampdu;
  offloaded = h.offloaded;
  upper = h.upper;
  charged = h.charged;
  received = h.received;
}

view_member : (m : Option Member) (o : Option Station) → AreBoth IsOfView m (option_map view_of o) →
    AreBoth IsMember m o
view_member None None h = h
view_member None (Some x) h = h
view_member (Some m) None h = h
view_member (Some m) (Some x) h = record {
  four = h.four;
  rate = h.rate;
  exponent = h.exponent;
  ampdu = h.ampdu;
  offloaded = h.offloaded;
  upper = h.upper;
  charged = h.charged;
  received = h.received;
}

sleeper_view : (y : Sleeper) (o : Option Station) →
    (is_some o ≡ true → y ≡ sleeper_of (unwrap_or o no_station)) →
    IfSome (option_map view_of o) (IsSleeperOf y)
sleeper_view y None h = tt
sleeper_view y (Some x) h = h refl

view_sleeper : (y : Sleeper) (o : Option Station) → IfSome (option_map view_of o) (IsSleeperOf y) →
    is_some o ≡ true → y ≡ sleeper_of (unwrap_or o no_station)
view_sleeper y None h is = absurd (cc is)
view_sleeper y (Some x) h is = h

-- ---- group frames

pub record GroupsStand (groups : List GroupValue) (config : Config) (states : List GroupState) : Type 0 where
  pub sized : length groups ≡ bss_count config.bsses
  pub each : (b : ℕ) → group_state (group_at groups b) ≡ at no_group states b

-- ---- the ledger

pub record LedgerStands (inside : ℕ) (tally : Counts) (bodies : ℕ → FrameValue) (l : Ledger) : Type 0 where
  pub count : inside ≡ l.inside
  pub fates : tally ≡ l.counts
  pub notes : (id : ℕ) → id < l.accepted → IsAccepted id (l.notes id) (bodies id)

-- ---- all parts

-- the parts of the half, each of which represents its view of the world
pub record Pieces (v : TransmitValue) (w : World) (bodies : ℕ → FrameValue) : Type 0 where
  pub config : v.config ≡ w.config
  pub clock : v.clock ≡ w.clock
  pub exchanges : v.exchanges ≡ w.exchanges
  pub opened : v.opened ≡ (roster w).opened
  pub stations : StationsStand v.members v.sleepers w.config.stations (roster w).stations
  pub windows : WindowsStand v.windows bodies (agreements w)
  pub modes : ModesStand v.modes (agreements w)
  pub flows : FlowsStandFor v.flows w
  pub turns : TurnsStandFor v.sched w
  pub ledger : LedgerStands v.inside v.tally bodies (ledger w)
  pub groups : GroupsStand v.groups w.config (roster w).groups
  pub frames : HasFrames v.flows.backlog bodies

pub to_pieces : (v : TransmitValue) (w : World) (bodies : ℕ → FrameValue) → Parts v w bodies →
    Pieces v w bodies
to_pieces v w bodies h = record {
  config = h.others.config;
  clock = h.others.clock;
  exchanges = h.others.exchanges;
  opened = h.others.opened;
  stations = record {
    members_sized = h.others.stations.sized.0;
    sleepers_sized = h.others.stations.sized.1;
    live = λ s. member_view (member v.members s) (at None w.stations s) (h.others.stations.live s);
    rests = λ s. sleeper_view (sleeper v.sleepers s) (at None w.stations s) (h.others.stations.rests s);
  };
  windows = to_agreements v.windows w bodies h.windows;
  modes = record { sized = h.others.modes.sized; each = h.others.modes.each };
  flows = h.others.flows;
  turns = h.others.turns;
  ledger = record { count = h.others.inside; fates = h.others.tally; notes = h.others.notes };
  groups = record { sized = h.others.groups.sized; each = h.others.groups.each };
  frames = h.others.frames;
}

pub of_pieces : (v : TransmitValue) (w : World) (bodies : ℕ → FrameValue) → Pieces v w bodies →
    Parts v w bodies
of_pieces v w bodies h = record {
  windows = of_agreements v.windows w bodies h.windows;
  others = record {
    config = h.config;
    clock = h.clock;
    exchanges = h.exchanges;
    opened = h.opened;
    flows = h.flows;
    turns = h.turns;
    stations = record {
      sized = (h.stations.members_sized, h.stations.sleepers_sized);
      live = λ s. view_member (member v.members s) (at None w.stations s) (h.stations.live s);
      rests = λ s. view_sleeper (sleeper v.sleepers s) (at None w.stations s) (h.stations.rests s);
    };
    modes = record { sized = h.modes.sized; each = h.modes.each };
    inside = h.ledger.count;
    tally = h.ledger.fates;
    groups = record { sized = h.groups.sized; each = h.groups.each };
    frames = h.frames;
    notes = h.ledger.notes;
  };
}

-- a change of the world that changes no view except the turns, with a scheduler that represents the new turns
pub same_views : (v : TransmitValue) (w u : World) (bodies : ℕ → FrameValue) (turns : SchedValue) →
    HasSameViews w u → TurnsStandFor turns u → Parts v w bodies → Parts (record v { sched = turns }) u bodies
same_views v w u bodies turns same stands h =
    let p : Pieces v w bodies = to_pieces v w bodies h in
    of_pieces (record v { sched = turns }) u bodies (record {
      config = p.config ∙ ap (λ (r : Roster). r.config) (sym same.roster);
      clock = p.clock ∙ ap (λ (r : Roster). r.clock) (sym same.roster);
      exchanges = p.exchanges ∙ ap (λ (r : Roster). r.exchanges) (sym same.roster);
      opened = p.opened ∙ ap (λ (r : Roster). r.opened) (sym same.roster);
      groups = subst (λ (r : Roster). GroupsStand v.groups r.config r.groups) (sym same.roster) p.groups;
      stations = subst (λ (r : Roster). StationsStand v.members v.sleepers r.config.stations r.stations)
          (sym same.roster) p.stations;
      windows = subst (WindowsStand v.windows bodies) (sym same.agreements) p.windows;
      modes = subst (ModesStand v.modes) (sym same.agreements) p.modes;
      flows = stands_same v.flows w u same.part p.flows;
      turns = stands;
      ledger = subst (LedgerStands v.inside v.tally bodies) (sym same.ledger) p.ledger;
      frames = p.frames;
    })

pub leaves_parts : (v : TransmitValue) (w u : World) (bodies : ℕ → FrameValue) → HasSameViews w u →
    LeavesRotas w u → Parts v w bodies → Parts v u bodies
leaves_parts v w u bodies same leaves h = same_views v w u bodies v.sched same
    (leaves v.sched h.others.turns) h
