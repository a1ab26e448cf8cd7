-- Defines what each part of a transmit half reads of a world, its view. After a change of the world that does
-- not change its view, a part still represents the world. The view of the flow queues is in
-- wf_queue_flows_refines. The view of the scheduler, its rotations and deficits, is in wf_sched_refines.
use Rattle.std.specs.Prelude.{◌≡◌, ℕ, Bool, List, Option, None, option_map, map}
use Rattle.wf_frame.specs.declared.settings.Config.{Config}
use Rattle.wf_frame.specs.declared.classes.Class.{Class}
use Rattle.wf_frame.specs.declared.notes.Note.{Note}
use Rattle.wf_def_air.specs.Airtime.{Rate}
use Rattle.wf_def_agreement.specs.Session.{Session}
use Rattle.wf_def_lists.specs.Table.{at}
use Rattle.wf_def_world.specs.Group.{GroupState}
use Rattle.wf_def_world.specs.World.{World, Mode, Station, Share, is_live, tid_of, session, inside, accepted_count, frame}
use Rattle.wf_send_parts.specs.Tally.{Counts}
use Rattle.wf_send_parts.specs.declared.exchanges.opened.Open.{Open}
use Rattle.wf_send_parts.specs.declared.stations.sleepers.Sleeper.{Sleeper}
use Rattle.wf_queue_flows_refines.specs.Standing.{flows_part}
use Rattle.wf_sched_refines.specs.Standing.{share_in}
use Rattle.wf_send_half_model.specs.Standing.{open_of, sleeper_of, counts_in}

-- the windows and the modes read which stations are live, and of each TID the originator's side and the mode
pub record Agreements : Type 0 where
  pub config : Config
  pub live : ℕ → Bool
  pub sessions : ℕ → ℕ → Session  -- by station and TID
  pub modes : ℕ → ℕ → Mode

abbrev pub agreements : World → Agreements
agreements w = record {
  config = w.config;
  live = λ s. is_live w s;
  sessions = λ s t. session w s t;
  modes = λ s t. (tid_of w s t).mode;
}

-- what members and sleepers keep of a live station
pub record StationView : Type 0 where
  pub rate : Rate
  pub exponent : ℕ
  pub ampdu : Option ℕ
  pub offloaded : Bool
  pub sleeper : Sleeper
  pub upper : Class → Bool
  pub charged : Class → ℕ
  pub received : Class → ℕ

abbrev pub view_of : Station → StationView
view_of x = record {
  rate = x.rate;
  exponent = x.exponent;
  ampdu = x.ampdu;
  offloaded = x.offloaded;
  sleeper = sleeper_of x;
  upper = λ c. (share_in x c).upper;
  charged = λ c. (share_in x c).charged;
  received = λ c. (share_in x c).received;
}

-- the clock, the live stations, the open exchanges without their receivers' state, and the group frames and
-- the beacons by BSS
pub record Roster : Type 0 where
  pub config : Config
  pub clock : ℕ
  pub exchanges : ℕ
  pub opened : List Open
  pub stations : ℕ → Option StationView
  pub groups : List GroupState

abbrev pub roster : World → Roster
roster w = record {
  config = w.config;
  clock = w.clock;
  exchanges = w.exchanges;
  opened = map open_of w.opened;
  stations = λ s. option_map view_of (at None w.stations s);
  groups = w.groups;
}

-- the frames that were accepted, by id
pub record Ledger : Type 0 where
  pub inside : ℕ
  pub counts : Counts
  pub accepted : ℕ
  pub notes : ℕ → Note

abbrev pub ledger : World → Ledger
ledger w = record {
  inside = inside w;
  counts = counts_in w;
  accepted = accepted_count w;
  notes = λ id. (frame w id).note;
}

-- u equals w in everything that a half reads, except the scheduler's turns
pub record HasSameViews (w u : World) : Type 0 where
  pub part : flows_part u ≡ flows_part w
  pub agreements : agreements u ≡ agreements w
  pub roster : roster u ≡ roster w
  pub ledger : ledger u ≡ ledger w

-- a change of a station that does not affect what members and sleepers keep of it
abbrev pub KeepsView : (Station → Station) → Type 0
KeepsView f = (x : Station) → view_of (f x) ≡ view_of x

-- a change of a share that does not affect the turn and both sums
pub record KeepsSums (f : Share → Share) : Type 0 where
  pub upper : (y : Share) → (f y).upper ≡ y.upper
  pub charged : (y : Share) → (f y).charged ≡ y.charged
  pub received : (y : Share) → (f y).received ≡ y.received
