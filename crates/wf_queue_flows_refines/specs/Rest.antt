-- Defines the part of a world that the flow queues do not represent.
use Rattle.std.specs.Prelude.{ℕ, List, [], Option, None, option_map, unwrap_or}
use Rattle.wf_frame.specs.declared.settings.Config.{Config}
use Rattle.wf_def_lists.specs.Table.{at}
use Rattle.wf_def_rotation.specs.Rotation.{Rotation}
use Rattle.wf_def_agreement.specs.Session.{Session}
use Rattle.wf_def_agreement.specs.Receiver.{Receiver}
use Rattle.wf_def_world.specs.Group.{GroupState}
use Rattle.wf_def_world.specs.World.{World, Mode, Bounds, Station, Exchange, no_station, no_tid}

-- a station without its TIDs
abbrev pub bare : Station → Station
bare x = record x { tids = [] }

abbrev pub session_in : Option Station → ℕ → Session
session_in o t = (at no_tid (unwrap_or o no_station).tids t).session

abbrev pub receiver_in : Option Station → ℕ → Receiver
receiver_in o t = (at no_tid (unwrap_or o no_station).tids t).receiver

abbrev pub mode_in : Option Station → ℕ → Mode
mode_in o t = (at no_tid (unwrap_or o no_station).tids t).mode

pub record Rest : Type 0 where
  pub config : Config
  pub clock : ℕ
  pub exchanges : ℕ
  pub rotations : List Rotation  -- of stations, by class
  pub opened : List Exchange
  pub stations : ℕ → Option Station  -- each live station, without its TIDs
  pub sessions : ℕ → ℕ → Session  -- by station and TID
  pub receivers : ℕ → ℕ → Receiver
  pub modes : ℕ → ℕ → Mode
  pub bounds : Bounds  -- those of the latest pull
  pub groups : List GroupState

abbrev pub rest_of_world : World → Rest
rest_of_world w = record {
  config = w.config;
  clock = w.clock;
  exchanges = w.exchanges;
  rotations = w.rotations;
  opened = w.opened;
  stations = λ s. option_map bare (at None w.stations s);
  sessions = λ s. session_in (at None w.stations s);
  receivers = λ s. receiver_in (at None w.stations s);
  modes = λ s. mode_in (at None w.stations s);
  bounds = w.bounds;
  groups = w.groups;
}
