-- Defines the law of offloaded stations: their devices get frames and no requests.
use Rattle.std.specs.Prelude.{◌≡◌, ℕ, true, false, List}
use Rattle.wf_frame.specs.declared.settings.Config.{Config}
use Rattle.wf_def_agreement.specs.Session.{request_due}
use Rattle.wf_def_world.specs.World.{World, Exchange, session, is_offloaded}
use Rattle.wf_def_world.specs.CanSend.{is_request}
use Rattle.wf_def_world.specs.Run.{Entry}
use Rattle.wf_def_world.specs.Stretches.{world_at}
use Rattle.wf_law_runs.specs.Windows.{EachOpen}

-- An open exchange is a batch exactly if its station is offloaded, and no batch is a request.
pub record IsOffloadRight (w : World) (x : Exchange) : Type 0 where
  pub batch : x.batch ≡ is_offloaded w x.station
  pub frames : x.batch ≡ true → is_request x.content ≡ false

-- Each open exchange is right for its station, and no request is due for an offloaded station.
pub record KeepsOffloads (w : World) : Type 0 where
  pub opened : EachOpen (IsOffloadRight w) w.opened
  pub none_due : (s t : ℕ) → is_offloaded w s ≡ true → request_due (session w s t) ≡ false

-- The law: `KeepsOffloads` holds after each entry of a history.
abbrev pub OffloadLaw : Config → List Entry → Type 0
OffloadLaw config history = (m : ℕ) → KeepsOffloads (world_at config history m)
