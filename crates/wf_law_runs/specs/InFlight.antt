-- Defines the law of the limits on airtime in flight: how much computed airtime the open exchanges have, by
-- the settings `aql_total` and `aql`.
use Rattle.std.specs.Prelude.{ℕ, ◌+◌, ◌<◌, ◌≤◌, List}
use Rattle.wf_frame.specs.declared.settings.Config.{Config}
use Rattle.wf_frame.specs.declared.classes.Class.{Class}
use Rattle.wf_def_world.specs.World.{World, owed, owed_by_all}
use Rattle.wf_def_world.specs.Run.{Entry}
use Rattle.wf_def_world.specs.Stretches.{world_at}
use Rattle.wf_law_runs.specs.Deficits.{longest_of_all}
use Rattle.wf_def_world.specs.Exchanges.{longest_computed}

-- The airtime in flight in a world.
pub record KeepsInFlight (config : Config) (w : World) : Type 0 where
  -- With a limit on the airtime in flight of all exchanges: they exceed it by less than one exchange.
  pub total : 1 ≤ config.aql_total → owed_by_all w.opened < config.aql_total + longest_of_all config
  -- With a limit for each station and class: its exchanges in the class exceed it by less than one exchange.
  pub station : 1 ≤ config.aql → (s : ℕ) (c : Class) →
      owed s c w.opened < config.aql + longest_computed config c

-- The law: `KeepsInFlight` holds after each entry of a history.
abbrev pub InFlightLaw : Config → List Entry → Type 0
InFlightLaw config history = (m : ℕ) → KeepsInFlight config (world_at config history m)
