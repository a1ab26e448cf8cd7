-- Proves the law of the limits on airtime in flight, from the invariant of the books.
use Rattle.std.proofs.Common.{subst, arith, List, take}
use Rattle.wf_frame.specs.declared.settings.Config.{Config}
use Rattle.wf_frame.specs.Settings.{IsInRange}
use Rattle.wf_def_world.specs.World.{World, opening}
use Rattle.wf_def_world.specs.Run.{Entry}
use Rattle.wf_def_world.specs.Stretches.{world_at}
use Rattle.wf_law_runs.specs.InFlight.{KeepsInFlight, InFlightLaw}
use Rattle.wf_law_runs.proofs.Deficits.Books.{books}
use Rattle.wf_law_runs.proofs.Deficits.Configs.{config_run}
use Rattle.wf_law_runs.proofs.Deficits.Kept.{IsKept}
use Rattle.wf_law_runs.proofs.Deficits.KeptStep.{kept}
use Rattle.wf_law_runs.proofs.Deficits.Openings.{owed-core, owed_all-core}

-- The limits hold in a world whose books are kept, by its own settings.
keeps_in_flight : (w : World) → IsKept (books w) → KeepsInFlight w.config w
keeps_in_flight w k = record {
  total = λ limited. omega (arith, k.within.total limited, owed_all-core w.opened);
  station = λ limited s c. omega (arith, k.within.station limited s c, owed-core s c w.opened);
}

pub in_flight_law : (config : Config) (h : List Entry) → IsInRange config → InFlightLaw config h
in_flight_law config h range m =
    let w : World = world_at config h m in
    subst (λ (c : Config). KeepsInFlight c w) (config_run (take m h) (opening config))
    (keeps_in_flight w (kept config (take m h) range))
