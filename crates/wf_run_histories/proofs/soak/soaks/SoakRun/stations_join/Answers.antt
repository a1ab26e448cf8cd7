-- Proves that the loop makes the joins of the definition, one station per step.
use Rattle.std.proofs.Common.{rules, ◌∙◌, ◌+◌, ◌-◌, ap, sym}
use Rattle.wf_run_histories.specs.Soak.{Soak, stations_join}
use Rattle.wf_run_histories.proofs.SoakLemmas.{joins_on, joins_over}
use Rattle.wf_run_histories.proofs.soak.soaks.SoakRun.stations_join.Goals as goal

pub loop-station-preserved : goal.loop-station-preserved
loop-station-preserved c = (
  search rules,
  (search rules, search rules),
  ap (λ (k : Soak). stations_join (c.loop-station.station + 1) (16 - (c.loop-station.station + 1)) k)
      c.station_joins.ensures.made
      ∙ joins_on c.loop-station.station c.loop-station.self (search rules) ∙ c.loop-station.invariant.2,
)

pub returns-clause-made : goal.returns-clause-made
returns-clause-made c = sym (joins_over c.loop-station.station c.loop-station.self (search rules))
    ∙ c.loop-station.invariant.2
