-- The joins that remain lead to the same soak as all joins from the start.
use Rattle.std.proofs.Common.{◌≡◌, ◌-◌, ◌≤◌}
use Rattle.wf_run_histories.specs.Soak.{IsLater, stations_join}
use Rattle.wf_run_histories.proofs.soak.soaks.SoakRun.stations_join.Given as goal

abbrev pub invariant-loop-station : goal.invariant-loop-station
invariant-loop-station l =
    (l.station ≤ 16) × IsLater l.fn.self l.self ×
    (stations_join l.station (16 - l.station) l.self ≡ stations_join 0 16 l.fn.self)
