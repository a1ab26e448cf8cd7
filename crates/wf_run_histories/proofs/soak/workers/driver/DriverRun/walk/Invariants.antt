-- The rounds so far are a walk from the start, and each took at least one of the calls that were left.
use Rattle.std.proofs.Common.{◌+◌, ◌≤◌}
use Rattle.wf_run_histories.specs.Desks.{Walks}
use Rattle.wf_run_histories.specs.Drivers.{at}
use Rattle.wf_run_histories.specs.Workloads.Phase.{Ticks}
use Rattle.wf_run_histories.proofs.soak.workers.driver.DriverRun.walk.Given as goal

abbrev pub invariant-loop : goal.invariant-loop
invariant-loop g l = record {
  fewer : g.D.Desk.left l.desk + l.counter ≤ g.D.Desk.left l.fn.desk;
  walks : Walks g.D.Desk.has g.D.Desk.left l.fn.desk l.desk (at l.fn.self Ticks) (at l.self Ticks);
}
