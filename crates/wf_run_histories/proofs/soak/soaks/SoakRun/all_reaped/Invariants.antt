-- The reaps that remain lead to the same soak as all reaps from the start.
use Rattle.std.proofs.Common.{◌≡◌, ◌-◌, ◌≤◌}
use Rattle.wf_run_histories.specs.Soak.{IsLater, after_reaps}
use Rattle.wf_run_histories.proofs.soak.soaks.SoakRun.all_reaped.Given as goal

abbrev pub invariant-loop : goal.invariant-loop
invariant-loop l =
    (l.counter ≤ l.fn.self.left) × (l.end ≡ l.fn.self.left) × IsLater l.fn.self l.self
    × (after_reaps (l.fn.self.left - l.counter) l.self ≡ after_reaps l.fn.self.left l.fn.self)
