-- Proves that a tick leads the driver to its pull with the clock that was shown, or that no call was left.
use Rattle.std.proofs.Common.{refl}
use Rattle.wf_run_histories.specs.Drivers.{at}
use Rattle.wf_run_histories.specs.Workloads.Phase.{Ticks}
use Rattle.wf_run_histories.proofs.Walks.{on_err, walks_one, walks_to, stops_at}
use Rattle.wf_run_histories.proofs.soak.workers.driver.DriverRun.tick.Goals as goal

pub returns-in_err-ask-clause-spent : goal.returns-in_err-ask-clause-spent
returns-in_err-ask-clause-spent g c = on_err c.from_residual.result
    (stops_at c.in_err-ask.ensures.spent (at c.args.self.now Ticks))

pub returns-clause-walks : goal.returns-clause-walks
returns-clause-walks g c = walks_to (walks_one c.in_ok-ask.ensures.made (at c.args.self.now Ticks) refl)
    (rw (c.shown.ensures, c.answer.ensures) refl)
