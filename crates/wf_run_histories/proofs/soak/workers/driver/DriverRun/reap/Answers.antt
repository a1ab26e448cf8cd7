-- Proves that the driver reaps until no finished frame is left, by joining one step to the walk so far.
use Rattle.std.proofs.Common.{[], refl, arith}
use Rattle.wf_run_histories.specs.Drivers.{at}
use Rattle.wf_run_histories.specs.Workloads.Phase.{Owes}
use Rattle.wf_run_histories.proofs.Walks.{on_err, walks_one, walks_to, walks_then, stops_at, stops_then}
use Rattle.wf_run_histories.proofs.soak.workers.driver.DriverRun.reap.Goals as goal

pub returns-in_err-ask-clause-spent : goal.returns-in_err-ask-clause-spent
returns-in_err-ask-clause-spent g c = on_err c.from_residual.result
    (stops_then c.loop.invariant.walks (stops_at c.in_err-ask.ensures.spent (at c.args.self.now (Owes []))))

pub returns-then-is_nothing-clause-walks : goal.returns-then-is_nothing-clause-walks
returns-then-is_nothing-clause-walks g c =
    walks_then c.loop.invariant.walks
    (walks_to (walks_one c.in_ok-ask.ensures.made (at c.args.self.now (Owes [])) refl)
    (rw (← c.answer.ensures, ← c.is_nothing.ensures, c.if-is_nothing.true) refl))

pub loop-preserved : goal.loop-preserved
loop-preserved g c = record {
  fewer = omega (arith, c.loop.invariant.fewer, c.in_ok-ask.ensures.made.fewer);
  walks = walks_then c.loop.invariant.walks
      (walks_to (walks_one c.in_ok-ask.ensures.made (at c.args.self.now (Owes [])) refl)
      (rw (← c.answer.ensures, ← c.is_nothing.ensures, c.if-is_nothing.false) refl));
}
