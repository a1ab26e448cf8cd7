-- Proves that the rounds are a walk, by joining one round to the walk so far.
use Rattle.std.proofs.Common.{arith, rules}
use Rattle.wf_run_histories.proofs.Walks.{on_err, walks_none, walks_then, stops_then}
use Rattle.wf_run_histories.proofs.soak.workers.driver.DriverRun.walk.Goals as goal

pub loop-init : goal.loop-init
loop-init g c = record { fewer = search rules; walks = walks_none _ _ }

pub loop-preserved : goal.loop-preserved
loop-preserved g c = record {
  fewer = omega (arith, c.loop.invariant.fewer, c.in_ok-ended.ensures.fewer);
  walks = walks_then c.loop.invariant.walks (c.in_ok-ended.ensures.again c.if-ended.false);
}

pub returns-then-ended-clause-ended : goal.returns-then-ended-clause-ended
returns-then-ended-clause-ended g c = walks_then c.loop.invariant.walks
    (c.in_ok-ended.ensures.ended c.if-ended.true)

pub returns-in_err-ended-clause-spent : goal.returns-in_err-ended-clause-spent
returns-in_err-ended-clause-spent g c = on_err c.from_residual.result
    (stops_then c.loop.invariant.walks c.in_err-ended.ensures.spent)

pub returns-clause-spent : goal.returns-clause-spent
returns-clause-spent g c = record {
  to = _;
  walks = c.loop.invariant.walks;
  none =
      omega (arith, c.loop.invariant.fewer);
}
