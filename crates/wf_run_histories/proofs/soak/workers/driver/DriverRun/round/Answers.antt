-- Proves that a round is a walk, by joining those of its tick, its pull, its exchange and its reaps.
use Rattle.wf_run_histories.specs.Workloads.Phase.{Pulls}
use Rattle.wf_run_histories.proofs.Walks.{on_err, walks_then, stops_then}
use Rattle.wf_run_histories.proofs.soak.workers.driver.DriverRun.round.Goals as goal

pub returns-in_err-over-clause-spent : goal.returns-in_err-over-clause-spent
returns-in_err-over-clause-spent g c = on_err c.from_residual-in_err-over.result
    (stops_then c.in_ok-clock.ensures.walks c.in_err-over.ensures.spent)

pub returns-in_err-ended-clause-spent : goal.returns-in_err-ended-clause-spent
returns-in_err-ended-clause-spent g c = on_err c.from_residual-in_err-ended.result
    (stops_then (walks_then c.in_ok-clock.ensures.walks c.in_ok-over.ensures.walks)
    (c.in_err-ended.ensures.spent (Pulls c.in_ok-clock.clock)))

pub returns-then-ended-clause-ended : goal.returns-then-ended-clause-ended
returns-then-ended-clause-ended g c = λ on.
    walks_then (walks_then c.in_ok-clock.ensures.walks c.in_ok-over.ensures.walks)
    (c.in_ok-ended.ensures.ended c.if-ended.true (Pulls c.in_ok-clock.clock))

pub returns-in_err-reap-clause-spent : goal.returns-in_err-reap-clause-spent
returns-in_err-reap-clause-spent g c = on_err c.from_residual-in_err-reap.result
    (stops_then (walks_then (walks_then c.in_ok-clock.ensures.walks c.in_ok-over.ensures.walks)
    (c.in_ok-ended.ensures.again c.if-ended.false (Pulls c.in_ok-clock.clock)))
    c.in_err-reap.ensures.spent)

pub returns-clause-again : goal.returns-clause-again
returns-clause-again g c = λ off.
    walks_then (walks_then (walks_then c.in_ok-clock.ensures.walks c.in_ok-over.ensures.walks)
    (c.in_ok-ended.ensures.again c.if-ended.false (Pulls c.in_ok-clock.clock))) c.in_ok-reap.ensures.walks
