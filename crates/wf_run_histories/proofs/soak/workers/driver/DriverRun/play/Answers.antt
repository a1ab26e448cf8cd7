-- Proves that the driver plays an exchange, by joining the walks of its transmissions and of its end.
use Rattle.std.proofs.Common.{refl, sym, ap}
use Rattle.wf_run_histories.specs.declared.soak.workers.driver.DriverRun.{DriverRun}
use Rattle.wf_run_histories.specs.Drivers.{at}
use Rattle.wf_run_histories.specs.Workloads.{last_calls, words_behind}
use Rattle.wf_run_histories.specs.Workloads.Phase.{Owes}
use Rattle.wf_run_histories.proofs.Walks.{on_err, walks_none, walks_to, walks_then, walks_from, stops_then, stops_from}
use Rattle.wf_run_histories.proofs.soak.workers.driver.DriverRun.play.Goals as goal

pub returns-in-None-clause-again : goal.returns-in-None-clause-again
returns-in-None-clause-again g c = λ off phase. walks_to (walks_none _ _) (rw (c.in-None.is, off) refl)

pub returns-in-None-clause-ended : goal.returns-in-None-clause-ended
returns-in-None-clause-ended g c = λ on phase. walks_to (walks_none _ _) (rw (c.in-None.is, on) refl)

pub returns-in_err-some-in-Some-clause-spent : goal.returns-in_err-some-in-Some-clause-spent
returns-in_err-some-in-Some-clause-spent g c =
    on_err c.from_residual.result (λ phase. stops_from (rw (c.in-Some.is) refl)
    (c.in_err-some-in-Some.ensures.spent (words_behind c.in-Some.count c.args.self.now.words)))

pub returns-in_err-end-in-Some-clause-spent : goal.returns-in_err-end-in-Some-clause-spent
returns-in_err-end-in-Some-clause-spent g c =
    on_err c.from_residual-in_err-end-in-Some.result (λ phase. stops_from (rw (c.in-Some.is) refl)
    (stops_then (c.in_ok-some-in-Some.ensures.walks _)
    (stops_from (ap (λ (r : DriverRun). at r (Owes (last_calls c.in-Some.exchange c.in_ok-some-in-Some.some)))
    (sym c.in_ok-some-in-Some.ensures.words)) c.in_err-end-in-Some.ensures.spent)))

pub returns-in_ok-end-in-Some-clause-again : goal.returns-in_ok-end-in-Some-clause-again
returns-in_ok-end-in-Some-clause-again g c = λ off phase. walks_from (rw (c.in-Some.is) refl)
    (walks_then (c.in_ok-some-in-Some.ensures.walks _)
    (walks_from (ap (λ (r : DriverRun). at r (Owes (last_calls c.in-Some.exchange c.in_ok-some-in-Some.some)))
    (sym c.in_ok-some-in-Some.ensures.words)) c.in_ok-end-in-Some.ensures.walks))
