-- Proves that the driver makes the last calls of an exchange, in order, or stops if no call is left.
use Rattle.std.proofs.Common.{true, false, refl}
use Rattle.wf_run_histories.specs.Drivers.{at}
use Rattle.wf_run_histories.specs.Workloads.{last_calls}
use Rattle.wf_run_histories.specs.Workloads.Phase.{Owes}
use Rattle.wf_run_histories.proofs.Walks.{on_err, walks_one, walks_then, walks_from, stops_at, stops_then, stops_from}
use Rattle.wf_run_histories.proofs.soak.workers.driver.DriverRun.end.Goals as goal

pub returns-in_err-ask-clause-spent : goal.returns-in_err-ask-clause-spent
returns-in_err-ask-clause-spent g c = on_err c.from_residual.result (stops_at c.in_err-ask.ensures.spent _)

pub returns-in_err-ask_at_once-clause-spent : goal.returns-in_err-ask_at_once-clause-spent
returns-in_err-ask_at_once-clause-spent g c =
    let first = walks_one c.in_ok-ask.ensures.made
    (at c.args.self.now (Owes (last_calls c.args.exchange true))) refl in
    on_err c.from_residual-in_err-ask_at_once.result
    (stops_from (rw (c.if-some.true) refl) (stops_then first
    (stops_at c.in_err-ask_at_once.ensures.spent _)))

pub returns-then-some-clause-walks : goal.returns-then-some-clause-walks
returns-then-some-clause-walks g c =
    let first = walks_one c.in_ok-ask.ensures.made
    (at c.args.self.now (Owes (last_calls c.args.exchange true))) refl in
    walks_from (rw (c.if-some.true) refl) (walks_then first
    (walks_one c.in_ok-ask_at_once.ensures.made _ refl))

pub returns-in_err-ask_at_once-2-clause-spent : goal.returns-in_err-ask_at_once-2-clause-spent
returns-in_err-ask_at_once-2-clause-spent g c =
    on_err c.from_residual-in_err-ask_at_once-2.result (stops_at c.in_err-ask_at_once-2.ensures.spent _)

pub returns-clause-walks : goal.returns-clause-walks
returns-clause-walks g c =
    walks_from (rw (c.if-some.false) refl) (walks_one c.in_ok-ask_at_once-2.ensures.made
    (at c.args.self.now (Owes (last_calls c.args.exchange false))) refl)
