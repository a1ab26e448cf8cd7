-- Proves that the driver makes the Arrive of a transmission if its word lets it arrive, and otherwise no
-- call.
use Rattle.std.proofs.Common.{true, refl}
use Rattle.wf_run_histories.specs.Drivers.{owing, arrive_if}
use Rattle.wf_run_histories.proofs.Walks.{on_err, walks_one, walks_none, stops_at}
use Rattle.wf_run_histories.proofs.soak.workers.driver.DriverRun.transmit.Goals as goal

pub returns-in_err-ask-clause-spent : goal.returns-in_err-ask-clause-spent
returns-in_err-ask-clause-spent g c = on_err c.from_residual.result
    (λ from. stops_at c.in_err-ask.ensures.spent from)

pub returns-then-arrives-clause-walks : goal.returns-then-arrives-clause-walks
returns-then-arrives-clause-walks g c = λ words calls.
    walks_one c.in_ok-ask.ensures.made (owing c.args.self.now words
    (arrive_if true c.args.exchange c.args.index calls)) refl

pub returns-clause-walks : goal.returns-clause-walks
returns-clause-walks g c = λ words calls. walks_none _ _
