-- Proves `flow_queue_law` (lib.rt) from the lemmas.
use Rattle.wf_law_runs.proofs.Orders.Law.{flow_queue_law}
use Rattle.wf_law_runs.proofs.flow_queue_law.Goals as goal

pub returns : goal.returns
returns c = flow_queue_law
