-- Proves `flow_send_law` (lib.rt) from the lemmas.
use Rattle.wf_law_runs.proofs.Orders.Sends.{flow_send_law}
use Rattle.wf_law_runs.proofs.flow_send_law.Goals as goal

pub returns : goal.returns
returns c = flow_send_law
