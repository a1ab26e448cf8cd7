-- Proves `flow_release_law` (lib.rt) from the lemmas.
use Rattle.wf_law_runs.proofs.Orders.Law.{flow_release_law}
use Rattle.wf_law_runs.proofs.flow_release_law.Goals as goal

pub returns : goal.returns
returns c = flow_release_law
