-- Proves `queue_deficit_law` (lib.rt) from the lemmas.
use Rattle.wf_law_runs.proofs.Queues.Law.{queue_deficit_law}
use Rattle.wf_law_runs.proofs.queue_deficit_law.Goals as goal

pub returns : goal.returns
returns c = queue_deficit_law
