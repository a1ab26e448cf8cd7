-- Proves `queue_law` (lib.rt) from the lemmas.
use Rattle.wf_law_runs.proofs.Queues.Law.{queue_law}
use Rattle.wf_law_runs.proofs.queue_law.Goals as goal

pub returns : goal.returns
returns c = queue_law
