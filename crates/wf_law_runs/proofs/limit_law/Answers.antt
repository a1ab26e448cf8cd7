-- Proves `limit_law` (lib.rt) from the lemmas.
use Rattle.wf_law_runs.proofs.Queues.Limit.{limit_law}
use Rattle.wf_law_runs.proofs.limit_law.Goals as goal

pub returns : goal.returns
returns c = limit_law
