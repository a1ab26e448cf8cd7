-- Proves `codel_law` (lib.rt) from the lemmas.
use Rattle.wf_law_runs.proofs.Dequeues.Law.{codel_law}
use Rattle.wf_law_runs.proofs.codel_law.Goals as goal

pub returns : goal.returns
returns c = codel_law
