-- Proves `tries_law` (lib.rt) from the lemmas.
use Rattle.wf_law_runs.proofs.Tries.Law.{tries_law}
use Rattle.wf_law_runs.proofs.tries_law.Goals as goal

pub returns : goal.returns
returns c = tries_law
