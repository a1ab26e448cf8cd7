-- Proves `once_law` (lib.rt) from the lemmas.
use Rattle.wf_law_runs.proofs.Releases.Once.{once_law}
use Rattle.wf_law_runs.proofs.once_law.Goals as goal

pub returns : goal.returns
returns c = once_law
