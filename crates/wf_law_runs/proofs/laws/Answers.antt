-- Proves `laws` (lib.rt) from the lemmas.
use Rattle.wf_law_runs.proofs.AllLaws.{laws}
use Rattle.wf_law_runs.proofs.laws.Goals as goal

pub returns : goal.returns
returns c = laws
