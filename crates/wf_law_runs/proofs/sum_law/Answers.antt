-- Proves `sum_law` (lib.rt) from the lemmas.
use Rattle.wf_law_runs.proofs.Sums.Law.{sum_law}
use Rattle.wf_law_runs.proofs.sum_law.Goals as goal

pub returns : goal.returns
returns c = sum_law
