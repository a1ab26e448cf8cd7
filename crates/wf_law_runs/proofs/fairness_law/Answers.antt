-- Proves `fairness_law` (lib.rt) from the lemmas.
use Rattle.wf_law_runs.proofs.Fairness.Law.{fairness}
use Rattle.wf_law_runs.proofs.fairness_law.Goals as goal

pub returns : goal.returns
returns c = fairness
