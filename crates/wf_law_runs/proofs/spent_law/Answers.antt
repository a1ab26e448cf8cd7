-- Proves `spent_law` (lib.rt) from the lemmas.
use Rattle.wf_law_runs.proofs.Spent.Sent.{spent_law}
use Rattle.wf_law_runs.proofs.spent_law.Goals as goal

pub returns : goal.returns
returns c = spent_law
