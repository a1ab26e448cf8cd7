-- Proves `unsettled_law` (lib.rt) from the lemmas.
use Rattle.wf_law_runs.proofs.Unsettled.Law.{unsettled_law}
use Rattle.wf_law_runs.proofs.unsettled_law.Goals as goal

pub returns : goal.returns
returns c = unsettled_law
