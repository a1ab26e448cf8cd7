-- Proves `kept_law` (lib.rt) from the lemmas.
use Rattle.wf_law_runs.proofs.Kept.Law.{kept_law}
use Rattle.wf_law_runs.proofs.kept_law.Goals as goal

pub returns : goal.returns
returns c = kept_law
