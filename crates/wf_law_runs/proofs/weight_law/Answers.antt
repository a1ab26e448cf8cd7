-- Proves `weight_law` (lib.rt) from the lemmas.
use Rattle.wf_law_runs.proofs.Shares.Weights.{weight_law}
use Rattle.wf_law_runs.proofs.weight_law.Goals as goal

pub returns : goal.returns
returns c = weight_law
