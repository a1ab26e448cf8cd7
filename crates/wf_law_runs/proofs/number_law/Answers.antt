-- Proves `number_law` (lib.rt) from the lemmas.
use Rattle.wf_law_runs.proofs.Deficits.Numbers.{number_law}
use Rattle.wf_law_runs.proofs.number_law.Goals as goal

pub returns : goal.returns
returns c = number_law
