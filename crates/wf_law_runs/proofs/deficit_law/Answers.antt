-- Proves `deficit_law` (lib.rt) from the lemmas.
use Rattle.wf_law_runs.proofs.Deficits.Law.{deficits}
use Rattle.wf_law_runs.proofs.deficit_law.Goals as goal

pub returns : goal.returns
returns c = deficits
