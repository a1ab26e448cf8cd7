-- Proves `computed_law` (lib.rt) from the lemmas.
use Rattle.wf_law_runs.proofs.Spent.Computed.{computed_law}
use Rattle.wf_law_runs.proofs.computed_law.Goals as goal

pub returns : goal.returns
returns c = computed_law
