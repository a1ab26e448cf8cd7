-- Proves `range_law` (lib.rt) from the lemmas.
use Rattle.wf_law_runs.proofs.Ranges.Law.{range_law}
use Rattle.wf_law_runs.proofs.range_law.Goals as goal

pub returns : goal.returns
returns c = range_law
