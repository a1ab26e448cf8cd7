-- Proves `group_count_law` (lib.rt) from the lemmas.
use Rattle.wf_law_runs.proofs.Groups.Counts.{count_law}
use Rattle.wf_law_runs.proofs.group_count_law.Goals as goal

pub returns : goal.returns
returns c = count_law
