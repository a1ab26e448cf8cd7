-- Proves `group_apart_law` (lib.rt) from the lemmas.
use Rattle.wf_law_runs.proofs.Groups.Apart.{apart_law}
use Rattle.wf_law_runs.proofs.group_apart_law.Goals as goal

pub returns : goal.returns
returns c = apart_law
