-- Proves `group_more_law` (lib.rt) from the lemmas.
use Rattle.wf_law_runs.proofs.Groups.Beacons.{more_law}
use Rattle.wf_law_runs.proofs.group_more_law.Goals as goal

pub returns : goal.returns
returns c = more_law
