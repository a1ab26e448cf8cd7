-- Proves `announced_law` (lib.rt) from the lemmas.
use Rattle.wf_law_runs.proofs.Groups.Beacons.{announced_law}
use Rattle.wf_law_runs.proofs.announced_law.Goals as goal

pub returns : goal.returns
returns c = announced_law
