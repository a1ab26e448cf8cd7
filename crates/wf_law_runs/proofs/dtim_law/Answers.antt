-- Proves `dtim_law` (lib.rt) from the lemmas.
use Rattle.wf_law_runs.proofs.Groups.Beacons.{dtim_law}
use Rattle.wf_law_runs.proofs.dtim_law.Goals as goal

pub returns : goal.returns
returns c = dtim_law
