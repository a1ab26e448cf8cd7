-- Proves `quiet_law` (lib.rt) from the lemmas.
use Rattle.wf_law_runs.proofs.Deficits.Quiet.{quiet}
use Rattle.wf_law_runs.proofs.quiet_law.Goals as goal

pub returns : goal.returns
returns c = quiet
