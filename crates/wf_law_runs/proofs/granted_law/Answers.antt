-- Proves `granted_law` (lib.rt) from the lemmas.
use Rattle.wf_law_runs.proofs.Services.Granted.{granted_law}
use Rattle.wf_law_runs.proofs.granted_law.Goals as goal

pub returns : goal.returns
returns c = granted_law
