-- Proves `last_law` (lib.rt) from the lemmas.
use Rattle.wf_law_runs.proofs.Services.Granted.{last_law}
use Rattle.wf_law_runs.proofs.last_law.Goals as goal

pub returns : goal.returns
returns c = last_law
