-- Proves `service_limit_law` (lib.rt) from the lemmas.
use Rattle.wf_law_runs.proofs.Services.Limits.{limit_law}
use Rattle.wf_law_runs.proofs.service_limit_law.Goals as goal

pub returns : goal.returns
returns c = limit_law
