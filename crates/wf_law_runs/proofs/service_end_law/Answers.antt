-- Proves `service_end_law` (lib.rt) from the lemmas.
use Rattle.wf_law_runs.proofs.Services.Periods.{end_law}
use Rattle.wf_law_runs.proofs.service_end_law.Goals as goal

pub returns : goal.returns
returns c = end_law
