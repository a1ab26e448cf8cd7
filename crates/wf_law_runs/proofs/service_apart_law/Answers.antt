-- Proves `service_apart_law` (lib.rt) from the lemmas.
use Rattle.wf_law_runs.proofs.Services.Apart.{apart_law}
use Rattle.wf_law_runs.proofs.service_apart_law.Goals as goal

pub returns : goal.returns
returns c = apart_law
