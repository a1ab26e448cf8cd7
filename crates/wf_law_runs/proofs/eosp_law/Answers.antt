-- Proves `eosp_law` (lib.rt) from the lemmas.
use Rattle.wf_law_runs.proofs.Services.Granted.{eosp_law}
use Rattle.wf_law_runs.proofs.eosp_law.Goals as goal

pub returns : goal.returns
returns c = eosp_law
