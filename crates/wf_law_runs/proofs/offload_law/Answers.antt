-- Proves `offload_law` (lib.rt) from the lemmas.
use Rattle.wf_law_runs.proofs.Offloads.Law.{offload_law}
use Rattle.wf_law_runs.proofs.offload_law.Goals as goal

pub returns : goal.returns
returns c = offload_law
