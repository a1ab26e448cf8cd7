-- Proves `sparse_law` (lib.rt) from the lemmas.
use Rattle.wf_law_runs.proofs.Shares.Waits.{sparse_law}
use Rattle.wf_law_runs.proofs.sparse_law.Goals as goal

pub returns : goal.returns
returns c = sparse_law
