-- Proves `waiting_law` (lib.rt) from the lemmas.
use Rattle.wf_law_runs.proofs.Shares.Waits.{waiting_law}
use Rattle.wf_law_runs.proofs.waiting_law.Goals as goal

pub returns : goal.returns
returns c = waiting_law
