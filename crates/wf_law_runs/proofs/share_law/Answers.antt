-- Proves `share_law` (lib.rt) from the lemmas.
use Rattle.wf_law_runs.proofs.Shares.Law.{share_law}
use Rattle.wf_law_runs.proofs.share_law.Goals as goal

pub returns : goal.returns
returns c = share_law
