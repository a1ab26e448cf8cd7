-- Proves `window_law` (lib.rt) from the lemmas.
use Rattle.wf_law_runs.proofs.Windows.Law.{window_law}
use Rattle.wf_law_runs.proofs.window_law.Goals as goal

pub returns : goal.returns
returns c = window_law
