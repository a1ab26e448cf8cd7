-- Proves `mode_law` (lib.rt) from the lemmas.
use Rattle.wf_law_runs.proofs.Modes.Law.{mode_law}
use Rattle.wf_law_runs.proofs.mode_law.Goals as goal

pub returns : goal.returns
returns c = mode_law
