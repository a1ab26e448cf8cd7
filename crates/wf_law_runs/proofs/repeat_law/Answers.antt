-- Proves `repeat_law` (lib.rt) from the lemmas.
use Rattle.wf_law_runs.proofs.Modes.Repeats.{repeat_law}
use Rattle.wf_law_runs.proofs.repeat_law.Goals as goal

pub returns : goal.returns
returns c = repeat_law
