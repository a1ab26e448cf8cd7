-- Proves `delay_law` (lib.rt) from the lemmas.
use Rattle.wf_law_runs.proofs.Deficits.Delay.{delay_law}
use Rattle.wf_law_runs.proofs.delay_law.Goals as goal

pub returns : goal.returns
returns c = delay_law
