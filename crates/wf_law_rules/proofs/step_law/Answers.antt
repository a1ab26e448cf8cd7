-- Proves `step_law` (lib.rt) from the lemmas.
use Rattle.wf_law_rules.proofs.Lemmas.Roots.{step_greatest}
use Rattle.wf_law_rules.proofs.step_law.Goals as goal

pub returns : goal.returns
returns c = step_greatest
