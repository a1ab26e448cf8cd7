-- Proves `standing_law` (lib.rt) from the lemmas.
use Rattle.wf_law_rules.proofs.Standing.{standing_law}
use Rattle.wf_law_rules.proofs.standing_law.Goals as goal

pub returns : goal.returns
returns c = standing_law
