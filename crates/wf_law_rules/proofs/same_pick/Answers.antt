-- Proves `same_pick` (lib.rt) from the lemmas.
use Rattle.wf_law_rules.proofs.Lemmas.Picks.{same_pick}
use Rattle.wf_law_rules.proofs.same_pick.Goals as goal

pub returns : goal.returns
returns c = same_pick
