-- Proves `renamed_pick` (lib.rt) from the lemmas.
use Rattle.wf_law_rules.proofs.Lemmas.Picks.{renamed_pick}
use Rattle.wf_law_rules.proofs.renamed_pick.Goals as goal

pub returns : goal.returns
returns c = λ f r need other ready others apart same. renamed_pick f apart r need other ready others same
