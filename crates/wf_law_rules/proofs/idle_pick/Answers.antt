-- Proves `idle_pick` (lib.rt) from the lemmas.
use Rattle.wf_law_rules.proofs.Lemmas.Picks.{none_idle, idle_none}
use Rattle.wf_law_rules.proofs.idle_pick.Goals as goal

pub returns : goal.returns
returns c = λ r need ready. (none_idle r need ready, idle_none r need ready)
