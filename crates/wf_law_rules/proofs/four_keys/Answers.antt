-- Proves `four_keys` (lib.rt) from the lemmas.
use Rattle.wf_law_rules.proofs.FourKeys.{loop_ends, pick_gives}
use Rattle.wf_law_rules.proofs.four_keys.Goals as goal

pub returns-clause-visits : goal.returns-clause-visits
returns-clause-visits c = loop_ends

pub returns-clause-pick : goal.returns-clause-pick
returns-clause-pick c = pick_gives
