-- Proves `loop_law` (lib.rt) from the lemmas.
use Rattle.wf_law_rules.proofs.LoopEnds.{end_law}
use Rattle.wf_law_rules.proofs.LoopLaw.{loop_law}
use Rattle.wf_law_rules.proofs.loop_law.Goals as goal

pub returns-clause-ends : goal.returns-clause-ends
returns-clause-ends c = end_law

pub returns-clause-picks : goal.returns-clause-picks
returns-clause-picks c = loop_law
