-- Proves `dequeue_is_the_loop` (lib.rt) from the lemmas.
use Rattle.wf_law_rules.proofs.Lemmas.Drops.{drops_end, drops_before}
use Rattle.wf_law_rules.proofs.Lemmas.Stepped.{same_dequeue}
use Rattle.wf_law_rules.proofs.dequeue_is_the_loop.Goals as goal

pub returns-clause-stepped : goal.returns-clause-stepped
returns-clause-stepped c = same_dequeue

pub returns-clause-ends : goal.returns-clause-ends
returns-clause-ends c = drops_end

pub returns-clause-least : goal.returns-clause-least
returns-clause-least c = drops_before
