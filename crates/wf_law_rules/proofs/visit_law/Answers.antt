-- Proves `visit_law` (lib.rt) from the lemmas.
use Rattle.wf_law_rules.proofs.Lemmas.Visits.{visit_law}
use Rattle.wf_law_rules.proofs.visit_law.Goals as goal

pub returns : goal.returns
returns c = visit_law
