-- Proves `rate_law` (lib.rt) from the lemmas.
use Rattle.wf_law_rules.proofs.Rate.{rate_law}
use Rattle.wf_law_rules.proofs.rate_law.Goals as goal

pub returns : goal.returns
returns c = rate_law
