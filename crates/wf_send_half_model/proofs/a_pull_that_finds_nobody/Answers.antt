-- Proves the law `a_pull_that_finds_nobody` by the lemmas of Pulls.
use Rattle.wf_send_half_model.proofs.Pulls.{idle_pull, idle_pull_stays}
use Rattle.wf_send_half_model.proofs.a_pull_that_finds_nobody.Goals as goal

pub returns-clause-picks : goal.returns-clause-picks
returns-clause-picks c = idle_pull

pub returns-clause-stays : goal.returns-clause-stays
returns-clause-stays c = idle_pull_stays
