-- Proves the law; see proofs/Prints.
use Rattle.wf_run_histories.proofs.Prints.{walk_law}
use Rattle.wf_run_histories.proofs.soak.workers.laws.walk_law.Goals as goal

pub returns : goal.returns
returns c = walk_law
