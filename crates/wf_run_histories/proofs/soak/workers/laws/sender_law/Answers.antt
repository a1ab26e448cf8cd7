-- Proves the law; see proofs/Prints.
use Rattle.wf_run_histories.proofs.Prints.{sender_law}
use Rattle.wf_run_histories.proofs.soak.workers.laws.sender_law.Goals as goal

pub returns : goal.returns
returns c = sender_law
