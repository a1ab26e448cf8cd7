-- Proves `answer_law` (lib.rt) from the lemmas.
use Rattle.wf_law_runs.proofs.Windows.Answers.{answer_law}
use Rattle.wf_law_runs.proofs.answer_law.Goals as goal

pub returns : goal.returns
returns c = answer_law
