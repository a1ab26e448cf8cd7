-- Proves `attempts_law` (lib.rt) from the lemmas.
use Rattle.wf_law_runs.proofs.Attempts.Law.{attempts_law}
use Rattle.wf_law_runs.proofs.attempts_law.Goals as goal

pub returns : goal.returns
returns c = attempts_law
