-- Proves `finished_law` (lib.rt) from the lemmas.
use Rattle.wf_law_runs.proofs.Frames.FinishedLaw.{finished_law}
use Rattle.wf_law_runs.proofs.finished_law.Goals as goal

pub returns : goal.returns
returns c = finished_law
