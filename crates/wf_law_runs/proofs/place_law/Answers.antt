-- Proves `place_law` (lib.rt) from the lemmas.
use Rattle.wf_law_runs.proofs.Frames.Places.{place_law}
use Rattle.wf_law_runs.proofs.place_law.Goals as goal

pub returns : goal.returns
returns c = place_law
