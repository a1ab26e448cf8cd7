-- Proves `tally_law` (lib.rt) from the lemmas.
use Rattle.wf_law_runs.proofs.Frames.Tallies.{tally_law}
use Rattle.wf_law_runs.proofs.tally_law.Goals as goal

pub returns : goal.returns
returns c = tally_law
