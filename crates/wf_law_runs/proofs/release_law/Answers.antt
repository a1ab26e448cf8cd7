-- Proves `release_law` (lib.rt) from the lemmas.
use Rattle.wf_law_runs.proofs.Releases.Named.{release_law}
use Rattle.wf_law_runs.proofs.release_law.Goals as goal

pub returns : goal.returns
returns c = release_law
