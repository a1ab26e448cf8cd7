-- Proves `rotation_law` (lib.rt) from the lemmas.
use Rattle.wf_law_runs.proofs.Rotations.Law.{rotation_law}
use Rattle.wf_law_runs.proofs.rotation_law.Goals as goal

pub returns : goal.returns
returns c = rotation_law
