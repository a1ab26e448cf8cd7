-- Proves `fate_law` (lib.rt) from the lemmas.
use Rattle.wf_law_runs.proofs.Frames.FateLaw.{fate_law}
use Rattle.wf_law_runs.proofs.fate_law.Goals as goal

pub returns : goal.returns
returns c = fate_law
