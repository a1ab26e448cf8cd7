-- Proves `twelve_bit_law` (lib.rt) from the lemmas.
use Rattle.wf_law_runs.proofs.Windows.TwelveBits.{twelve_bit_law}
use Rattle.wf_law_runs.proofs.twelve_bit_law.Goals as goal

pub returns : goal.returns
returns c = twelve_bit_law
