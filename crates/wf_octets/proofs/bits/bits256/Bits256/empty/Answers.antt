-- The set of four words 0 is empty.
use Rattle.wf_octets.proofs.Words.{set_of-zero}
use Rattle.wf_octets.proofs.bits.bits256.Bits256.empty.Goals as goal

pub returns : goal.returns
returns c = set_of-zero 256
