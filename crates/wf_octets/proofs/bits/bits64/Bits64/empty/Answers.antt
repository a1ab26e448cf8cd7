-- The set of the word 0 is empty.
use Rattle.wf_octets.proofs.Words.{set_of-zero}
use Rattle.wf_octets.proofs.bits.bits64.Bits64.empty.Goals as goal

pub returns : goal.returns
returns c = set_of-zero 64
