-- The word is determined by the set.
use Rattle.std.proofs.Common.{arith}
use Rattle.wf_octets.specs.BitsInverse.{word_of_one}
use Rattle.wf_octets.proofs.bits.bits64.Bits64PartialEq.eq.Goals as goal

pub returns : goal.returns
returns c = grind (arith, word_of_one)
