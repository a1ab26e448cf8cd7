-- The size of the set is the number of ones in its word.
use Rattle.std.proofs.Common.{sym, ap, ◌∙◌, length}
use Rattle.wf_octets.proofs.Words.{length-set_of}
use Rattle.wf_octets.proofs.bits.bits64.Bits64.count.Goals as goal

pub returns : goal.returns
returns c = sym (length-set_of 64 c.self.inside.word c.self.invariant) ∙ ap length c.self.view_is
