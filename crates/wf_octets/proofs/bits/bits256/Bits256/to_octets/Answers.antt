-- The octets of the words represent the same set as the words.
use Rattle.std.proofs.Common.{◌∙◌, sym, arith}
use Rattle.wf_octets.proofs.Words.{set_of-words}
use Rattle.wf_octets.proofs.bits.bits256.Bits256.to_octets.Goals as goal

pub returns : goal.returns
returns c =
    sym (set_of-words c.self.inside.words c.loop-i.octet-items c.loop-i-test.array_long c.self.invariant.1
    (λ k below. c.loop-i.invariant k (omega arith))) ∙ c.self.view_is
