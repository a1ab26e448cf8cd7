-- The words are determined by the set.
use Rattle.std.proofs.Common.{◌∙◌}
use Rattle.wf_octets.proofs.Words.{same_words}
use Rattle.wf_octets.proofs.bits.bits256.Bits256PartialEq.eq.Goals as goal

pub returns : goal.returns
returns c =
    c.eq.ensures ∙ same_words c.t1-1.inside.words c.t2-1.inside.words c.args.self.now c.args.other.now
    c.t1-1.invariant.0 c.t1-1.invariant.1 c.t2-1.invariant.0 c.t2-1.invariant.1 c.t1-1.view_is
    c.t2-1.view_is
