-- The link that is read at a key leads to the key after it on its chain.
use Rattle.std.proofs.Common.{refl, ap, sym, arith}
use Rattle.wf_rotation.specs.Lists.{first_of}
use Rattle.wf_rotation.proofs.LinkLemmas.{after_read}
use Rattle.wf_rotation.proofs.links.Links.after.Goals as goal

pub returns-then-next-self : goal.returns-then-next-self
returns-then-next-self c = λ list side before rest low is.
    sym ((after_read list side c.self.invariant.0 c.self.invariant.1 c.self.view_is low refl c.args.key
    c.index-next.result.now before rest c.requires c.index-next.ensures is).0 c.if-next-self.true)

pub returns-else-next-self : goal.returns-else-next-self
returns-else-next-self c = λ list side before rest low is.
    sym (ap first_of ((after_read list side c.self.invariant.0 c.self.invariant.1 c.self.view_is low refl
    c.args.key c.index-next.result.now before rest c.requires c.index-next.ensures is).1
    (omega (arith, c.if-next-self.false))))
