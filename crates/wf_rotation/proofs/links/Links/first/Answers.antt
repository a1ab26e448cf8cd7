-- The head that is read is the first key of the chain, or is past the keys if the chain is empty.
use Rattle.std.proofs.Common.{ap, sym, arith}
use Rattle.wf_rotation.specs.Lists.{first_of}
use Rattle.wf_rotation.proofs.LinkLemmas.{chains_disjoint, head_there, first_read}
use Rattle.wf_rotation.proofs.links.Links.first.Goals as goal

pub index-from-requires : goal.index-from-requires
index-from-requires c = omega (
  arith,
  head_there c.args.list c.args.side c.self.invariant.0 c.self.invariant.1
      c.self.view_is c.requires c.slot.ensures,
)

pub returns-then-from-self-clause-key : goal.returns-then-from-self-clause-key
returns-then-from-self-clause-key c =
    sym ((first_read c.args.list c.args.side c.self.invariant.0 c.self.invariant.1 c.self.view_is c.requires
    c.slot.ensures c.index-from.result.now c.index-from.ensures).0 c.if-from-self.true)

pub returns-then-from-self-clause-disjoint : goal.returns-then-from-self-clause-disjoint
returns-then-from-self-clause-disjoint c = rw (← c.self.view_is, c.self.invariant.1)
    (chains_disjoint _ _ _ _ c.self.invariant.0)

pub returns-else-from-self-clause-key : goal.returns-else-from-self-clause-key
returns-else-from-self-clause-key c =
    sym (ap first_of ((first_read c.args.list c.args.side c.self.invariant.0 c.self.invariant.1
    c.self.view_is c.requires c.slot.ensures c.index-from.result.now c.index-from.ensures).1
    (omega (arith, c.if-from-self.false))))

pub returns-else-from-self-clause-disjoint : goal.returns-else-from-self-clause-disjoint
returns-else-from-self-clause-disjoint c = rw (← c.self.view_is, c.self.invariant.1)
    (chains_disjoint _ _ _ _ c.self.invariant.0)
