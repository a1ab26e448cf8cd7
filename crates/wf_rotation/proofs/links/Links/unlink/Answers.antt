-- The keys before and after the key are linked to each other, so the chain is the list without the key.
use Rattle.std.proofs.Common.{subst, arith, length-set}
use Rattle.wf_rotation.specs.Links.{AreBacks}
use Rattle.wf_rotation.proofs.LinkLemmas.{tail_there}
use Rattle.wf_rotation.proofs.UnlinkLemmas.{key_below, key_below_prev, before_there, unlink_read, unlink_last_read}
use Rattle.wf_rotation.proofs.links.Links.unlink.Goals as goal

pub index-before-requires : goal.index-before-requires
index-before-requires c = omega (
  arith,
  key_below_prev c.args.list c.args.side c.self.invariant.0 c.self.invariant.1
      c.self.view_is (subst (AreBacks _) c.self.view_is c.self.invariant.2) c.requires.in_lists
      c.slot-at.ensures c.args.key c.requires.listed c.requires.not_first,
)

pub index-after-requires : goal.index-after-requires
index-after-requires c = omega (
  arith,
  key_below c.args.list c.args.side c.self.invariant.0 c.self.invariant.1
      c.self.view_is (subst (AreBacks _) c.self.view_is c.self.invariant.2) c.requires.in_lists
      c.slot-at.ensures c.args.key c.requires.listed c.requires.not_first,
)

pub index_mut-requires : goal.index_mut-requires
index_mut-requires c = omega (
  arith,
  before_there c.args.list c.args.side c.self.invariant.0 c.self.invariant.1
      c.self.view_is (subst (AreBacks _) c.self.view_is c.self.invariant.2) c.requires.in_lists
      c.slot-at.ensures c.args.key c.requires.listed c.requires.not_first c.index-before.ensures
      c.index-after.ensures,
)

pub index_mut-requires-then-after-self : goal.index_mut-requires-then-after-self
index_mut-requires-then-after-self c = omega (
  arith,
  (unlink_read c.args.list c.args.side c.self.invariant.0
      c.self.invariant.1
      c.self.view_is (subst (AreBacks _) c.self.view_is c.self.invariant.2) c.requires.in_lists
      c.slot-at.ensures c.args.key c.requires.listed c.requires.not_first c.index-before.ensures
      c.index-after.ensures c.if-after-self.true).3,
)

pub index_mut-requires-else-after-self : goal.index_mut-requires-else-after-self
index_mut-requires-else-after-self c = omega (
  arith,
  tail_there c.args.list c.args.side c.self.invariant.0
      c.self.invariant.1 c.self.view_is c.requires.in_lists c.slot-at.ensures,
)

pub invariant_of-self : goal.invariant_of-self
invariant_of-self c =
    let left = unlink_read c.args.list c.args.side c.self.invariant.0 c.self.invariant.1
    c.self.view_is (subst (AreBacks _) c.self.view_is c.self.invariant.2) c.requires.in_lists
    c.slot-at.ensures c.args.key c.requires.listed c.requires.not_first c.index-before.ensures
    c.index-after.ensures c.if-after-self.true in
    (left.0, rw length-set c.self.invariant.1, rw left.1 left.2)

pub invariant_of-self-else-after-self : goal.invariant_of-self-else-after-self
invariant_of-self-else-after-self c =
    let left = unlink_last_read c.args.list c.args.side c.self.invariant.0 c.self.invariant.1
    c.self.view_is (subst (AreBacks _) c.self.view_is c.self.invariant.2) c.requires.in_lists
    c.slot-at.ensures c.args.key c.requires.listed c.requires.not_first c.index-before.ensures
    c.index-after.ensures (omega (arith, c.if-after-self.false)) in
    (left.0, rw length-set c.self.invariant.1, rw left.1 left.2)

pub returns-then-after-self : goal.returns-then-after-self
returns-then-after-self c = (unlink_read c.args.list c.args.side c.self.invariant.0 c.self.invariant.1
    c.self.view_is (subst (AreBacks _) c.self.view_is c.self.invariant.2) c.requires.in_lists
    c.slot-at.ensures c.args.key c.requires.listed c.requires.not_first c.index-before.ensures
    c.index-after.ensures c.if-after-self.true).1

pub returns-else-after-self : goal.returns-else-after-self
returns-else-after-self c = (unlink_last_read c.args.list c.args.side c.self.invariant.0 c.self.invariant.1
    c.self.view_is (subst (AreBacks _) c.self.view_is c.self.invariant.2) c.requires.in_lists
    c.slot-at.ensures c.args.key c.requires.listed c.requires.not_first c.index-before.ensures
    c.index-after.ensures (omega (arith, c.if-after-self.false))).1
