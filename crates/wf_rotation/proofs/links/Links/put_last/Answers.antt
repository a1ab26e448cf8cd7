-- The key is linked after the last key, or becomes head and tail of an empty list; no other chain changes.
use Rattle.std.proofs.Common.{ap, subst, arith, length-set}
use Rattle.wf_rotation.proofs.LinkLemmas.{head_there, tail_there, first_read, ends_read, put_read, put_first_read}
use Rattle.wf_rotation.specs.Lists.{AllLists}
use Rattle.wf_rotation.specs.Links.{AreBacks}
use Rattle.wf_rotation.proofs.BackLemmas.{backs_put, backs_put_first}
use Rattle.wf_rotation.proofs.links.Links.put_last.Goals as goal

pub index-last-requires : goal.index-last-requires
index-last-requires c = omega (
  arith,
  tail_there c.args.list c.args.side c.self.invariant.0 c.self.invariant.1
      c.self.view_is c.requires.in_lists c.slot-at.ensures,
)

pub index-requires : goal.index-requires
index-requires c = omega (
  arith,
  head_there c.args.list c.args.side c.self.invariant.0 c.self.invariant.1
      c.self.view_is c.requires.in_lists c.slot-at.ensures,
)

pub index_mut-requires-then-index-self : goal.index_mut-requires-then-index-self
index_mut-requires-then-index-self c =
    let put = put_read c.args.list c.args.side c.self.invariant.0 c.self.invariant.1 c.self.view_is
    c.requires.in_lists c.slot-at.ensures c.args.key c.index.result.now c.index-last.result.now
    c.requires.in_keys c.requires.unlisted c.index.ensures c.index-last.ensures c.if-index-self.true in
    omega (arith, put.2)

pub index_mut-requires-then-index-self-2 : goal.index_mut-requires-then-index-self-2
index_mut-requires-then-index-self-2 c = omega (
  arith,
  c.self.invariant.2.keys,
  c.requires.in_keys,
  ap (λ (q : AllLists). q.keys) c.self.view_is,
)

pub index_mut-requires-then-index-self-3 : goal.index_mut-requires-then-index-self-3
index_mut-requires-then-index-self-3 c = omega (
  arith,
  tail_there c.args.list c.args.side c.self.invariant.0
      c.self.invariant.1 c.self.view_is c.requires.in_lists c.slot-at.ensures,
)

pub index_mut-requires-else-index-self-2 : goal.index_mut-requires-else-index-self-2
index_mut-requires-else-index-self-2 c = omega (
  arith,
  head_there c.args.list c.args.side c.self.invariant.0
      c.self.invariant.1 c.self.view_is c.requires.in_lists c.slot-at.ensures,
)

pub index_mut-requires-else-index-self-3 : goal.index_mut-requires-else-index-self-3
index_mut-requires-else-index-self-3 c = omega (
  arith,
  tail_there c.args.list c.args.side c.self.invariant.0
      c.self.invariant.1 c.self.view_is c.requires.in_lists c.slot-at.ensures,
)

pub invariant_of-self : goal.invariant_of-self
invariant_of-self c =
    let put = put_read c.args.list c.args.side c.self.invariant.0 c.self.invariant.1 c.self.view_is
    c.requires.in_lists c.slot-at.ensures c.args.key c.index.result.now c.index-last.result.now
    c.requires.in_keys c.requires.unlisted c.index.ensures c.index-last.ensures c.if-index-self.true in (
      put.0,
      rw (length-set, length-set) c.self.invariant.1,
      rw put.1 (backs_put _ c.args.self.now c.args.list c.args.key c.index-last.result.now c.args.side
          (subst (AreBacks _) c.self.view_is c.self.invariant.2) c.requires.in_lists c.requires.in_keys
          c.requires.unlisted (ends_read c.args.list c.args.side c.self.invariant.0 c.self.invariant.1
          c.self.view_is c.requires.in_lists c.slot-at.ensures c.index-last.result.now c.index-last.ensures)),
    )

pub invariant_of-self-else-index-self : goal.invariant_of-self-else-index-self
invariant_of-self-else-index-self c =
    let put = put_first_read c.args.list c.args.side c.self.invariant.0 c.self.invariant.1 c.self.view_is
    c.requires.in_lists c.slot-at.ensures c.args.key c.index.result.now c.requires.in_keys
    c.requires.unlisted c.index.ensures (omega (arith, c.if-index-self.false)) in
    let empty = (first_read c.args.list c.args.side c.self.invariant.0 c.self.invariant.1 c.self.view_is
    c.requires.in_lists c.slot-at.ensures c.index.result.now c.index.ensures).1
    (omega (arith, c.if-index-self.false)) in (
      put.0,
      rw length-set c.self.invariant.1,
      rw put.1 (backs_put_first _ c.args.self.now c.args.list c.args.key c.args.side
          (subst (AreBacks _) c.self.view_is c.self.invariant.2) c.requires.in_lists empty),
    )

pub returns-then-index-self : goal.returns-then-index-self
returns-then-index-self c =
    (put_read c.args.list c.args.side c.self.invariant.0 c.self.invariant.1 c.self.view_is
    c.requires.in_lists c.slot-at.ensures c.args.key c.index.result.now c.index-last.result.now
    c.requires.in_keys c.requires.unlisted c.index.ensures c.index-last.ensures c.if-index-self.true).1

pub returns-else-index-self : goal.returns-else-index-self
returns-else-index-self c =
    (put_first_read c.args.list c.args.side c.self.invariant.0 c.self.invariant.1 c.self.view_is
    c.requires.in_lists c.slot-at.ensures c.args.key c.index.result.now c.requires.in_keys
    c.requires.unlisted c.index.ensures (omega (arith, c.if-index-self.false))).1
