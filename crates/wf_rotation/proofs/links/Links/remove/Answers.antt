-- A key that is the head is taken off as the first key; any other key has a key before it.
use Rattle.std.proofs.Common.{◌≡◌, ◌∙◌, ◌≤◌, ℕ, List, Some, ap, sym, arith}
use Rattle.wf_def_lists.specs.Lists.{on}
use Rattle.wf_rotation.specs.Lists.{AllLists, keys_at, with_keys, lists_at}
use Rattle.wf_rotation.proofs.LinkLemmas.{head_there, first_some, not_empty-on, chains_disjoint}
use Rattle.wf_rotation.proofs.BackLemmas.{side_on}
use Rattle.wf_rotation.proofs.UnlinkLemmas.{without_first}
use Rattle.wf_rotation.proofs.links.Links.remove.Goals as goal

pub index-requires : goal.index-requires
index-requires c = omega (
  arith,
  head_there c.args.list c.args.side c.self.invariant.0 c.self.invariant.1 c.self.view_is
      c.requires.in_lists c.slot.ensures,
)

pub returns-then-index-key-clause-removed : goal.returns-then-index-key-clause-removed
returns-then-index-key-clause-removed c =
    let first = first_some c.args.list c.args.side c.self.invariant.0 c.self.invariant.1 c.self.view_is
    c.requires.in_lists c.slot.ensures c.index.result.now c.index.ensures
    (not_empty-on (keys_at c.args.self.now.lists c.args.list c.args.side) c.args.key c.requires.listed) in
    let once : on (keys_at c.args.self.now.lists c.args.list c.args.side) c.args.key ≤ 1 =
    omega (
      arith,
      side_on (lists_at c.args.self.now.lists c.args.list) c.args.side c.args.key,
      c.take_first.ensures.disjoint.once c.args.list c.args.key,
    ) in
    c.take_first.ensures.rest ∙ ap (λ (ks : List ℕ). let w : AllLists = record {
      lists = with_keys c.args.self.now.lists c.args.list c.args.side ks;
      keys = c.args.self.now.keys;
    } in w)
    (without_first (keys_at c.args.self.now.lists c.args.list c.args.side) c.args.key once
    (first.1 ∙ ap Some c.if-index-key.true))

pub unlink-requires-clause-not_first : goal.unlink-requires-clause-not_first
unlink-requires-clause-not_first c =
    let first = first_some c.args.list c.args.side c.self.invariant.0 c.self.invariant.1 c.self.view_is
    c.requires.in_lists c.slot.ensures c.index.result.now c.index.ensures
    (not_empty-on (keys_at c.args.self.now.lists c.args.list c.args.side) c.args.key c.requires.listed) in
    λ is. c.if-index-key.false
    (let e : Some c.index.result.now ≡ Some c.args.key = sym first.1 ∙ is in cc)

pub returns-else-index-key-clause-disjoint : goal.returns-else-index-key-clause-disjoint
returns-else-index-key-clause-disjoint c = rw (← c.self.view_is, c.self.invariant.1)
    (chains_disjoint _ _ _ _ c.self.invariant.0)
