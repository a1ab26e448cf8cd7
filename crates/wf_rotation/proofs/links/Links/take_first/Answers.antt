-- The head moves on to the key after it, so the chain is the rest of the list.
use Rattle.std.proofs.Common.{◌≡◌, [], List, ap, sym, subst, arith}
use Rattle.wf_def_rotation.specs.Rotation.{Rotation}
use Rattle.wf_rotation.specs.Lists.{AllLists, keys_at, first_of}
use Rattle.wf_rotation.proofs.LinkLemmas.{chains_disjoint, head_there, first_read, take_read}
use Rattle.wf_rotation.proofs.ListsLemmas.{none_taken}
use Rattle.wf_rotation.specs.Links.{AreBacks}
use Rattle.wf_rotation.proofs.BackLemmas.{backs_taken}
use Rattle.wf_rotation.proofs.links.Links.take_first.Goals as goal

pub index-key-requires : goal.index-key-requires
index-key-requires c = omega (
  arith,
  head_there c.args.list c.args.side c.self.invariant.0 c.self.invariant.1
      c.self.view_is c.requires c.slot-at.ensures,
)

pub index_mut-requires : goal.index_mut-requires
index_mut-requires c = omega (
  arith,
  head_there c.args.list c.args.side c.self.invariant.0 c.self.invariant.1
      c.self.view_is c.requires c.slot-at.ensures,
)

pub invariant_of-self : goal.invariant_of-self
invariant_of-self c =
    let taken = take_read c.args.list c.args.side c.self.invariant.0 c.self.invariant.1 c.self.view_is
    c.requires c.slot-at.ensures c.index-key.result.now c.index.result.now c.index-key.ensures c.index.ensures
    c.if-key-self.true in (
      taken.0,
      c.self.invariant.1,
      rw taken.1 (backs_taken _ c.args.self.now c.args.list c.args.side
          (subst (AreBacks _) c.self.view_is c.self.invariant.2) c.requires),
    )

pub returns-then-key-self-clause-key : goal.returns-then-key-self-clause-key
returns-then-key-self-clause-key c =
    sym ((first_read c.args.list c.args.side c.self.invariant.0 c.self.invariant.1 c.self.view_is c.requires
    c.slot-at.ensures c.index-key.result.now c.index-key.ensures).0 c.if-key-self.true)

pub returns-then-key-self-clause-rest : goal.returns-then-key-self-clause-rest
returns-then-key-self-clause-rest c =
    (take_read c.args.list c.args.side c.self.invariant.0 c.self.invariant.1 c.self.view_is c.requires
    c.slot-at.ensures c.index-key.result.now c.index.result.now c.index-key.ensures c.index.ensures
    c.if-key-self.true).1

pub returns-else-key-self-clause-key : goal.returns-else-key-self-clause-key
returns-else-key-self-clause-key c =
    sym (ap first_of ((first_read c.args.list c.args.side c.self.invariant.0 c.self.invariant.1
    c.self.view_is c.requires c.slot-at.ensures c.index-key.result.now c.index-key.ensures).1
    (omega (arith, c.if-key-self.false))))

pub returns-else-key-self-clause-rest : goal.returns-else-key-self-clause-rest
returns-else-key-self-clause-rest c =
    let empty : keys_at c.args.self.now.lists c.args.list c.args.side ≡ [] =
    (first_read c.args.list c.args.side c.self.invariant.0 c.self.invariant.1 c.self.view_is c.requires
    c.slot-at.ensures c.index-key.result.now c.index-key.ensures).1
    (omega (arith, c.if-key-self.false)) in
    ap (λ (ls : List Rotation). let v : AllLists = record { lists = ls; keys = c.args.self.now.keys } in v)
    (none_taken c.args.self.now.lists c.args.list c.args.side empty)

pub returns-then-key-self-clause-disjoint : goal.returns-then-key-self-clause-disjoint
returns-then-key-self-clause-disjoint c = rw (← c.self.view_is, c.self.invariant.1)
    (chains_disjoint _ _ _ _ c.self.invariant.0)

pub returns-else-key-self-clause-disjoint : goal.returns-else-key-self-clause-disjoint
returns-else-key-self-clause-disjoint c = rw (← c.self.view_is, c.self.invariant.1)
    (chains_disjoint _ _ _ _ c.self.invariant.0)
