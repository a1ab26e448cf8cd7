-- The first key leaves its list and is put on the old list if it stays; its home follows it.
use Rattle.std.proofs.Common.{◌≡◌, ◌<◌, length, set, sym, subst, Some, None, arith, length-set}
use Rattle.wf_rotation.specs.Lists.{AllLists, keys_at, first_of, IsOff}
use Rattle.wf_rotation.specs.Rotas.{Rotas}
use Rattle.wf_rotation.specs.Homes.{AreKept}
use Rattle.wf_rotation.specs.declared.side.Side.TheVariants.{Old}
use Rattle.wf_rotation.proofs.HomeLemmas.{kept_taken, kept_put}
use Rattle.wf_rotation.proofs.ListsLemmas.{taken_unlisted, taken_below}
use Rattle.wf_rotation.proofs.rota.Rota.move_first.Goals as goal
use Rattle.wf_rotation.proofs.rota.Rota.move_first.Goals.{After-take_first}

first_there : (c : After-take_first) → first_of (keys_at c.self.inside.links.lists c.args.list c.args.side)
    ≡ Some c.args.key
first_there c = subst (λ (v : Rotas). first_of (keys_at v.lists c.args.list c.args.side) ≡ Some c.args.key)
    (sym c.self.view_is) c.requires.first

list_there : (c : After-take_first) → c.args.list < length c.self.inside.links.lists
list_there c = subst (λ (v : Rotas). c.args.list < length v.lists) (sym c.self.view_is) c.requires.in_lists

key_below : (c : After-take_first) → c.args.key < c.self.inside.links.keys
key_below c = taken_below _ c.args.list c.args.side c.args.key c.take_first.ensures.disjoint (first_there c)

-- the homes are right once the key is off its list
kept_off : (c : After-take_first) → AreKept c.take_first.new.self
    (set c.self.inside.homes.items c.args.key None) c.self.inside.deficits.items c.self.inside.quanta.items
kept_off c = subst (λ (q : AllLists). AreKept q (set c.self.inside.homes.items c.args.key None)
    c.self.inside.deficits.items c.self.inside.quanta.items) (sym c.take_first.ensures.rest)
    (kept_taken _ _ _ _ c.self.invariant c.args.list c.args.side c.args.key c.take_first.ensures.disjoint
    (list_there c) (first_there c))

pub index_mut-requires : goal.index_mut-requires
index_mut-requires c =
    omega (
      arith,
      key_below (goal.at.index_mut-requires c).After-take_first,
      c.self.invariant.keys,
      c.self.invariant.homes_keys,
    )

pub put_last-requires-clause-in_keys : goal.put_last-requires-clause-in_keys
put_last-requires-clause-in_keys c = subst (λ (q : AllLists). c.args.key < q.keys)
    (sym c.take_first.ensures.rest)
    (key_below (goal.at.put_last-requires-clause-in_keys c).After-take_first)

pub put_last-requires-clause-unlisted : goal.put_last-requires-clause-unlisted
put_last-requires-clause-unlisted c = subst (λ (q : AllLists). IsOff q.lists c.args.key)
    (sym c.take_first.ensures.rest)
    (taken_unlisted _ c.args.list c.args.side c.args.key c.take_first.ensures.disjoint
    (first_there (goal.at.put_last-requires-clause-unlisted c).After-take_first))

pub index_mut-requires-then-stays : goal.index_mut-requires-then-stays
index_mut-requires-then-stays c =
    omega (
      arith,
      key_below (goal.at.index_mut-requires-then-stays c).After-take_first,
      c.self.invariant.keys,
      c.self.invariant.homes_keys,
    )

pub invariant_of-self : goal.invariant_of-self
invariant_of-self c = subst (λ (q : AllLists).
    AreKept q (set (set c.self.inside.homes.items c.args.key None) c.args.key
    (Some (record { list = c.args.list; side = Old }))) c.self.inside.deficits.items
    c.self.inside.quanta.items) (sym c.put_last.ensures)
    (kept_put _ _ _ _ (kept_off (goal.at.invariant_of-self c).After-take_first) c.args.list Old c.args.key
    (subst (λ (q : AllLists). c.args.list < length q.lists) (sym c.take_first.ensures.rest)
    (rw length-set (list_there (goal.at.invariant_of-self c).After-take_first))))

pub invariant_of-self-else-stays : goal.invariant_of-self-else-stays
invariant_of-self-else-stays c = kept_off (goal.at.invariant_of-self-else-stays c).After-take_first

pub returns-then-stays-clause-below : goal.returns-then-stays-clause-below
returns-then-stays-clause-below c = subst (λ (v : Rotas). c.args.key < length v.deficits) c.self.view_is
    (omega (
      arith,
      key_below (goal.at.returns-then-stays-clause-below c).After-take_first,
      c.self.invariant.keys,
    ))

pub returns-else-stays-clause-below : goal.returns-else-stays-clause-below
returns-else-stays-clause-below c = subst (λ (v : Rotas). c.args.key < length v.deficits) c.self.view_is
    (omega (
      arith,
      key_below (goal.at.returns-else-stays-clause-below c).After-take_first,
      c.self.invariant.keys,
    ))
