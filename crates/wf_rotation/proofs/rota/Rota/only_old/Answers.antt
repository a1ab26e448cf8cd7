-- The old list has one key, since its first key has none after it.
use Rattle.std.proofs.Common.{◌≡◌, ◌<◌, [], Some, length, sym, subst, arith}
use Rattle.wf_rotation.specs.Lists.{lists_at, keys_at, first_of, keys_behind}
use Rattle.wf_rotation.specs.Rotas.{Rotas}
use Rattle.wf_rotation.specs.Visits.{IsOnlyOld}
use Rattle.wf_rotation.specs.declared.side.Side.TheVariants.{Old}
use Rattle.wf_rotation.proofs.ListsLemmas.{first_is, taken_below}
use Rattle.wf_rotation.proofs.OnlyLemmas.{only_old}
use Rattle.wf_rotation.proofs.rota.Rota.only_old.Goals as goal

pub after-requires : goal.after-requires
after-requires c = taken_below c.self.inside.links c.args.list Old c.in_ok-key.key c.first.ensures.disjoint
    (sym c.in_ok-key.ensures.key)

pub returns-clause-alone : goal.returns-clause-alone
returns-clause-alone c =
    let low : c.args.list < length c.self.inside.links.lists =
    subst (λ (v : Rotas). c.args.list < length v.lists) (sym c.self.view_is) c.requires in
    let first : first_of (keys_at c.self.inside.links.lists c.args.list Old) ≡ Some c.in_ok-key.key =
    sym c.in_ok-key.ensures.key in
    subst (λ (v : Rotas). IsOnlyOld (lists_at v.lists c.args.list) c.in_ok-key.key) c.self.view_is
    (only_old (lists_at c.self.inside.links.lists c.args.list) c.in_ok-key.key (sym c.in-None.ensures.key)
    first
    (c.in-None-after.ensures c.args.list Old [] (keys_behind (keys_at c.self.inside.links.lists c.args.list Old))
    low (first_is (keys_at c.self.inside.links.lists c.args.list Old) c.in_ok-key.key first)))

pub returns-clause-below : goal.returns-clause-below
returns-clause-below c =
    subst (λ (v : Rotas). c.in_ok-key.key < length v.deficits) c.self.view_is
    (omega (
      arith,
      taken_below c.self.inside.links c.args.list Old c.in_ok-key.key c.first.ensures.disjoint
          (sym c.in_ok-key.ensures.key),
      c.self.invariant.keys,
    ))
