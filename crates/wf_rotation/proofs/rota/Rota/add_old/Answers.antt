-- The key's home is the old list on which it is put last; every other home stays right.
use Rattle.std.proofs.Common.{◌<◌, length, set, Some, sym, subst}
use Rattle.wf_rotation.specs.Lists.{AllLists}
use Rattle.wf_rotation.specs.Rotas.{Rotas, IsUnlisted}
use Rattle.wf_rotation.specs.Homes.{AreKept}
use Rattle.wf_rotation.specs.declared.side.Side.TheVariants.{Old}
use Rattle.wf_rotation.proofs.HasLemmas.{is_off}
use Rattle.wf_rotation.proofs.HomeLemmas.{kept_put}
use Rattle.wf_rotation.proofs.rota.Rota.add_old.Goals as goal

pub put_last-requires-clause-unlisted : goal.put_last-requires-clause-unlisted
put_last-requires-clause-unlisted c = is_off c.self.inside.links.lists c.args.key
    (subst (λ (v : Rotas). IsUnlisted v.lists c.args.key) (sym c.self.view_is) c.requires.unlisted)

pub invariant_of-self : goal.invariant_of-self
invariant_of-self c = subst (λ (q : AllLists).
    AreKept q (set c.self.inside.homes.items c.args.key
    (Some (record { list = c.args.list; side = Old }))) c.self.inside.deficits.items
    c.self.inside.quanta.items) (sym c.put_last.ensures)
    (kept_put _ _ _ _ c.self.invariant c.args.list Old c.args.key
    (subst (λ (v : Rotas). c.args.list < length v.lists) (sym c.self.view_is) c.requires.in_lists))
