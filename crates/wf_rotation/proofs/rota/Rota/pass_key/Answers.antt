-- The first key gets its share, by the definition of a share at its place.
use Rattle.std.proofs.Common.{◌<◌, sym, ◌∙◌, subst, length, arith}
use Rattle.wf_rotation.specs.Rotas.{Rotas}
use Rattle.wf_rotation.proofs.ListsLemmas.{taken_below}
use Rattle.wf_rotation.proofs.rota.Rota.pass_key.Goals as goal
use Rattle.wf_rotation.proofs.rota.Rota.pass_key.Goals.{In-Some}

key_below : (c : In-Some) → c.in-Some.key < length c.args.self.now.deficits
key_below c =
    let below : c.in-Some.key < c.self.inside.links.keys = taken_below _ c.args.list c.args.side c.in-Some.key
    c.first.ensures.disjoint (sym c.first.ensures.key ∙ c.in-Some.is) in
    subst (λ (v : Rotas). c.in-Some.key < length v.deficits) c.self.view_is
    (omega (arith, c.self.invariant.keys))

pub need-need-requires : goal.need-need-requires
need-need-requires c = key_below c

pub bounds-ready-key : goal.bounds-ready-key
bounds-ready-key c =
    omega (arith, c.requires.ready, key_below (goal.at.bounds-ready-key c).In-Some)
