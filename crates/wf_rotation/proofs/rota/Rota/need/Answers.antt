-- The deficit and the quantum that are read belong to the key, so its need is the definition's.
use Rattle.std.proofs.Common.{◌≡◌, ◌∙◌, ◌<◌, ◌-◌, ◌^◌, length, ap, sym, subst, arith}
use Rattle.std.specs.Prelude.{pos, negsuc, ◌≤ℤ◌, ◌<ℤ◌}
use mir.Val.{to_z, of_z}
use mir.Syntax.{w64}
use Rattle.std.proofs.lemmas.Int.{ints}
use Rattle.std.proofs.lemmas.List.{get_or_default}
use Rattle.wf_rotation.specs.Rotas.{Rotas, deficit_at, quantum_at, need_at}
use Rattle.wf_rotation.proofs.rota.Rota.need.Goals as goal

pub returns-clause-need : goal.returns-clause-need
returns-clause-need c =
    let within : c.args.key < length c.self.inside.deficits.items =
    subst (λ (v : Rotas). c.args.key < length v.deficits) (sym c.self.view_is) c.requires in
    let deficit : c.index.result.now ≡ deficit_at c.self.inside.deficits.items c.args.key =
    c.index.ensures ∙ get_or_default c.self.inside.deficits.items c.args.key _ (pos 0) within in
    let quantum : c.index-2.result.now ≡ quantum_at c.self.inside.quanta.items c.args.key =
    c.index-2.ensures ∙ get_or_default c.self.inside.quanta.items c.args.key _ 1
    (omega (arith, c.self.invariant.quanta_keys)) in
    let low : negsuc (2 ^ 62 - 1) ≤ℤ c.index.result.now = rw deficit (c.self.invariant.low c.args.key) in
    let high : c.index.result.now <ℤ pos (2 ^ 32) = rw deficit (c.self.invariant.high c.args.key) in
    let plain : to_z w64 (of_z w64 c.index.result.now) ≡ c.index.result.now = omega (arith, ints) in
    (rw (plain, deficit, quantum) at c.need_of.ensures.need)
    ∙ ap (λ (v : Rotas). need_at v c.args.key) c.self.view_is
