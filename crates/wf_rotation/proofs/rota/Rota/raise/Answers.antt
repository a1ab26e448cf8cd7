-- The deficit that is written is within the bounds, so the invariant holds.
use Rattle.std.proofs.Common.{◌≡◌, ◌∙◌, ◌<◌, ◌-◌, ◌^◌, length, sym, subst, arith}
use Rattle.std.specs.Prelude.{pos, negsuc, ◌≤ℤ◌, ◌<ℤ◌}
use mir.Val.{to_z, of_z}
use mir.Syntax.{w64}
use Rattle.std.proofs.lemmas.Int.{ints}
use Rattle.std.proofs.lemmas.List.{get_or_default}
use Rattle.wf_rotation.specs.Rotas.{Rotas, deficit_at}
use Rattle.wf_rotation.proofs.HomeLemmas.{kept_deficit}
use Rattle.wf_rotation.proofs.rota.Rota.raise.Goals as goal

pub invariant_of-self : goal.invariant_of-self
invariant_of-self c =
    let same : c.index.result.now ≡ deficit_at c.self.inside.deficits.items c.args.key =
    c.index.ensures ∙ get_or_default c.self.inside.deficits.items c.args.key _ (pos 0)
    (subst (λ (v : Rotas). c.args.key < length v.deficits) (sym c.self.view_is) c.requires) in
    let low : negsuc (2 ^ 62 - 1) ≤ℤ c.index.result.now = rw same (c.self.invariant.low c.args.key) in
    let high : c.index.result.now <ℤ pos (2 ^ 32) = rw same (c.self.invariant.high c.args.key) in
    let plain : to_z w64 (of_z w64 c.index.result.now) ≡ c.index.result.now = omega (arith, ints) in
    let above : c.index.result.now ≤ℤ c.raised.result = rw plain at c.raised.ensures.low in
    let below : c.raised.result <ℤ pos (2 ^ 32) = c.raised.ensures.high in
    let kept : to_z w64 (of_z w64 c.raised.result) ≡ c.raised.result = omega (arith, ints) in
    rw kept (kept_deficit _ _ _ _ c.self.invariant c.args.key c.raised.result (omega (arith, ints)) below)
