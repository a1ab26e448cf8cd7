-- The deficit stays above the lower bound by the `requires`, and below the upper bound since it falls.
use Rattle.std.proofs.Common.{◌≡◌, ◌∙◌, ◌-◌, ◌^◌, ◌<◌, length, ap, sym, subst, arith}
use Rattle.std.specs.Prelude.{pos, negsuc, ◌-ℤ◌, ◌≤ℤ◌, ◌<ℤ◌}
use Rattle.std.proofs.lemmas.Int.{ints}
use Rattle.std.proofs.lemmas.List.{get_or_default}
use Rattle.wf_rotation.specs.Rotas.{Rotas, deficit_at}
use Rattle.wf_rotation.proofs.HomeLemmas.{kept_deficit}
use Rattle.wf_rotation.proofs.rota.Rota.charge.Goals as goal

pub invariant_of-self : goal.invariant_of-self
invariant_of-self c =
    let same : c.index_mut.result.now ≡ deficit_at c.args.self.now.deficits c.args.key =
    c.index_mut.ensures.value ∙ get_or_default c.self.inside.deficits.items c.args.key _ (pos 0)
    (subst (λ (v : Rotas). c.args.key < length v.deficits) (sym c.self.view_is) c.requires.in_keys)
    ∙ ap (λ (v : Rotas). deficit_at v.deficits c.args.key) c.self.view_is in
    let high : deficit_at c.args.self.now.deficits c.args.key <ℤ pos (2 ^ 32) =
    subst (λ (v : Rotas). deficit_at v.deficits c.args.key <ℤ pos (2 ^ 32)) c.self.view_is
    (c.self.invariant.high c.args.key) in
    let low : negsuc (2 ^ 62 - 1) ≤ℤ (deficit_at c.args.self.now.deficits c.args.key -ℤ pos c.args.amount) =
    c.requires.low in
    let amount : c.from.result ≡ pos c.args.amount = c.from.ensures in
    kept_deficit _ _ _ _ c.self.invariant c.args.key _ (rw (same, amount) (omega (arith, ints)))
    (rw (same, amount) (omega (arith, ints)))
