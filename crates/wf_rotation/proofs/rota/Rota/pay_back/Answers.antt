-- The deficit stays below the upper bound by the `requires`, and above the lower bound since it rises.
use Rattle.std.proofs.Common.{◌≡◌, ◌∙◌, ◌-◌, ◌^◌, ◌<◌, length, ap, sym, subst, arith}
use Rattle.std.specs.Prelude.{pos, negsuc, ◌+ℤ◌, ◌≤ℤ◌}
use Rattle.std.proofs.lemmas.Int.{ints}
use Rattle.std.proofs.lemmas.List.{get_or_default}
use Rattle.wf_rotation.specs.Rotas.{Rotas, deficit_at}
use Rattle.wf_rotation.proofs.HomeLemmas.{kept_deficit}
use Rattle.wf_rotation.proofs.rota.Rota.pay_back.Goals as goal

pub invariant_of-self : goal.invariant_of-self
invariant_of-self c =
    let same : c.index_mut.result.now ≡ deficit_at c.args.self.now.deficits c.args.key =
    c.index_mut.ensures.value ∙ get_or_default c.self.inside.deficits.items c.args.key _ (pos 0)
    (subst (λ (v : Rotas). c.args.key < length v.deficits) (sym c.self.view_is) c.requires.in_keys)
    ∙ ap (λ (v : Rotas). deficit_at v.deficits c.args.key) c.self.view_is in
    let low : negsuc (2 ^ 62 - 1) ≤ℤ deficit_at c.args.self.now.deficits c.args.key =
    subst (λ (v : Rotas). negsuc (2 ^ 62 - 1) ≤ℤ deficit_at v.deficits c.args.key) c.self.view_is
    (c.self.invariant.low c.args.key) in
    let high : (deficit_at c.args.self.now.deficits c.args.key +ℤ pos c.args.amount) ≤ℤ pos (2 ^ 32 - 1) =
    c.requires.high in
    let amount : c.from.result ≡ pos c.args.amount = c.from.ensures in
    kept_deficit _ _ _ _ c.self.invariant c.args.key _ (rw (same, amount) (omega (arith, ints)))
    (rw (same, amount) (omega (arith, ints)))
