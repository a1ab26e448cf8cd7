-- The old list has the same keys in another order, so every home stays right.
use Rattle.std.proofs.Common.{◌≡◌, ◌∙◌, ◌<◌, ℕ, List, [], ◌∷◌, ◌++◌, length, ap, sym, subst, arith}
use Rattle.wf_def_lists.specs.Lists.{on}
use Rattle.wf_rotation.specs.Lists.{AllLists, keys_at}
use Rattle.wf_rotation.specs.Rotas.{Rotas}
use Rattle.wf_rotation.specs.Homes.{AreKept}
use Rattle.wf_rotation.specs.declared.side.Side.TheVariants.{Old}
use Rattle.wf_law_rules.proofs.Lemmas.Counts.{on-first, on-append}
use Rattle.wf_rotation.proofs.HomeLemmas.{kept_visited}
use Rattle.wf_rotation.proofs.rota.Rota.rotate_old.Goals as goal

pub invariant_of-self : goal.invariant_of-self
invariant_of-self c =
    let ys : List ℕ = c.requires.follows.0 in
    let zs : List ℕ = c.requires.follows.1 in
    let follows : keys_at c.self.inside.links.lists c.args.list Old ≡ c.requires.follows.0 ++ c.args.before
    ∷ (c.args.key ∷ c.requires.follows.1) = ap
    (λ (v : Rotas). keys_at v.lists c.args.list Old) c.self.view_is ∙ c.requires.follows.2 in
    subst (λ (q : AllLists). AreKept q c.self.inside.homes.items c.self.inside.deficits.items
    c.self.inside.quanta.items) (sym (c.rotate.ensures c.requires.follows.0 c.requires.follows.1 follows))
    (kept_visited _ _ _ _ c.self.invariant c.args.list
    (c.args.key ∷ (c.requires.follows.1 ++ (c.requires.follows.0 ++ c.args.before ∷ [])))
    (subst (λ (v : Rotas). c.args.list < length v.lists) (sym c.self.view_is) c.requires.in_lists)
    (λ k. omega (
      arith,
      ap (λ (xs : List ℕ). on xs k) follows,
      on-append c.requires.follows.0 (c.args.before ∷ (c.args.key ∷ c.requires.follows.1)) k,
      on-first c.args.before k (c.args.key ∷ c.requires.follows.1),
      on-first c.args.key k c.requires.follows.1,
      on-first c.args.key k (c.requires.follows.1 ++ (c.requires.follows.0 ++ c.args.before ∷ [])),
      on-append c.requires.follows.1 (c.requires.follows.0 ++ c.args.before ∷ []) k,
      on-append c.requires.follows.0 (c.args.before ∷ []) k,
    )))
