-- The home of a key is the list that has it, by the invariant.
use Rattle.std.proofs.Common.{◌≡◌, ◌∙◌, ◌<◌, sym, subst, arith, length, None, Some, true}
use Rattle.std.proofs.lemmas.List.{get_or_default}
use Rattle.wf_rotation.specs.Lists.{keys_at, has_on}
use Rattle.wf_rotation.specs.Rotas.{Rotas, IsUnlisted}
use Rattle.wf_rotation.specs.Homes.{IsHome, home_at}
use Rattle.wf_law_rules.proofs.Lemmas.Counts.{on-has}
use Rattle.wf_rotation.proofs.HasLemmas.{is_unlisted}
use Rattle.wf_rotation.proofs.rota.Rota.where_is.Goals as goal

pub returns-in-None-clause-none : goal.returns-in-None-clause-none
returns-in-None-clause-none c =
    let within : c.args.key < length c.self.inside.deficits.items =
    subst (λ (v : Rotas). c.args.key < length v.deficits) (sym c.self.view_is) c.requires in
    let home : home_at c.self.inside.homes.items c.args.key ≡ None =
    get_or_default c.self.inside.homes.items c.args.key None c.index.result.now
    (omega (arith, c.self.invariant.homes_keys)) ∙ sym c.index.ensures ∙ c.in-None.is in
    subst (λ (v : Rotas). IsUnlisted v.lists c.args.key) c.self.view_is
    (is_unlisted c.self.inside.links.lists c.args.key
    (subst (IsHome c.self.inside.links.lists c.args.key) home
    (c.self.invariant.at_home c.args.key within)))

pub returns-in-Some-clause-some : goal.returns-in-Some-clause-some
returns-in-Some-clause-some c =
    let within : c.args.key < length c.self.inside.deficits.items =
    subst (λ (v : Rotas). c.args.key < length v.deficits) (sym c.self.view_is) c.requires in
    let home : home_at c.self.inside.homes.items c.args.key ≡ Some c.in-Some.home =
    get_or_default c.self.inside.homes.items c.args.key None c.index.result.now
    (omega (arith, c.self.invariant.homes_keys)) ∙ sym c.index.ensures ∙ c.in-Some.is in
    let stands : IsHome c.self.inside.links.lists c.args.key (Some c.in-Some.home) =
    subst (IsHome c.self.inside.links.lists c.args.key) home
    (c.self.invariant.at_home c.args.key within) in (
      subst (λ (v : Rotas). c.in-Some.home.list < length v.lists) c.self.view_is stands.0,
      subst (λ (v : Rotas). has_on v.lists c.in-Some.home.list c.in-Some.home.side c.args.key ≡ true)
          c.self.view_is (on-has (keys_at c.self.inside.links.lists c.in-Some.home.list c.in-Some.home.side)
          c.args.key stands.1),
    )
