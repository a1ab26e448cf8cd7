-- The key's home is the one list that has it; without the key on that list, no list has it.
use Rattle.std.proofs.Common.{◌≡◌, ◌∙◌, ◌<◌, List, Some, None, map, length, set, ap, sym, subst, arith}
use Rattle.std.proofs.lemmas.List.{get_or_default}
use Rattle.wf_def_rotation.specs.Rotation.{Rotation, without_key}
use Rattle.wf_rotation.specs.Lists.{AllLists}
use Rattle.wf_rotation.specs.Rotas.{Rotas}
use Rattle.wf_rotation.specs.Homes.{IsHome, home_at, AreKept}
use Rattle.wf_rotation.proofs.RemoveLemmas.{all_off, all_without, kept_removed}
use Rattle.wf_rotation.proofs.rota.Rota.remove.Goals as goal

pub invariant_of-self : goal.invariant_of-self
invariant_of-self c =
    let within : c.args.key < length c.self.inside.deficits.items =
    subst (λ (v : Rotas). c.args.key < length v.deficits) (sym c.self.view_is) c.requires in
    let home : home_at c.self.inside.homes.items c.args.key ≡ Some c.in-Some.home =
    get_or_default c.self.inside.homes.items c.args.key None c.index.result.now
    (omega (arith, c.self.invariant.homes_keys)) ∙ sym c.index.ensures ∙ c.in-Some.is in
    let stands : IsHome c.self.inside.links.lists c.args.key (Some c.in-Some.home) =
    subst (IsHome c.self.inside.links.lists c.args.key) home
    (c.self.invariant.at_home c.args.key within) in
    subst (λ (q : AllLists). AreKept q (set c.self.inside.homes.items c.args.key None)
    c.self.inside.deficits.items c.self.inside.quanta.items) (sym c.remove.ensures.removed)
    (kept_removed _ _ _ _ c.self.invariant c.in-Some.home.list c.in-Some.home.side c.args.key
    c.remove.ensures.disjoint stands.0 stands.1)

pub returns-in-None : goal.returns-in-None
returns-in-None c =
    let within : c.args.key < length c.self.inside.deficits.items =
    subst (λ (v : Rotas). c.args.key < length v.deficits) (sym c.self.view_is) c.requires in
    let home : home_at c.self.inside.homes.items c.args.key ≡ None =
    get_or_default c.self.inside.homes.items c.args.key None c.index.result.now
    (omega (arith, c.self.invariant.homes_keys)) ∙ sym c.index.ensures ∙ c.in-None.is in
    let off : IsHome c.self.inside.links.lists c.args.key None =
    subst (IsHome c.self.inside.links.lists c.args.key) home
    (c.self.invariant.at_home c.args.key within) in
    sym c.self.view_is ∙ ap (λ (ls : List Rotation). let w : Rotas =
    record { lists = ls; deficits = c.self.inside.deficits.items; quanta = c.self.inside.quanta.items } in
    w) (all_off c.self.inside.links.lists c.args.key off)
    ∙ ap (λ (v : Rotas). let w : Rotas = record {
      lists = map (λ r. without_key r c.args.key) v.lists;
      deficits = v.deficits;
      quanta = v.quanta;
    } in w) c.self.view_is

pub returns-in-Some : goal.returns-in-Some
returns-in-Some c =
    let within : c.args.key < length c.self.inside.deficits.items =
    subst (λ (v : Rotas). c.args.key < length v.deficits) (sym c.self.view_is) c.requires in
    let home : home_at c.self.inside.homes.items c.args.key ≡ Some c.in-Some.home =
    get_or_default c.self.inside.homes.items c.args.key None c.index.result.now
    (omega (arith, c.self.invariant.homes_keys)) ∙ sym c.index.ensures ∙ c.in-Some.is in
    let stands : IsHome c.self.inside.links.lists c.args.key (Some c.in-Some.home) =
    subst (IsHome c.self.inside.links.lists c.args.key) home
    (c.self.invariant.at_home c.args.key within) in
    ap (λ (q : AllLists). let w : Rotas = record {
      lists = q.lists;
      deficits = c.self.inside.deficits.items;
      quanta = c.self.inside.quanta.items;
    } in w) c.remove.ensures.removed
    ∙ ap (λ (ls : List Rotation). let w : Rotas =
    record { lists = ls; deficits = c.self.inside.deficits.items; quanta = c.self.inside.quanta.items } in
    w) (all_without c.self.inside.links c.in-Some.home.list c.in-Some.home.side c.args.key
    c.remove.ensures.disjoint stands.0 stands.1)
    ∙ ap (λ (v : Rotas). let w : Rotas = record {
      lists = map (λ r. without_key r c.args.key) v.lists;
      deficits = v.deficits;
      quanta = v.quanta;
    } in w) c.self.view_is
