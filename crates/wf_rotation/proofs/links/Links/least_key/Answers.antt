-- The least of the keys before the next one stays the least, and one key more is before it in each iteration.
use Rattle.std.proofs.Common.{◌≡◌, ◌∙◌, ◌+◌, ◌≤◌, ℕ, List, take, drop, ap, sym, subst, arith}
use Rattle.wf_def_lists.specs.Lists.{on}
use Rattle.wf_rotation.specs.Lists.{AllLists, AreDisjoint, lists_at, keys_at, first_of, IsLeast}
use Rattle.wf_rotation.specs.declared.side.Side.{Side}
use Rattle.wf_rotation.proofs.BackLemmas.{side_on}
use Rattle.wf_rotation.proofs.ScanLemmas.{step_at, end_at, key_below}
use Rattle.wf_rotation.proofs.LowestLemmas.{place_of, place_of-first, least_none, least_more}
use Rattle.wf_rotation.proofs.links.Links.least_key.Goals as goal
use Rattle.wf_rotation.proofs.links.Links.least_key.Goals.{After-after-next}

once : (q : AllLists) (list : ℕ) (side : Side) → AreDisjoint q → (key : ℕ) →
    on (keys_at q.lists list side) key ≤ 1
once q list side apart key = omega (arith, side_on (lists_at q.lists list) side key, apart.once list key)

pub loop-next-init : goal.loop-next-init
loop-next-init c =
    let ks : List ℕ = keys_at c.args.self.now.lists c.args.list c.args.side in
    let none : place_of ks c.first-next.result ≡ 0 = ap (place_of ks) c.first-next.ensures.key
    ∙ place_of-first ks 0
    (once c.args.self.now c.args.list c.args.side c.first-next.ensures.disjoint) (omega arith) in
    record {
      within = omega (arith, none);
      at = c.first-next.ensures.key ∙ ap (λ (n : ℕ). first_of (drop n ks)) (sym none);
      least = subst (λ (n : ℕ). IsLeast c.args.number (take n ks) c.args.number) (sym none)
          (least_none c.args.number);
    }

pub after-next-requires : goal.after-next-requires
after-next-requires c =
    let step = step_at (keys_at c.args.self.now.lists c.args.list c.args.side) _ c.in-Some.key
    (sym c.loop-next.invariant.at ∙ c.in-Some.is) in
    key_below c.args.self.now c.args.list c.in-Some.key c.args.side c.first-next.ensures.disjoint step.stands

-- the key after this one is the first of the rest, and one key more is before it
next_is : (c : After-after-next) →
    let ks : List ℕ = keys_at c.args.self.now.lists c.args.list c.args.side in
    (c.after-next.result ≡ first_of (drop (place_of ks c.loop-next.next + 1) ks))
    × (place_of ks c.after-next.result ≡ place_of ks c.loop-next.next + 1)
next_is c =
    let ks : List ℕ = keys_at c.args.self.now.lists c.args.list c.args.side in
    let place : ℕ = place_of ks c.loop-next.next in
    let step = step_at ks place c.in-Some.key (sym c.loop-next.invariant.at ∙ c.in-Some.is) in
    let after : c.after-next.result ≡ first_of (drop (place + 1) ks) =
    c.after-next.ensures c.args.list c.args.side (take place ks) (drop (place + 1) ks) c.requires.in_lists
    step.split in (
      after,
      ap (place_of ks) after ∙ place_of-first ks (place + 1)
          (once c.args.self.now c.args.list c.args.side c.first-next.ensures.disjoint)
          (omega (arith, step.low)),
    )

pub loop-next-preserved : goal.loop-next-preserved
loop-next-preserved c =
    let ks : List ℕ = keys_at c.args.self.now.lists c.args.list c.args.side in
    let place : ℕ = place_of ks c.loop-next.next in
    let step = step_at ks place c.in-Some.key (sym c.loop-next.invariant.at ∙ c.in-Some.is) in
    let next = next_is c in
    record {
      within = omega (arith, step.low, next.1);
      at = next.0 ∙ ap (λ (n : ℕ). first_of (drop n ks)) (sym next.1);
      least = subst (λ (n : ℕ). IsLeast c.args.number (take n ks) c.min-least.result) (sym next.1)
          (rw (step.more, c.min-least.ensures) (least_more c.args.number c.loop-next.least c.in-Some.key
          (take place ks) c.loop-next.invariant.least));
    }

pub loop-next-smaller : goal.loop-next-smaller
loop-next-smaller c =
    let ks : List ℕ = keys_at c.args.self.now.lists c.args.list c.args.side in
    let step = step_at ks (place_of ks c.loop-next.next) c.in-Some.key
    (sym c.loop-next.invariant.at ∙ c.in-Some.is) in
    omega (arith, step.low, (next_is c).1)

pub returns-clause-least : goal.returns-clause-least
returns-clause-least c = subst (λ (ks : List ℕ). IsLeast c.args.number ks c.loop-next.least)
    (end_at (keys_at c.args.self.now.lists c.args.list c.args.side) _
    (sym c.loop-next.invariant.at ∙ c.in_default.is) c.loop-next.invariant.within).1
    c.loop-next.invariant.least
