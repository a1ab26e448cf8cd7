-- The place that the tournament tree finds is the first that is due; its timeout is the one of the
-- definition.
use Rattle.std.proofs.Common.{◌≡◌, ℕ, ◌+◌, ◌/◌, ◌%◌, false, List, length, map, Option, Some, is_some, get_or, set, refl, ◌∙◌, ap, ap₂, sym, subst, arith}
use Rattle.std.specs.Prelude.{IfSome}
use Rattle.std.proofs.lemmas.List.{length-set}
use Rattle.wf_uplink.specs.declared.items.UpItem.{UpItem}
use Rattle.wf_uplink.specs.declared.up.Up.{Up}
use Rattle.wf_uplink.specs.Reordering.{Reordering, ReorderingOutcome, unopened, timed_out, waits_since_of}
use Rattle.wf_uplink.specs.Shown.{item_of, up_of}
use Rattle.wf_uplink.specs.Soundness.{IsSound, IsWatched, world_of, worth_of}
use Rattle.wf_uplink.specs.World.{World, Expire, reordering_at, first_due, timeout_of, after_call}
use Rattle.wf_uplink.proofs.Watching.{none_due, found_due}
use Rattle.wf_uplink.proofs.Heard.{timed, no_more_frames, due_after, none_after, back_whole}
use Rattle.wf_uplink.proofs.uplink.Uplink.expired.Goals as goal

pub returns-in-None-clause-due : goal.returns-in-None-clause-due
returns-in-None-clause-due c =
    sym (ap (λ (w : World). is_some (first_due w)) (sym c.self.view_is)
    ∙ ap is_some (none_due _ c.self.inside.waits c.self.invariant.1 c.in-None.ensures.none))

pub returns-in-None-clause-after : goal.returns-in-None-clause-after
returns-in-None-clause-after c =
    none_after c.args.self.now (ap first_due (sym c.self.view_is)
    ∙ none_due _ c.self.inside.waits c.self.invariant.1 c.in-None.ensures.none)

pub returns-in-None-clause-up : goal.returns-in-None-clause-up
returns-in-None-clause-up c =
    subst (λ (o : Option ℕ). IfSome o (λ place. c.args.up.now ≡ up_of (timeout_of place c.args.self.now)))
    (sym (ap first_due (sym c.self.view_is) ∙ none_due _ c.self.inside.waits c.self.invariant.1
    c.in-None.ensures.none)) tt

pub invariant_of-self : goal.invariant_of-self
invariant_of-self c =
    let u = c.self.inside in
    let w : World =
    world_of u.clock u.rates.items u.sequencers.items u.sides.items u.frames u.up u.back u.missing in
    let place = c.in-Some.place in
    let due : first_due w ≡ Some place = found_due w u.waits place c.self.invariant.1 c.in-Some.ensures.some
    in
    let o : ReorderingOutcome = timed_out u.clock (reordering_at w place) in
    let told = c.time_out_at-since.ensures in
    let q : get_or c.deref_mut.result.now place unopened ≡ reordering_at w place =
    ap (λ (rs : List Reordering). get_or rs place unopened) c.deref_mut.ensures.value in
    let new_is : c.time_out_at-since.new.sequencers ≡ set u.sequencers.items place o.after =
    told.after ∙ ap₂ (λ (rs : List Reordering) (r : Reordering). set rs place (timed_out u.clock r).after)
    c.deref_mut.ensures.value q in
    let size = ap length new_is ∙ length-set u.sequencers.items place o.after in
    let list_is = back_whole u.sequencers.len c.time_out_at-since.new.sequencers u.sequencers.items size
    u.sequencers.ok.0 ∙ new_is in
    let k = timed place w o.after c.time_out_at-since.new.items c.counts-released.result.0
    c.counts-released.result.1 u.waits c.set.new.self due c.self.invariant.0 c.self.invariant.1 refl
    (told.items ∙ ap (λ (r : Reordering). map item_of (timed_out u.clock r).passed) q)
    c.counts-released.ensures.frames c.counts-released.ensures.missing
    (c.set.ensures ∙ ap (λ (since : Option ℕ). set u.waits place (worth_of since))
    (told.since ∙ ap (λ (r : Reordering). waits_since_of (timed_out u.clock r).after) q)) in
    let same_frames : u.frames ≡ u.frames + 0 = omega arith in
    let same_back : u.back ≡ u.back + 0 = omega arith in
    let whole = ap (λ (rs : List Reordering). world_of u.clock u.rates.items rs u.sides.items u.frames
    (u.up + c.counts-released.result.0) u.back (u.missing + c.counts-released.result.1)) list_is
    ∙ ap₂ (λ n m. world_of u.clock u.rates.items (set u.sequencers.items place o.after) u.sides.items n
    (u.up + c.counts-released.result.0) m (u.missing + c.counts-released.result.1)) same_frames same_back
    in (
      subst IsSound (sym whole) k.sound,
      subst (λ (v : World). IsWatched v c.set.new.self)
          (sym whole) k.watched,
    )

pub returns-clause-due : goal.returns-clause-due
returns-clause-due c =
    let u = c.self.inside in
    let w : World =
    world_of u.clock u.rates.items u.sequencers.items u.sides.items u.frames u.up u.back u.missing in
    let place = c.in-Some.place in
    let due : first_due w ≡ Some place = found_due w u.waits place c.self.invariant.1 c.in-Some.ensures.some
    in
    sym (ap (λ (v : World). is_some (first_due v)) (sym c.self.view_is) ∙ ap is_some due)

pub returns-clause-after : goal.returns-clause-after
returns-clause-after c =
    let u = c.self.inside in
    let w : World =
    world_of u.clock u.rates.items u.sequencers.items u.sides.items u.frames u.up u.back u.missing in
    let place = c.in-Some.place in
    let due : first_due w ≡ Some place = found_due w u.waits place c.self.invariant.1 c.in-Some.ensures.some
    in
    let o : ReorderingOutcome = timed_out u.clock (reordering_at w place) in
    let told = c.time_out_at-since.ensures in
    let q : get_or c.deref_mut.result.now place unopened ≡ reordering_at w place =
    ap (λ (rs : List Reordering). get_or rs place unopened) c.deref_mut.ensures.value in
    let new_is : c.time_out_at-since.new.sequencers ≡ set u.sequencers.items place o.after =
    told.after ∙ ap₂ (λ (rs : List Reordering) (r : Reordering). set rs place (timed_out u.clock r).after)
    c.deref_mut.ensures.value q in
    let size = ap length new_is ∙ length-set u.sequencers.items place o.after in
    let list_is = back_whole u.sequencers.len c.time_out_at-since.new.sequencers u.sequencers.items size
    u.sequencers.ok.0 ∙ new_is in
    let k = timed place w o.after c.time_out_at-since.new.items c.counts-released.result.0
    c.counts-released.result.1 u.waits c.set.new.self due c.self.invariant.0 c.self.invariant.1 refl
    (told.items ∙ ap (λ (r : Reordering). map item_of (timed_out u.clock r).passed) q)
    c.counts-released.ensures.frames c.counts-released.ensures.missing
    (c.set.ensures ∙ ap (λ (since : Option ℕ). set u.waits place (worth_of since))
    (told.since ∙ ap (λ (r : Reordering). waits_since_of (timed_out u.clock r).after) q)) in
    let same_frames : u.frames ≡ u.frames + 0 = omega arith in
    let same_back : u.back ≡ u.back + 0 = omega arith in
    let whole = ap (λ (rs : List Reordering). world_of u.clock u.rates.items rs u.sides.items u.frames
    (u.up + c.counts-released.result.0) u.back (u.missing + c.counts-released.result.1)) list_is
    ∙ ap₂ (λ n m. world_of u.clock u.rates.items (set u.sequencers.items place o.after) u.sides.items n
    (u.up + c.counts-released.result.0) m (u.missing + c.counts-released.result.1)) same_frames same_back
    in
    whole ∙ k.world ∙ no_more_frames w place ∙ due_after w place due ∙ ap (after_call Expire) c.self.view_is

pub returns-clause-unchanged : goal.returns-clause-unchanged
returns-clause-unchanged c =
    let u = c.self.inside in
    let w : World =
    world_of u.clock u.rates.items u.sequencers.items u.sides.items u.frames u.up u.back u.missing in
    let place = c.in-Some.place in
    let due : first_due w ≡ Some place = found_due w u.waits place c.self.invariant.1 c.in-Some.ensures.some
    in
    λ none. absurd (let same = ap first_due c.self.view_is in grind (arith, due, same, none))

shown : ℕ → ℕ → List UpItem → Up
shown station tid items =
    record { station = station; tid = tid; air = 0; old = false; ack = false; items = items }

pub returns-clause-up : goal.returns-clause-up
unfolding shown
returns-clause-up c =
    let u = c.self.inside in
    let w : World =
    world_of u.clock u.rates.items u.sequencers.items u.sides.items u.frames u.up u.back u.missing in
    let place = c.in-Some.place in
    let due : first_due w ≡ Some place = found_due w u.waits place c.self.invariant.1 c.in-Some.ensures.some
    in
    let told = c.time_out_at-since.ensures in
    let q : get_or c.deref_mut.result.now place unopened ≡ reordering_at w place =
    ap (λ (rs : List Reordering). get_or rs place unopened) c.deref_mut.ensures.value in
    subst (λ (o : Option ℕ). IfSome o (λ p. shown (place / 8) (place % 8) c.time_out_at-since.new.items
    ≡ up_of (timeout_of p c.args.self.now))) (sym (ap first_due (sym c.self.view_is) ∙ due))
    (ap (shown (place / 8) (place % 8)) (told.items
    ∙ ap (λ (r : Reordering). map item_of (timed_out u.clock r).passed) q)
    ∙ ap (λ (v : World). up_of (timeout_of place v)) c.self.view_is)
