-- The call leads to the world of the definition, which satisfies the invariant.
use Rattle.std.proofs.Common.{◌≡◌, ℕ, ◌+◌, true, List, ◌++◌, take, drop, length, map, Option, get_or, set, refl, ◌∙◌, ap, ap₂, sym, subst, arith}
use Rattle.std.proofs.lemmas.List.{length-set}
use Rattle.wf_uplink.specs.Reordering.{Reordering, ReorderingOutcome, unopened, requested, waits_since_of}
use Rattle.wf_uplink.specs.Shown.{item_of}
use Rattle.wf_uplink.specs.Soundness.{IsSound, IsWatched, world_of, worth_of}
use Rattle.wf_uplink.specs.World.{World, is_open, place_of, reordering_at, asked_outcome, moved_at}
use Rattle.wf_uplink.proofs.Heard.{moved, no_frames, back_whole}
use Rattle.wf_uplink.proofs.uplink.Uplink.move_to.Goals as goal
use Rattle.wf_uplink.proofs.uplink.Uplink.move_to.Goals.{After-self-3-1}

-- the world after the window moved
abbrev shifted : After-self-3-1 → World
shifted c =
    let u = c.self.inside in
    let new = c.ask_at-since.new.sequencers in
    world_of u.clock u.rates.items (take u.sequencers.len (new ++ drop (length new) u.sequencers.items))
    u.sides.items u.frames (u.up + c.counts-released.result.0) u.back
    (u.missing + c.counts-released.result.1)

-- it is the world after the request, and satisfies the invariant
record HasMoved (c : After-self-3-1) : Type 0 where
  sound : IsSound (shifted c)
  watched : IsWatched (shifted c) c.set.new.self
  after : shifted c ≡ moved_at (place_of c.args.asked.now.station c.args.asked.now.tid) c.args.asked.now.start
      c.args.self.now

has_moved : (c : After-self-3-1) → HasMoved c
has_moved c =
    let u = c.self.inside in
    let w : World =
    world_of u.clock u.rates.items u.sequencers.items u.sides.items u.frames u.up u.back u.missing in
    let h = c.args.asked.now in
    let place : ℕ = place_of h.station h.tid in
    let live : is_open w h.station ≡ true =
    ap (λ (v : World). is_open v h.station) c.self.view_is ∙ c.requires.live in
    let q : get_or c.deref_mut.result.now c.place_of-place.result unopened ≡ reordering_at w place =
    ap₂ (λ (rs : List Reordering) n. get_or rs n unopened) c.deref_mut.ensures.value c.place_of-place.ensures
    in
    let o : ReorderingOutcome = asked_outcome place h.start w in
    let told = c.ask_at-since.ensures in
    let new_is : c.ask_at-since.new.sequencers ≡ set u.sequencers.items place o.after =
    told.after ∙ ap₂ (λ (rs : List Reordering) n.
    set rs n (requested h.start u.clock (get_or c.deref_mut.result.now c.place_of-place.result
    unopened)).after) c.deref_mut.ensures.value c.place_of-place.ensures
    ∙ ap (λ (r : Reordering). set u.sequencers.items place (requested h.start u.clock r).after) q in
    let size = ap length new_is ∙ length-set u.sequencers.items place o.after in
    let list_is = back_whole u.sequencers.len c.ask_at-since.new.sequencers u.sequencers.items size
    u.sequencers.ok.0 ∙ new_is in
    let k = moved h.station h.tid h.start w o.after c.ask_at-since.new.items
    c.counts-released.result.0 c.counts-released.result.1 u.waits c.set.new.self
    live c.requires.tid c.self.invariant.0 c.self.invariant.1 refl
    (told.items ∙ ap (λ (r : Reordering). map item_of (requested h.start u.clock r).passed) q)
    c.counts-released.ensures.frames c.counts-released.ensures.missing
    (c.set.ensures ∙ ap₂ (λ n (since : Option ℕ). set u.waits n (worth_of since)) c.place_of-place.ensures
    (told.since ∙ ap (λ (r : Reordering). waits_since_of (requested h.start u.clock r).after) q)) in
    let same_frames : u.frames ≡ u.frames + 0 = omega arith in
    let same_back : u.back ≡ u.back + 0 = omega arith in
    let whole = ap (λ (rs : List Reordering). world_of u.clock u.rates.items rs u.sides.items u.frames
    (u.up + c.counts-released.result.0) u.back (u.missing + c.counts-released.result.1)) list_is
    ∙ ap₂ (λ n m. world_of u.clock u.rates.items (set u.sequencers.items place o.after) u.sides.items n
    (u.up + c.counts-released.result.0) m (u.missing + c.counts-released.result.1)) same_frames same_back in
    record {
      sound = subst IsSound (sym whole) k.sound;
      watched = subst (λ (v : World). IsWatched v c.set.new.self) (sym whole) k.watched;
      after = whole ∙ k.world ∙ no_frames w place o ∙ ap (moved_at place h.start) c.self.view_is;
    }

pub invariant_of-self : goal.invariant_of-self
invariant_of-self c = ((has_moved c).sound, (has_moved c).watched)

pub returns-clause-after : goal.returns-clause-after
returns-clause-after c = (has_moved c).after
