-- The call leads to the world of the definition, which satisfies the invariant.
use Rattle.std.proofs.Common.{◌≡◌, ℕ, ◌+◌, true, List, ◌++◌, take, drop, length, map, Option, get_or, set, refl, ◌∙◌, ap, ap₂, sym, subst}
use Rattle.std.proofs.lemmas.List.{length-set}
use Rattle.wf_uplink.specs.Reordering.{Reordering, ReorderingOutcome, unopened, arrived, waits_since_of}
use Rattle.wf_uplink.specs.Shown.{item_of}
use Rattle.wf_uplink.specs.Soundness.{IsSound, IsWatched, world_of, worth_of}
use Rattle.wf_uplink.specs.World.{World, is_open, place_of, reordering_at, arrival_outcome, arrived_at}
use Rattle.wf_uplink.proofs.Heard.{heard, back_whole, byte_is}
use Rattle.wf_uplink.proofs.uplink.Uplink.arrive.Goals as goal
use Rattle.wf_uplink.proofs.uplink.Uplink.arrive.Goals.{After-self-5-1}

-- the world after the frame is counted
abbrev counted : After-self-5-1 → World
counted c =
    let u = c.self.inside in
    let new = c.arrive_at-old.new.sequencers in
    world_of u.clock u.rates.items (take u.sequencers.len (new ++ drop (length new) u.sequencers.items))
    u.sides.items
    (u.frames + 1) (u.up + c.counts-released.result.0) (u.back + c.from.result)
    (u.missing + c.counts-released.result.1)

-- it is the world after the arrival, and satisfies the invariant
record HasArrived (c : After-self-5-1) : Type 0 where
  sound : IsSound (counted c)
  watched : IsWatched (counted c) c.set.new.self
  after : counted c ≡ arrived_at (place_of c.args.heard.now.station c.args.heard.now.tid) c.args.heard.now.seq
      c.args.self.now

has_arrived : (c : After-self-5-1) → HasArrived c
has_arrived c =
    let u = c.self.inside in
    let w : World =
    world_of u.clock u.rates.items u.sequencers.items u.sides.items u.frames u.up u.back u.missing in
    let h = c.args.heard.now in
    let place : ℕ = place_of h.station h.tid in
    let live : is_open w h.station ≡ true =
    ap (λ (v : World). is_open v h.station) c.self.view_is ∙ c.requires.live in
    let q : get_or c.deref_mut.result.now c.place_of-place.result unopened ≡ reordering_at w place =
    ap₂ (λ (rs : List Reordering) n. get_or rs n unopened) c.deref_mut.ensures.value c.place_of-place.ensures
    in
    let o : ReorderingOutcome = arrival_outcome place h.seq w in
    let told = c.arrive_at-old.ensures in
    let new_is : c.arrive_at-old.new.sequencers ≡ set u.sequencers.items place o.after =
    told.after ∙ ap₂ (λ (rs : List Reordering) n.
    set rs n (arrived h.seq u.frames u.clock (get_or c.deref_mut.result.now c.place_of-place.result
    unopened)).after) c.deref_mut.ensures.value c.place_of-place.ensures
    ∙ ap (λ (r : Reordering). set u.sequencers.items place (arrived h.seq u.frames u.clock r).after) q in
    let size = ap length new_is ∙ length-set u.sequencers.items place o.after in
    let list_is = back_whole u.sequencers.len c.arrive_at-old.new.sequencers u.sequencers.items size
    u.sequencers.ok.0 ∙ new_is in
    let k = heard h.station h.tid h.seq w o.after c.arrive_at-old.new.items c.arrive_at-old.result.0
    c.counts-released.result.0 c.from.result c.counts-released.result.1 u.waits c.set.new.self
    live c.requires.tid c.self.invariant.0 c.self.invariant.1 refl
    (told.items ∙ ap (λ (r : Reordering). map item_of (arrived h.seq u.frames u.clock r).passed) q)
    (told.old ∙ ap (λ (r : Reordering). (arrived h.seq u.frames u.clock r).old) q)
    c.counts-released.ensures.frames c.counts-released.ensures.missing
    (c.from.ensures ∙ byte_is c.arrive_at-old.result.0)
    (c.set.ensures ∙ ap₂ (λ n (since : Option ℕ). set u.waits n (worth_of since)) c.place_of-place.ensures
    (told.since ∙ ap (λ (r : Reordering). waits_since_of (arrived h.seq u.frames u.clock r).after) q)) in
    let whole = ap (λ (rs : List Reordering). world_of u.clock u.rates.items rs u.sides.items (u.frames + 1)
    (u.up + c.counts-released.result.0) (u.back + c.from.result) (u.missing + c.counts-released.result.1))
    list_is in
    record {
      sound = subst IsSound (sym whole) k.sound;
      watched = subst (λ (v : World). IsWatched v c.set.new.self) (sym whole) k.watched;
      after = whole ∙ k.world ∙ ap (arrived_at place h.seq) c.self.view_is;
    }

pub invariant_of-self : goal.invariant_of-self
invariant_of-self c = ((has_arrived c).sound, (has_arrived c).watched)

pub returns-clause-after : goal.returns-clause-after
returns-clause-after c = (has_arrived c).after
