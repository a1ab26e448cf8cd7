-- Proves what `Half::prepare` promises if no request is due: the empty aggregate has the limits of the
-- world's aggregate and is filled as in the world, its numbers fly, and its charge is the world's.
use Rattle.std.proofs.Common.{refl, ap, ◌∙◌, ℕ}
use Rattle.wf_def_world.specs.Exchanges.{Aggregate, aggregate_of, prepared_data}
use Rattle.wf_send_parts.specs.Window.{WindowValue}
use Rattle.wf_send_half.specs.Pulls.{bounds_in}
use Rattle.wf_send_half.proofs.CallSteps.{view_of}
use Rattle.wf_send_half.proofs.Filling.{begun}
use Rattle.wf_send_half.proofs.Flying.{quiet_now, to_fill, some_room, filled_off, filled_flies}
use Rattle.wf_send_half.proofs.half.Half.prepare.Goals as goal

pub fill-requires-clause-choosing : goal.fill-requires-clause-choosing
fill-requires-clause-choosing c =
    let s : ℕ = c.args.station in
    let t : ℕ = c.args.tid in
    let h = c.requires.due in
    let to = to_fill c.args.self.now s t (bounds_in c.args.bounds) h (quiet_now (view_of c.self.inside)
    c.args.self.now c.self.view_is
    c.at-window.result.now s t c.at-window.ensures c.bar_due.result c.bar_due.ensures.shown
    c.if-bar_due.false) in
    let begins = begun (view_of c.self.inside) c.args.self.now c.self.view_is s t (bounds_in c.args.bounds)
    c.member-2.result.now c.member-2.ensures c.size_limits-limits.result c.size_limits-limits.ensures.exact
    c.size-2.result (c.size-2.ensures.shown ∙ ap (λ (z : WindowValue). z.size) c.at.ensures)
    c.new-2.result c.new-2.ensures.made c.new.result c.new.ensures in
    record {
      world = h.world;
      bodies = h.bodies;
      to_fill = to;
      choosing = begins h.world h.bodies to h.bounds;
    }

pub charge_of-charge-requires-clause-some : goal.charge_of-charge-requires-clause-some
charge_of-charge-requires-clause-some c =
    let s : ℕ = c.args.station in
    let t : ℕ = c.args.tid in
    let h = c.requires.due in
    let to = to_fill c.args.self.now s t (bounds_in c.args.bounds) h (quiet_now (view_of c.self.inside)
    c.args.self.now c.self.view_is
    c.at-window.result.now s t c.at-window.ensures c.bar_due.result c.bar_due.ensures.shown
    c.if-bar_due.false) in
    let begins = begun (view_of c.self.inside) c.args.self.now c.self.view_is s t (bounds_in c.args.bounds)
    c.member-2.result.now c.member-2.ensures c.size_limits-limits.result c.size_limits-limits.ensures.exact
    c.size-2.result (c.size-2.ensures.shown ∙ ap (λ (z : WindowValue). z.size) c.at.ensures)
    c.new-2.result c.new-2.ensures.made c.new.result c.new.ensures in
    some_room c.fill.new.self h.bodies s t c.fill.new.aggregate.size
    c.fill.new.aggregate.numbers (aggregate_of h.world s t)
    (c.fill.ensures.filled h.world h.bodies to (begins h.world h.bodies to h.bounds)) (h.some to.quiet)

pub fly_all-requires-clause-off : goal.fly_all-requires-clause-off
fly_all-requires-clause-off c =
    let s : ℕ = c.args.station in
    let t : ℕ = c.args.tid in
    let h = c.requires.due in
    let to = to_fill c.args.self.now s t (bounds_in c.args.bounds) h (quiet_now (view_of c.self.inside)
    c.args.self.now c.self.view_is
    c.at-window.result.now s t c.at-window.ensures c.bar_due.result c.bar_due.ensures.shown
    c.if-bar_due.false) in
    let begins = begun (view_of c.self.inside) c.args.self.now c.self.view_is s t (bounds_in c.args.bounds)
    c.member-2.result.now c.member-2.ensures c.size_limits-limits.result c.size_limits-limits.ensures.exact
    c.size-2.result (c.size-2.ensures.shown ∙ ap (λ (z : WindowValue). z.size) c.at.ensures)
    c.new-2.result c.new-2.ensures.made c.new.result c.new.ensures in
    let a : Aggregate = aggregate_of h.world s t in
    let filled = c.fill.ensures.filled h.world h.bodies to (begins h.world h.bodies to h.bounds) in
    record {
      world = a.world;
      bodies = h.bodies;
      mpdus = a.mpdus;
      after = (prepared_data s t a).world;
      off = filled_off c.fill.new.self h.bodies s t c.fill.new.aggregate.size
          c.fill.new.aggregate.numbers a filled;
      on_air = filled.on_air;
    }

pub returns-clause-prepared : goal.returns-clause-prepared
returns-clause-prepared c =
    let s : ℕ = c.args.station in
    let t : ℕ = c.args.tid in
    let begins = begun (view_of c.self.inside) c.args.self.now c.self.view_is s t (bounds_in c.args.bounds)
    c.member-2.result.now c.member-2.ensures c.size_limits-limits.result c.size_limits-limits.ensures.exact
    c.size-2.result (c.size-2.ensures.shown ∙ ap (λ (z : WindowValue). z.size) c.at.ensures)
    c.new-2.result c.new-2.ensures.made c.new.result c.new.ensures in
    record {
      quiet = quiet_now (view_of c.self.inside) c.args.self.now c.self.view_is c.at-window.result.now s t
          c.at-window.ensures c.bar_due.result c.bar_due.ensures.shown c.if-bar_due.false;
      prepared = λ w bodies to bounds.
          let a : Aggregate = aggregate_of w s t in
          let filled = c.fill.ensures.filled w bodies to (begins w bodies to bounds) in
          filled_flies c.fill.new.self bodies s t c.fill.new.aggregate.size
          c.fill.new.aggregate.numbers a filled w refl c.fly_all.new.self c.fly_all.new.pairs
          c.charge_of-charge.result
          (c.fly_all.ensures.flown a.world bodies a.mpdus (prepared_data s t a).world
          (filled_off c.fill.new.self bodies s t c.fill.new.aggregate.size
          c.fill.new.aggregate.numbers a filled) filled.on_air)
          c.charge_of-charge.ensures;
    }
