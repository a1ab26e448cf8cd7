-- Proves what `Half::add_waiting` promises: each step adds the waiting number that the world's aggregate adds
-- next. By cases of what ends the loop: a number that does not fit, or no waiting number is left.
use Rattle.std.proofs.Common.{refl, ap, sym, ◌∙◌, subst, arith, ℕ, ◌+◌, ◌≤◌, [], ◌∷◌, length, length-append, Some, None}
use Rattle.wf_send_parts.specs.Window.{WindowValue}
use Rattle.wf_air.specs.declared.fit.SizeLimits.{SizeLimits}
use Rattle.wf_send_half_model.specs.Half.{TransmitValue}
use Rattle.wf_send_half_model.proofs.Fills.{choosing_near}
use Rattle.wf_send_half.proofs.Filling.{next_read, waiting_goes_on, waiting_ends, all_waiting, few_chosen, same_limits}
use Rattle.wf_octets.specs.Distance.{distance}
use Rattle.wf_send_half.proofs.half.Half.add_waiting.Goals as goal

pub next_waiting-requires : goal.next_waiting-requires
next_waiting-requires c =
    let h = c.requires.choosing in
    subst (λ (x : WindowValue). distance c.waiting.from x.start ≤ length x.places)
    (sym c.waiting.invariant.window)
    (choosing_near c.args.self.now h.world h.bodies c.args.station c.args.tid h.to_fill
    c.waiting.aggregate.size c.waiting.aggregate.numbers c.waiting.from
    (c.waiting.invariant.choosing h.world h.bodies h.to_fill h.choosing))

pub push-requires : goal.push-requires
push-requires c =
    let h = c.requires.choosing in
    let few = few_chosen c.waiting.aggregate.size c.waiting.aggregate.numbers c.waiting.from h.world
    c.args.station c.args.tid (c.waiting.invariant.choosing h.world h.bodies h.to_fill h.choosing)
    (subst (λ (z : SizeLimits). z.frames ≤ 256) (sym c.waiting.invariant.limits) c.requires.few)
    c.protected-octets.result c.if-not-add.ensures.exact in
    (omega arith, few)

pub waiting-smaller : goal.waiting-smaller
waiting-smaller c =
    let h = c.requires.choosing in
    let few = few_chosen c.waiting.aggregate.size c.waiting.aggregate.numbers c.waiting.from h.world
    c.args.station c.args.tid (c.waiting.invariant.choosing h.world h.bodies h.to_fill h.choosing)
    (subst (λ (z : SizeLimits). z.frames ≤ 256) (sym c.waiting.invariant.limits) c.requires.few)
    c.protected-octets.result c.if-not-add.ensures.exact in
    omega (
      arith,
      few,
      ap (length {A = ℕ}) c.push.ensures,
      length-append c.waiting.aggregate.numbers (c.in-Some.number ∷ []),
    )

pub returns-then-not-add-clause-some : goal.returns-then-not-add-clause-some
returns-then-not-add-clause-some c off w bodies to begun =
    let so_far = c.waiting.invariant.choosing w bodies to begun in
    let x : WindowValue = c.at-window.result.now in
    rw (c.if-not-add.ensures.refused refl)
    (waiting_ends c.args.self.now w bodies c.args.station c.args.tid to c.waiting.aggregate.size
    c.waiting.aggregate.numbers c.waiting.from so_far c.in-Some.number
    (next_read c.args.self.now w bodies c.args.station c.args.tid to c.waiting.aggregate.size
    c.waiting.aggregate.numbers c.waiting.from so_far (Some c.in-Some.number)
    (rw (sym c.waiting.invariant.window) (λ z all n. c.in-Some.ensures.number z all n)))
    c.frame.result.now (rw (sym c.waiting.invariant.window) c.frame.ensures) c.len.result c.len.ensures.exact
    c.protected-octets.result (c.protected-octets.ensures.exact
    ∙ ap (λ (z : TransmitValue). c.len.result + z.config.overhead) c.self.view_is) c.if-not-add.ensures.exact)

pub waiting-preserved : goal.waiting-preserved
waiting-preserved c = record {
  choosing = λ w bodies to begun.
      let so_far = c.waiting.invariant.choosing w bodies to begun in
      rw (c.plus-from.ensures.number, c.push.ensures)
      (waiting_goes_on c.args.self.now w bodies c.args.station c.args.tid to c.waiting.aggregate.size
      c.waiting.aggregate.numbers c.waiting.from so_far c.in-Some.number
      (next_read c.args.self.now w bodies c.args.station c.args.tid to c.waiting.aggregate.size
      c.waiting.aggregate.numbers c.waiting.from so_far (Some c.in-Some.number)
      (rw (sym c.waiting.invariant.window) (λ z all n. c.in-Some.ensures.number z all n)))
      c.frame.result.now (rw (sym c.waiting.invariant.window) c.frame.ensures) c.len.result
      c.len.ensures.exact c.protected-octets.result (c.protected-octets.ensures.exact
      ∙ ap (λ (z : TransmitValue). c.len.result + z.config.overhead) c.self.view_is)
      c.add.new.self c.if-not-add.ensures.exact
      (λ ls h. c.if-not-add.ensures.taken ls h refl) c.if-not-add.ensures.kept);
  limits = same_limits c.waiting.aggregate.size c.add.new.self c.if-not-add.ensures.kept
      ∙ c.waiting.invariant.limits;
  window = c.waiting.invariant.window;
}

pub returns-clause-all : goal.returns-clause-all
returns-clause-all c on w bodies to begun =
    let so_far = c.waiting.invariant.choosing w bodies to begun in
    all_waiting c.args.self.now w bodies c.args.station c.args.tid to c.waiting.aggregate.size
    c.waiting.aggregate.numbers c.waiting.from so_far
    (next_read c.args.self.now w bodies c.args.station c.args.tid to c.waiting.aggregate.size
    c.waiting.aggregate.numbers c.waiting.from so_far None
    (rw (sym c.waiting.invariant.window) (λ z all n. c.in_default.ensures.number z all n)))
