-- Proves what `Half::drop_waiting` promises: each step finishes and counts the frame of one waiting number,
-- until none waits. The count fits in 32 bits since it is at most the setting `room`.
use Rattle.std.proofs.Common.{refl, ◌<◌, ◌^◌, ◌+◌, ap, ◌∙◌, arith}
use Rattle.wf_send_parts.specs.Windows.{window_of}
use Rattle.wf_send_half_model.specs.Half.{TransmitValue}
use Rattle.wf_send_half.proofs.CallSteps.{view_of}
use Rattle.wf_send_half.proofs.Flushes.{number_there, first_flushes, flushed_few}
use Rattle.wf_send_half.proofs.half.Half.drop_waiting.Goals as goal

pub at-requires-clause-within : goal.at-requires-clause-within
at-requires-clause-within c =
    let r = c.requires.some in
    number_there c.args.cause c.args.self.now (view_of c.self.inside) c.self.view_is c.args.station c.args.tid
    (window_of c.args.self.now.windows c.args.station c.args.tid).start (record {
      before = c.args.self.now;
      world = r.world;
      bodies = r.bodies;
      dropped = 0;
      gives = first_flushes c.args.cause c.args.self.now r.world r.bodies c.args.station c.args.tid _ r.stands
          r.live c.requires.tid refl;
    })

pub dropping-init : goal.dropping-init
dropping-init c w bodies h live =
    first_flushes c.args.cause c.args.self.now w bodies c.args.station c.args.tid c.start-from.result h live
    c.requires.tid
    (c.start-from.ensures.shown ∙ ap (λ x. x.start) c.at.ensures
    ∙ ap (λ (z : TransmitValue). (window_of z.windows c.args.station c.args.tid).start) c.self.view_is)

pub overflow_add-dropped : goal.overflow_add-dropped
overflow_add-dropped c =
    let r = c.requires.some in
    let few : c.dropping.dropped + 1 < 2 ^ 32 =
    flushed_few c.args.cause c.args.self.now c.drop_one.new.self r.world r.bodies c.args.station c.args.tid
    (c.dropping.dropped + 1) c.in-Some.next
    (c.in-Some.ensures.next c.args.self.now r.world r.bodies c.dropping.dropped
    (c.dropping.invariant r.world r.bodies r.stands r.live)) in
    omega (arith, few)
