-- Proves what `Half::drop_all` promises: each step drops the frames of one TID, and after eight steps all
-- TIDs have left. The sum fits in 32 bits since it is at most the setting `room`.
use Rattle.std.proofs.Common.{◌≡◌, ◌<◌, ◌^◌, ◌+◌, ℕ, subst, arith}
use Rattle.wf_send_half_model.specs.Leaving.{IsLeaving}
use Rattle.wf_send_half_model.proofs.Leavings.{leave_begins}
use Rattle.wf_send_half.proofs.Leaves.{leaves_few}
use Rattle.wf_send_half.proofs.half.Half.drop_all.Goals as goal

pub loop-tid-init : goal.loop-tid-init
loop-tid-init c = record {
  left = λ w bodies h allowed. leave_begins c.args.self.now w bodies c.args.station h allowed;
  room = c.requires.some.stands.parts.windows.room;
}

pub loop-tid-preserved : goal.loop-tid-preserved
loop-tid-preserved c = record {
  left = λ w bodies h allowed. c.drop_tid-dropped.ensures.left c.args.self.now w bodies c.loop-tid.dropped
      (c.loop-tid.invariant.left w bodies h allowed);
  room = c.drop_tid-dropped.ensures.room;
}

pub overflow_add-dropped : goal.overflow_add-dropped
overflow_add-dropped c =
    let r = c.requires.some in
    let few : c.loop-tid.dropped + c.drop_tid-dropped.result < 2 ^ 32 =
    leaves_few c.args.self.now _ r.world r.bodies c.args.station (c.loop-tid.tid + 1) _
    (c.drop_tid-dropped.ensures.left c.args.self.now r.world r.bodies c.loop-tid.dropped
    (c.loop-tid.invariant.left r.world r.bodies r.stands r.allowed)) in
    omega (arith, few)

pub returns : goal.returns
returns c = record {
  left = λ w bodies h allowed.
      let end : c.loop-tid.tid ≡ 8 = omega arith in
      subst (λ (t : ℕ). IsLeaving c.args.self.now w bodies c.args.station t c.loop-tid.self
      c.loop-tid.dropped) end (c.loop-tid.invariant.left w bodies h allowed);
  room = c.loop-tid.invariant.room;
}
