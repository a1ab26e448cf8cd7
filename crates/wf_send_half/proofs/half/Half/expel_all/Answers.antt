-- Proves what `Half::expel_all` promises: each step finishes and counts one frame of the window, until the
-- window is empty. The count fits in 32 bits since it is at most the setting `room`.
use Rattle.std.proofs.Common.{◌<◌, ◌^◌, ◌+◌, refl, arith}
use Rattle.wf_send_half.proofs.Leaves.{first_gives, one_more, gives_few}
use Rattle.wf_send_half.proofs.half.Half.expel_all.Goals as goal

pub expelling-init : goal.expelling-init
expelling-init c before w bodies dropped left =
    first_gives before c.args.self.now w bodies c.args.station c.args.tid dropped c.requires.tid left

pub expel_one-requires-clause-some : goal.expel_one-requires-clause-some
expel_one-requires-clause-some c =
    let r = c.requires.some in
    record {
      before = r.before;
      world = r.world;
      bodies = r.bodies;
      dropped = r.dropped + c.expelling.count;
      gives = c.expelling.invariant r.before r.world r.bodies r.dropped r.leaving;
    }

pub expelling-preserved : goal.expelling-preserved
expelling-preserved c before w bodies dropped left =
    one_more before c.expel_one.new.self w bodies c.args.station c.args.tid dropped c.expelling.count
    (c.expelling-test.ensures.given refl before w bodies (dropped + c.expelling.count)
    (c.expelling.invariant before w bodies dropped left))

pub overflow_add-count : goal.overflow_add-count
overflow_add-count c =
    let r = c.requires.some in
    let few : r.dropped + (c.expelling.count + 1) < 2 ^ 32 =
    gives_few r.before c.expel_one.new.self r.world r.bodies c.args.station c.args.tid
    (r.dropped + (c.expelling.count + 1))
    (expelling-preserved c r.before r.world r.bodies r.dropped r.leaving) in
    omega (arith, few)

pub returns : goal.returns
returns c = record {
  expelled = λ before w bodies dropped left. c.expelling-test.ensures.empty refl before w bodies
      (dropped + c.expelling.count) (c.expelling.invariant before w bodies dropped left);
  room = c.expelling-test.ensures.room;
}
