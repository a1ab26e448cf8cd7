-- Invariants of the loop of `Half::add_fresh`: the aggregate so far continues to the same final aggregate.
-- The loop ends since an aggregate has at most 256 numbers.
use Rattle.std.proofs.Common.{◌≡◌, ℕ, ◌-◌, length}
use Rattle.wf_frame.specs.Frames.{FrameValue}
use Rattle.wf_def_world.specs.Exchanges.{Aggregate}
use Rattle.wf_send_half.specs.Pulls.{IsSameButFrames, AggregateGoesOn}
use Rattle.wf_send_half.proofs.CallSteps.{view_of}
use Rattle.wf_send_half.proofs.half.Half.add_fresh.Given as goal

abbrev pub invariant-fresh : goal.invariant-fresh
invariant-fresh l = record {
  on : (bodies : ℕ → FrameValue) (after : Aggregate) →
      AggregateGoesOn l.fn.self bodies l.station l.tid l.fn.aggregate.size l.fn.aggregate.numbers after →
      AggregateGoesOn (view_of l.self-inside) bodies l.station l.tid l.aggregate.size l.aggregate.numbers
      after;
  same : IsSameButFrames l.fn.self (view_of l.self-inside);
  stations : l.self-inside.flows.stations ≡ l.fn.self.flows.stations;
  sized : length l.self-inside.windows ≡ length l.fn.self.windows;
  most : l.aggregate.size.limits.frames ≡ l.most;
}

abbrev pub decreases-fresh : goal.decreases-fresh
decreases-fresh l = 256 - length l.aggregate.numbers
