-- Invariants of the loop of `Half::fly_all`: the first `i` numbers are in flight and have their pairs, and
-- only the windows have changed.
use Rattle.std.proofs.Common.{◌≡◌, ℕ, List, length}
use Rattle.wf_frame.specs.Frames.{FrameValue}
use Rattle.wf_def_world.specs.World.{World, Mpdu}
use Rattle.wf_send_half_model.specs.Standing.{numbers_on_air}
use Rattle.wf_send_half_model.specs.Filling.{IsTakingOff}
use Rattle.wf_send_half.specs.Pulls.{IsFlying}
use Rattle.wf_send_half.proofs.CallSteps.{view_of}
use Rattle.wf_send_half.proofs.half.Half.fly_all.Given as goal

abbrev pub invariant-loop-i : goal.invariant-loop-i
invariant-loop-i l = record {
  flying : (w : World) (bodies : ℕ → FrameValue) (mpdus : List Mpdu) (after : World) →
      IsTakingOff l.fn.self w bodies l.station l.tid l.fn.self.exchanges mpdus after →
      l.numbers ≡ numbers_on_air mpdus →
      IsFlying (view_of l.self-inside) bodies l.station l.tid l.fn.self.exchanges mpdus after l.i l.pairs;
  others : view_of l.self-inside ≡ record l.fn.self { windows = l.self-inside.windows };
  sized : length l.self-inside.windows ≡ length l.fn.self.windows;
  count : length l.pairs ≡ l.i;
}
