-- Invariants of the loop of `Half::add_waiting`: the numbers so far are those that the world's aggregate
-- takes below `from`. The loop ends since an aggregate has at most 256 numbers.
use Rattle.std.proofs.Common.{◌≡◌, ℕ, ◌-◌, length}
use Rattle.wf_frame.specs.Frames.{FrameValue}
use Rattle.wf_def_world.specs.World.{World}
use Rattle.wf_send_parts.specs.Windows.{window_of}
use Rattle.wf_send_half_model.specs.Filling.{IsToFill, IsChoosing}
use Rattle.wf_send_half.proofs.half.Half.add_waiting.Given as goal

abbrev pub invariant-waiting : goal.invariant-waiting
invariant-waiting l = record {
  choosing : (w : World) (bodies : ℕ → FrameValue) → IsToFill l.self w bodies l.station l.tid →
      IsChoosing l.fn.aggregate.size l.fn.aggregate.numbers (window_of l.self.windows l.station l.tid).start w
      l.station l.tid →
      IsChoosing l.aggregate.size l.aggregate.numbers l.from w l.station l.tid;
  limits : l.aggregate.size.limits ≡ l.fn.aggregate.size.limits;
  window : l.window ≡ window_of l.self.windows l.station l.tid;
}

abbrev pub decreases-waiting : goal.decreases-waiting
decreases-waiting l = 256 - length l.aggregate.numbers
