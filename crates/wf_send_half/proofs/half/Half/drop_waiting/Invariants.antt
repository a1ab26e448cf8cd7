-- The window has returned `dropped` frames; fewer of its numbers wait after each.
use Rattle.std.proofs.Common.{◌≡◌, ℕ, true}
use Rattle.std.specs.Prelude.{count_by}
use Rattle.wf_frame.specs.Frames.{FrameValue}
use Rattle.wf_def_world.specs.World.{World, is_live}
use Rattle.wf_send_parts.specs.Window.{waits}
use Rattle.wf_send_parts.specs.Windows.{window_of}
use Rattle.wf_send_half_model.specs.Standing.{StandsFor}
use Rattle.wf_send_half.specs.Flushing.{GivesFlushed}
use Rattle.wf_send_half.proofs.half.Half.drop_waiting.Given as goal

abbrev pub invariant-dropping : goal.invariant-dropping
invariant-dropping l = (w : World) (bodies : ℕ → FrameValue) → StandsFor l.fn.self w bodies →
    is_live w l.station ≡ true → GivesFlushed l.cause l.fn.self w bodies l.station l.tid l.self l.dropped
    l.from

abbrev pub decreases-dropping : goal.decreases-dropping
decreases-dropping l = count_by waits (window_of l.self.windows l.station l.tid).places
