-- The window has returned `count` frames; it has fewer after each.
use Rattle.std.proofs.Common.{ℕ, ◌+◌, length}
use Rattle.wf_frame.specs.Frames.{FrameValue}
use Rattle.wf_def_world.specs.World.{World}
use Rattle.wf_send_parts.specs.Windows.{window_of}
use Rattle.wf_send_half_model.specs.Half.{TransmitValue}
use Rattle.wf_send_half_model.specs.Leaving.{IsLeaving}
use Rattle.wf_send_half.specs.Leaving.{GivesFrames}
use Rattle.wf_send_half.proofs.half.Half.expel_all.Given as goal

abbrev pub invariant-expelling : goal.invariant-expelling
invariant-expelling l = (before : TransmitValue) (w : World) (bodies : ℕ → FrameValue) (dropped : ℕ) →
    IsLeaving before w bodies l.station l.tid l.fn.self dropped →
    GivesFrames before w bodies l.station l.tid l.self (dropped + l.count)

abbrev pub decreases-expelling : goal.decreases-expelling
decreases-expelling l = length (window_of l.self.windows l.station l.tid).places
