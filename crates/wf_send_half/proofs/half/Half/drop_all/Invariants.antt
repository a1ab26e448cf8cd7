-- The TIDs so far have left, and `dropped` counts their frames.
use Rattle.std.proofs.Common.{◌≡◌, ℕ, None}
use Rattle.wf_frame.specs.Frames.{FrameValue}
use Rattle.wf_frame.specs.declared.notes.Ask.TheVariants.{Leave}
use Rattle.wf_frame.specs.declared.notes.Note.TheVariants.{Asked}
use Rattle.wf_def_world.specs.World.{World}
use Rattle.wf_def_world.specs.Refusals.{refusal}
use Rattle.wf_send_parts.specs.Windows.{WindowsHaveRoom}
use Rattle.wf_send_half_model.specs.Leaving.{IsLeaving}
use Rattle.wf_send_half_model.specs.Standing.{StandsFor}
use Rattle.wf_send_half.proofs.half.Half.drop_all.Given as goal

abbrev pub invariant-loop-tid : goal.invariant-loop-tid
invariant-loop-tid l = record {
  left : (w : World) (bodies : ℕ → FrameValue) → StandsFor l.fn.self w bodies →
      refusal w (Asked (Leave l.station)) ≡ None →
      IsLeaving l.fn.self w bodies l.station l.tid l.self l.dropped;
  room : WindowsHaveRoom l.self.windows;
}
