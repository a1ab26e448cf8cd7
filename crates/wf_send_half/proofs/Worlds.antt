-- Proves that equal halves represent the same worlds.
use Rattle.std.proofs.Common.{◌≡◌, sym, subst, ℕ}
use Rattle.wf_frame.specs.Frames.{FrameValue}
use Rattle.wf_frame.specs.declared.notes.Note.{Note}
use Rattle.wf_frame.specs.declared.notes.ReplyNote.{ReplyNote}
use Rattle.wf_def_world.specs.World.{World}
use Rattle.wf_send_half_model.specs.Half.{TransmitValue}
use Rattle.wf_send_half_model.specs.Standing.{Meets}

pub met_by : (x y : TransmitValue) (w : World) (bodies : ℕ → FrameValue) (note : Note) (reply : ReplyNote) →
    y ≡ x → Meets w bodies note x reply → Meets w bodies note y reply
met_by x y w bodies note reply e m = subst (λ (z : TransmitValue). Meets w bodies note z reply) (sym e) m
