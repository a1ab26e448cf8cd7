-- Defines the states between the steps of a leave.
use Rattle.std.specs.Prelude.{◌≡◌, ℕ, None, List}
use Rattle.wf_frame.specs.Frames.{FrameValue}
use Rattle.wf_frame.specs.declared.notes.Ask.TheVariants.{Leave}
use Rattle.wf_frame.specs.declared.notes.Note.TheVariants.{Asked}
use Rattle.wf_def_world.specs.World.{World}
use Rattle.wf_def_world.specs.Refusals.{refusal}
use Rattle.wf_send_half_model.specs.Half.{TransmitValue}
use Rattle.wf_send_half_model.specs.Leaving.{IsLeaving, IsExpelling}
use Rattle.wf_send_half_model.specs.Standing.{StandsFor}

-- the half represents some world in which station s may leave
pub record MayLeave (v : TransmitValue) (s : ℕ) : Type 0 where
  pub world : World
  pub bodies : ℕ → FrameValue
  pub stands : StandsFor v world bodies
  pub allowed : refusal world (Asked (Leave s)) ≡ None

-- station s is leaving some world, and its TIDs below t have left
pub record SomeLeaves (v : TransmitValue) (s t : ℕ) : Type 0 where
  pub before : TransmitValue
  pub world : World
  pub bodies : ℕ → FrameValue
  pub dropped : ℕ
  pub leaving : IsLeaving before world bodies s t v dropped

-- TID t of station s is leaving, and some frames of its window are finished
pub record GivesFrames (before : TransmitValue) (w : World) (bodies : ℕ → FrameValue) (s t : ℕ)
    (v : TransmitValue) (dropped : ℕ) : Type 0 where
  pub frames : List FrameValue
  pub expelling : IsExpelling before w bodies s t v frames dropped

-- for some world, TID t of station s is leaving, and some frames of its window are finished
pub record SomeGives (v : TransmitValue) (s t : ℕ) : Type 0 where
  pub before : TransmitValue
  pub world : World
  pub bodies : ℕ → FrameValue
  pub dropped : ℕ
  pub gives : GivesFrames before world bodies s t v dropped
