-- Defines the states between the steps in which the waiting numbers of a TID fail, for a flush or at the end
-- of an agreement.
use Rattle.std.specs.Prelude.{◌≡◌, ℕ, true, List, length}
use Rattle.wf_frame.specs.Frames.{FrameValue}
use Rattle.wf_frame.specs.declared.classes.Cause.{Cause}
use Rattle.wf_def_world.specs.World.{World, is_live}
use Rattle.wf_send_half_model.specs.Half.{TransmitValue}
use Rattle.wf_send_half_model.specs.Flushing.{IsFlushing}
use Rattle.wf_send_half_model.specs.Standing.{StandsFor}

-- the half represents some world in which station s is live
pub record HasLive (v : TransmitValue) (s : ℕ) : Type 0 where
  pub world : World
  pub bodies : ℕ → FrameValue
  pub stands : StandsFor v world bodies
  pub live : is_live world s ≡ true

-- the waiting numbers of TID t of station s are being dropped for this cause, and `dropped` of them have
-- failed; the search for the next one goes on at `from`
pub record GivesFlushed (cause : Cause) (before : TransmitValue) (w : World) (bodies : ℕ → FrameValue)
    (s t : ℕ)
    (v : TransmitValue) (dropped from : ℕ) : Type 0 where
  pub frames : List FrameValue
  pub counted : length frames ≡ dropped
  pub flushing : IsFlushing cause before w bodies s t v frames from

-- for some world, the waiting numbers of TID t of station s are being dropped for this cause
pub record SomeFlushes (cause : Cause) (v : TransmitValue) (s t from : ℕ) : Type 0 where
  pub before : TransmitValue
  pub world : World
  pub bodies : ℕ → FrameValue
  pub dropped : ℕ
  pub gives : GivesFlushed cause before world bodies s t v dropped from
