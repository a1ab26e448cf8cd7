-- Defines which frames a window returns when its TID is flushed, or its agreement ends: those of the waiting
-- numbers, one after the other, and each of these numbers fails.
use Rattle.std.specs.Prelude.{◌≡◌, ℕ, ◌+◌, ◌%◌, max, List, [], ◌++◌, Some}
use Rattle.wf_frame.specs.Frames.{FrameValue}
use Rattle.wf_frame.specs.declared.classes.Cause.{Cause}
use Rattle.wf_frame.specs.declared.classes.Cause.TheVariants.{Flushed}
use Rattle.wf_def_agreement.specs.Session.{Session, Slot, End, slot, start_of, after_end, after_flush}
use Rattle.wf_send_parts.specs.Expelling.{frame_dropped, frames_dropped}
use Rattle.wf_send_parts.specs.Listing.{HasListed}
use Rattle.wf_send_parts.specs.Window.{WindowValue, WindowStandsFor, waiting_from}

-- the frame of a slot, dropped because its TID is flushed
abbrev pub frame_flushed : (ℕ → FrameValue) → Slot → FrameValue
frame_flushed = frame_dropped Flushed

-- the frames of the waiting numbers, dropped because the TID is flushed
abbrev pub frames_flushed : (ℕ → FrameValue) → Session → List FrameValue
frames_flushed = frames_dropped Flushed

-- the session after number n failed without a further transmission
abbrev pub number_flushed : ℕ → ℕ → Session → Session
number_flushed limit n s = after_end limit End.GivenUp n s

-- The first waiting number at or past n failed, and `parcel` is its frame, dropped for this cause. The window
-- represents the session without it. The search goes on at `next`: after the number, but not below F.
pub record IsFlushed (cause : Cause) (limit : ℕ) (s : Session) (bodies : ℕ → FrameValue) (n : ℕ)
    (w : WindowValue) (parcel : FrameValue) (next : ℕ) : Type 0 where
  pub number : ℕ
  pub first : waiting_from s n ≡ Some number
  pub dropped : parcel ≡ frame_dropped cause bodies (slot s number)
  pub stands : WindowStandsFor w (number_flushed limit number s) bodies
  pub goes_on : next ≡ max (number + 1) (start_of (number_flushed limit number s)) % 4096

-- A window represented `before` when the flush for this cause began, and has returned these frames. It now
-- represents a session without them, of which no number below that of `from` waits.
pub record HasFlushed (cause : Cause) (limit : ℕ) (w : WindowValue) (before : Session)
    (bodies : ℕ → FrameValue) (frames : List FrameValue) (from : ℕ) : Type 0 where
  pub now : Session
  pub stands : WindowStandsFor w now bodies
  pub search : HasListed now [] from
  pub rest : frames ++ frames_dropped cause bodies now ≡ frames_dropped cause bodies before
  pub leads : after_flush limit now ≡ after_flush limit before
