-- Defines which frames a window returns when no number flies and its parcels are expelled one after the
-- other.
use Rattle.std.specs.Prelude.{◌≡◌, ℕ, Bool, false, List, ◌++◌, map, filter}
use Rattle.std.specs.List.{list_any}
use Rattle.wf_frame.specs.Frames.{FrameValue}
use Rattle.wf_frame.specs.declared.classes.Cause.{Cause}
use Rattle.wf_frame.specs.declared.classes.Fate.TheVariants.{Dropped}
use Rattle.wf_frame.specs.declared.classes.Cause.TheVariants.{Left}
use Rattle.wf_def_agreement.specs.Session.{Session, Slot, is_waiting}
use Rattle.wf_send_parts.specs.Window.{WindowValue, WindowStandsFor, is_flying}
use Rattle.wf_send_parts.specs.Answers.{with_fate}

-- whether some number flies
abbrev pub has_flying : Session → Bool
has_flying s = list_any (λ x. is_flying x.state) s.slots

-- the slots of the waiting numbers, in order
abbrev pub waiting_slots : Session → List Slot
waiting_slots s = filter (λ x. is_waiting x.state) s.slots

-- the frame of a slot, dropped for this cause
abbrev pub frame_dropped : Cause → (ℕ → FrameValue) → Slot → FrameValue
frame_dropped cause bodies x = with_fate (Dropped cause) (bodies x.id)

-- the frames of the waiting numbers, dropped for this cause
abbrev pub frames_dropped : Cause → (ℕ → FrameValue) → Session → List FrameValue
frames_dropped cause bodies s = map (frame_dropped cause bodies) (waiting_slots s)

-- the frame of a slot, dropped because its station leaves
abbrev pub frame_left : (ℕ → FrameValue) → Slot → FrameValue
frame_left = frame_dropped Left

-- the frames of the waiting numbers, dropped because the station leaves
abbrev pub frames_left : (ℕ → FrameValue) → Session → List FrameValue
frames_left = frames_dropped Left

-- A window represented `before` when the expelling began, and has returned these frames. It now represents a
-- session that holds the others.
pub record HasExpelled (w : WindowValue) (before : Session) (bodies : ℕ → FrameValue)
    (frames : List FrameValue) : Type 0 where
  pub now : Session
  pub stands : WindowStandsFor w now bodies
  pub none_fly : has_flying now ≡ false
  pub rest : frames ++ frames_left bodies now ≡ frames_left bodies before
