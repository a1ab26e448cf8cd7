-- Defines the stages in which the frames of a TID are dropped, for a flush or at the end of an agreement: one
-- after the other its waiting numbers fail, and at a flush its queues are emptied then. The frames go last on
-- the finished list.
use Rattle.std.specs.Prelude.{◌≡◌, ◌<◌, ℕ, ◌+◌, true, List, length}
use Rattle.wf_frame.specs.declared.classes.Cause.{Cause}
use Rattle.wf_frame.specs.declared.classes.Cause.TheVariants.{Flushed}
use Rattle.wf_frame.specs.declared.classes.Fate.TheVariants.{Dropped}
use Rattle.wf_frame.specs.Classes.{tid_number}
use Rattle.wf_frame.specs.Frames.{FrameValue}
use Rattle.wf_def_agreement.specs.Session.{Session, after_flush as session_flushed}
use Rattle.wf_def_world.specs.World.{World, is_live, session, receiver, frame, on_session, with_frames_finished}
use Rattle.wf_def_agreement.specs.Receiver.{released_between}
use Rattle.wf_def_world.specs.Exchanges.{ids_of, caught_up}
use Rattle.wf_def_world.specs.Step.{waiting_ids, after_numbers_ended}
use Rattle.wf_queue_flows.specs.Flows.{after_tid_flush}
use Rattle.wf_queue_flows_refines.specs.Frames.{QueuedAreHeld}
use Rattle.wf_queue_flows_refines.specs.Standing.{ids, times_held}
use Rattle.wf_send_parts.specs.Flushing.{HasFlushed}
use Rattle.wf_send_parts.specs.Tally.{many_settled_as}
use Rattle.wf_send_parts.specs.Windows.{window_of}
use Rattle.wf_send_half_model.specs.Half.{TransmitValue}
use Rattle.wf_send_half_model.specs.Leaving.{HaveTaken}
use Rattle.wf_send_half_model.specs.Standing.{Parts, StandsFor}

-- the frames of the queues of TID t of station s are dropped, which are `queued` frames
abbrev pub with_queues_flushed : TransmitValue → ℕ → ℕ → ℕ → TransmitValue
with_queues_flushed v s t queued = record v {
  flows = after_tid_flush v.flows (tid_number s t);
  tally = many_settled_as (Dropped Flushed) queued v.tally;
}

-- the world in which the session of a TID is y, and these frames are dropped for this cause
abbrev pub with_numbers_dropped : Cause → World → ℕ → ℕ → Session → List ℕ → World
with_numbers_dropped cause w s t y ids = with_frames_finished (on_session w s t (λ _. y)) (Dropped cause) ids

-- the world in which the numbers of a TID that wait have failed, with their frames dropped for this cause
abbrev pub with_waiting_failed : Cause → World → ℕ → ℕ → World
with_waiting_failed cause w s t =
    with_frames_finished (on_session w s t (session_flushed w.config.attempts)) (Dropped cause)
    (waiting_ids (session w s t).slots)

-- the TID is one of a live station, in a world that the half represented before the call
pub record MayDrop (before : TransmitValue) (w : World) (bodies : ℕ → FrameValue) (s t : ℕ) : Type 0 where
  pub stood : StandsFor before w bodies
  pub live : is_live w s ≡ true
  pub tid : t < 8

-- In the middle of the drop of the waiting numbers of TID t of station s, for this cause. Before it, `before`
-- represented w. The window has given these frames, which are finished and counted. The search for the next
-- one goes on at `from`.
pub record IsFlushing (cause : Cause) (before : TransmitValue) (w : World) (bodies : ℕ → FrameValue) (s t : ℕ)
    (v : TransmitValue) (frames : List FrameValue) (from : ℕ) : Type 0 where
  pub may : MayDrop before w bodies s t
  pub flushed : HasFlushed cause w.config.attempts (window_of v.windows s t) (session w s t) bodies
      frames from
  pub parts : Parts v (with_numbers_dropped cause w s t flushed.now (ids frames)) bodies
  pub rest : v ≡ record before { windows = v.windows; flows = v.flows; tally = v.tally }
  pub tally : v.tally ≡ many_settled_as (Dropped cause) (length frames) before.tally
  pub moved : HaveTaken before.flows v.flows (ids frames)
  pub queued : QueuedAreHeld v.flows (with_numbers_dropped cause w s t flushed.now (ids frames))
  -- a frame that is neither queued nor finished keeps its fate
  pub fates : (id : ℕ) → times_held v.flows.backlog id ≡ 0 →
      (frame (with_numbers_dropped cause w s t flushed.now (ids frames)) id).fate ≡ (frame w id).fate

-- no number of the TID waits, and `dropped` frames are finished; next, a flush empties its queues, and at the
-- end of an agreement its window is resized
pub record HasNumbersFlushed (cause : Cause) (before : TransmitValue) (w : World) (bodies : ℕ → FrameValue)
    (s t : ℕ) (v : TransmitValue) (dropped : ℕ) : Type 0 where
  pub may : MayDrop before w bodies s t
  pub parts : Parts v (with_waiting_failed cause w s t) bodies
  pub rest : v ≡ record before { windows = v.windows; flows = v.flows; tally = v.tally }
  pub tally : v.tally ≡ many_settled_as (Dropped cause) dropped before.tally
  pub grown : length (with_waiting_failed cause w s t).finished ≡ length w.finished + dropped
  pub queued : QueuedAreHeld v.flows (with_waiting_failed cause w s t)

-- the ids of the frames that the receiver of a TID releases when its agreement ends, in the order of their
-- numbers
abbrev pub released_at_cease : World → ℕ → ℕ → List ℕ
released_at_cease w s t =
    ids_of (session w s t)
    (released_between (receiver w s t) (receiver (caught_up (after_numbers_ended w s t) s t) s t))
