-- Defines the stages of a leave: TID by TID the station's window is emptied and its flow queues are purged.
-- Its frames go last on the finished list.
use Rattle.std.specs.Prelude.{◌≡◌, ◌<◌, ℕ, ◌+◌, List, [], ◌∷◌, ◌++◌, None, length, set}
use Rattle.wf_frame.specs.declared.classes.Cause.TheVariants.{Left}
use Rattle.wf_frame.specs.declared.classes.Fate.TheVariants.{Dropped}
use Rattle.wf_frame.specs.declared.notes.Ask.TheVariants.{Leave}
use Rattle.wf_frame.specs.declared.notes.Note.TheVariants.{Asked}
use Rattle.wf_frame.specs.Frames.{FrameValue}
use Rattle.wf_def_lists.specs.Lists.{on}
use Rattle.wf_def_rotation.specs.Rotation.{no_keys}
use Rattle.wf_def_lists.specs.Table.{upto}
use Rattle.wf_def_world.specs.World.{World, session, frame, with_frames_finished}
use Rattle.wf_def_world.specs.Refusals.{refusal}
use Rattle.wf_def_world.specs.Step.{waiting_ids, after_tids_left}
use Rattle.wf_send_parts.specs.Tally.{many_settled_as}
use Rattle.wf_queue_flows.specs.Backlog.{held_in_backlog}
use Rattle.wf_frame.specs.Classes.{tid_number}
use Rattle.wf_queue_flows.specs.Flows.{FlowsValue, tid_rotation, after_purge}
use Rattle.wf_queue_flows_refines.specs.Standing.{ids, times_held, with_finished}
use Rattle.wf_queue_flows_refines.specs.Frames.{QueuedAreHeld}
use Rattle.wf_sched.specs.ClassRotas.{after_station_left as without_turns}
use Rattle.wf_sched_refines.specs.Standing.{everywhere}
use Rattle.wf_send_parts.specs.Window.{WindowValue}
use Rattle.wf_send_parts.specs.Expelling.{frames_left, HasExpelled}
use Rattle.wf_send_parts.specs.Windows.{window_of, with_window}
use Rattle.wf_send_half_model.specs.Half.{TransmitValue}
use Rattle.wf_send_half_model.specs.Standing.{Parts, StandsFor}

-- ---- changes of a half

-- a frame from a window goes last on the finished list; x is the rest of the window of TID t of station s
abbrev pub after_expelled : TransmitValue → ℕ → ℕ → WindowValue → FrameValue → TransmitValue
after_expelled v s t x f =
    record v {
      windows = with_window v.windows s t x;
      flows = with_finished v.flows (v.flows.backlog.finished ++ f ∷ []);
    }

-- the queued frames of TID t of station s are dropped
abbrev pub after_tid_purged : TransmitValue → ℕ → ℕ → TransmitValue
after_tid_purged v s t = record v { flows = after_purge v.flows (tid_number s t) }

-- `dropped` frames are counted as `left`, and the station is on no list of the scheduler and no longer live
abbrev pub after_leave : TransmitValue → ℕ → ℕ → TransmitValue
after_leave v s dropped =
    record v {
      sched = everywhere (without_turns s) v.sched;
      members = set v.members s None;
      tally = many_settled_as (Dropped Left) dropped v.tally;
    }

-- ---- in the middle of a leave

-- the ids of the frames that the numbers of these TIDs of station s hold, in order
abbrev pub numbered_ids : World → ℕ → List ℕ → List ℕ
numbered_ids w s [] = []
numbered_ids w s (t ∷ ts) = waiting_ids (session w s t).slots ++ numbered_ids w s ts

-- the half with these flow queues, and with `dropped` more frames counted as `left`
abbrev pub with_left : TransmitValue → FlowsValue → ℕ → TransmitValue
with_left v flows dropped = record v { flows = flows; tally = many_settled_as (Dropped Left) dropped v.tally }

-- the flow queues hold the frames `taken` in addition, counting queued and finished ones
pub record HaveTaken (before after : FlowsValue) (taken : List ℕ) : Type 0 where
  pub times : (id : ℕ) → times_held after.backlog id ≡ times_held before.backlog id + on taken id
  pub count : held_in_backlog after.backlog ≡ held_in_backlog before.backlog + length taken

-- the windows of station s are empty for the TIDs below t; all other windows are unchanged
pub record AreEmptied (before after : List WindowValue) (s t : ℕ) : Type 0 where
  pub sized : length after ≡ length before
  pub empty : (k : ℕ) → k < t → (window_of after s k).places ≡ []
  pub others : (i k : ℕ) → k < 8 → (i ≡ s → k < t → ⊥) → window_of after i k ≡ window_of before i k

-- In the middle of the leave of station s. Before it, `before` represented w. Only the windows and the flow
-- queues of v have changed since. The frames of the ids `taken` had numbers and are finished, `dropped`
-- frames are dropped in all, and the world is `now`. The TIDs below t list no queue. The counts are settled
-- at the end of the leave, all at once.
pub record HasDropped (before : TransmitValue) (w : World) (bodies : ℕ → FrameValue) (s t : ℕ)
    (v : TransmitValue) (now : World) (taken : List ℕ) (dropped : ℕ) : Type 0 where
  pub stood : StandsFor before w bodies
  pub allowed : refusal w (Asked (Leave s)) ≡ None
  pub rest : v ≡ record before { windows = v.windows; flows = v.flows }
  -- the world keeps the sessions until the end while the windows are emptied, so this is about the windows as
  -- they were before the leave
  pub parts : Parts (with_left before v.flows dropped) now bodies
  pub moved : HaveTaken before.flows v.flows taken
  pub grown : length v.flows.backlog.finished ≡ length before.flows.backlog.finished + dropped
  pub unlisted : (k : ℕ) → k < t → tid_rotation v.flows (tid_number s k) ≡ no_keys
  pub queued : QueuedAreHeld v.flows now
  -- a frame that is neither queued nor finished keeps its fate
  pub fates : (id : ℕ) → times_held v.flows.backlog id ≡ 0 → (frame now id).fate ≡ (frame w id).fate

-- between two TIDs: those below t have left
pub record IsLeaving (before : TransmitValue) (w : World) (bodies : ℕ → FrameValue) (s t : ℕ)
    (v : TransmitValue) (dropped : ℕ) : Type 0 where
  pub so_far : HasDropped before w bodies s t v (after_tids_left w s (upto t))
      (numbered_ids w s (upto t)) dropped
  pub windows : AreEmptied before.windows v.windows s t

-- TID t is leaving: its window has given these frames, and they are finished
pub record IsExpelling (before : TransmitValue) (w : World) (bodies : ℕ → FrameValue) (s t : ℕ)
    (v : TransmitValue) (frames : List FrameValue) (dropped : ℕ) : Type 0 where
  pub tid : t < 8
  pub so_far : HasDropped before w bodies s t v
      (with_frames_finished (after_tids_left w s (upto t)) (Dropped Left) (ids frames))
      (numbered_ids w s (upto t) ++ ids frames) dropped
  pub expelled : HasExpelled (window_of v.windows s t) (session w s t) bodies frames
  pub windows : AreEmptied before.windows (with_window v.windows s t (window_of before.windows s t)) s t

-- the window of TID t has given all its frames; next, its queues are purged
pub record IsExpelled (before : TransmitValue) (w : World) (bodies : ℕ → FrameValue) (s t : ℕ)
    (v : TransmitValue) (dropped : ℕ) : Type 0 where
  pub expelling : IsExpelling before w bodies s t v (frames_left bodies (session w s t)) dropped
  pub empty : (window_of v.windows s t).places ≡ []
