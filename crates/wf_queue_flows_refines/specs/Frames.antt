-- Defines how the frames in the flow queues compare with the accepted ones, which TID's frame the limit
-- drops, and how frames are counted by their fates.
use Rattle.std.specs.Prelude.{◌≡◌, ◌<◌, ◌≤◌, ℕ, ◌+◌, ◌*◌, ◌==◌, Bool, true, false, ◌&&◌, List, All, length, if◌then◌else◌}
use Rattle.wf_frame.specs.Frames.{FrameValue, source_octets}
use Rattle.wf_frame.specs.declared.classes.Cause.{Cause}
use Rattle.wf_frame.specs.declared.classes.Fate.{Fate}
use Rattle.wf_frame.specs.declared.classes.Fate.TheVariants.{Held, Dropped}
use Rattle.wf_frame.specs.declared.notes.Note.{Note}
use Rattle.wf_frame.specs.declared.notes.Note.TheVariants.{Enqueue}
use Rattle.wf_def_lists.specs.Lists.{on}
use Rattle.wf_def_rotation.specs.Rotation.{has_key}
use Rattle.wf_def_world.specs.World.{World, tid_of, frame, accepted_count, is_held}
use Rattle.wf_def_world.specs.FlowQueues.{is_at_limit, longest_queue}
use Rattle.wf_def_world.specs.Text.{same_fate, tally}
use Rattle.wf_queue_flows.specs.Backlog.{BacklogValue, frames_at, frame_with_fate}
use Rattle.wf_queue_flows.specs.Flows.{FlowsValue}
use Rattle.wf_queue_flows_refines.specs.Standing.{ids}

-- each queued frame satisfies P, and each finished one R
pub record HasEach (P R : FrameValue → Type 0) (b : BacklogValue) : Type 0 where
  pub queued : (q : ℕ) → All P (frames_at b q)
  pub finished : All R b.finished

-- the frames that pass a test
abbrev pub Passes : (FrameValue → Bool) → FrameValue → Type 0
Passes test f = test f ≡ true

-- a frame that satisfies P satisfies R once it is dropped, for any cause
abbrev pub DropsTo : (FrameValue → Type 0) → (FrameValue → Type 0) → Type 0
DropsTo P R = (f : FrameValue) (cause : Cause) → P f → R (frame_with_fate (Dropped cause) f)

-- the call that brought each accepted frame, by its id
abbrev pub notes : World → ℕ → Note
notes w id = (frame w id).note

-- f is a frame as it was accepted by the call `brought`: with the given id, a source of six octets, and
-- still held
pub record IsAccepted (given : ℕ) (brought : Note) (f : FrameValue) : Type 0 where
  pub id : f.id ≡ given
  pub source : length f.source ≡ source_octets
  pub fate : f.fate ≡ Held
  pub note : brought ≡ Enqueue f.station f.tid f.flow (length f.body)

-- `bodies` returns the accepted frame of each id that the world accepted
abbrev pub AreAccepted : World → (ℕ → FrameValue) → Type 0
AreAccepted w bodies = (id : ℕ) → id < accepted_count w → IsAccepted id (notes w id) (bodies id)

-- `bodies` with one more accepted frame
abbrev pub with_body : (ℕ → FrameValue) → FrameValue → ℕ → FrameValue
with_body bodies f id = if id == f.id then f else bodies id

-- f is the accepted frame of its id
abbrev pub IsBody : (ℕ → FrameValue) → FrameValue → Type 0
IsBody bodies f = f ≡ bodies f.id

-- f differs from the accepted frame of its id only in its fate, which is not Held
abbrev pub IsBodySettled : (ℕ → FrameValue) → FrameValue → Type 0
IsBodySettled bodies f = (record f { fate = Held } ≡ bodies f.id) × (is_held f.fate ≡ false)

-- each queued frame is the accepted one; each finished one differs from it only in its fate, which is
-- not Held
abbrev pub HasFrames : BacklogValue → (ℕ → FrameValue) → Type 0
HasFrames b bodies = HasEach (IsBody bodies) (IsBodySettled bodies) b

-- the next enqueue drops a frame of TID t of station s: the queues are at their limit, and the TID lists
-- the longest one
abbrev pub loses_next_in : World → ℕ → ℕ → Bool
loses_next_in w s t = is_at_limit w && has_key (tid_of w s t).queues (longest_queue w)

-- ---- counting the frames by their fates

-- 1 if the two fates are the same, otherwise 0
abbrev pub counts_as : Fate → Fate → ℕ
counts_as fate x = if same_fate fate x then 1 else 0

-- from one world to the next, n held frames get this fate, and the number of frames of any other fate is
-- unchanged
abbrev pub HaveSettled : World → World → Fate → ℕ → Type 0
HaveSettled before after fate n = (x : Fate) →
    tally after x + n * counts_as Held x ≡ tally before x + n * counts_as fate x

-- the frames of these ids were accepted and are held, and no id occurs twice
pub record AreHeld (w : World) (ids : List ℕ) : Type 0 where
  pub accepted : (id : ℕ) → 0 < on ids id → id < accepted_count w
  pub held : (id : ℕ) → 0 < on ids id → (frame w id).fate ≡ Held
  pub once : (id : ℕ) → on ids id ≤ 1

-- each frame in the queues is held in the world
abbrev pub QueuedAreHeld : FlowsValue → World → Type 0
QueuedAreHeld v w = (q id : ℕ) → 0 < on (ids (frames_at v.backlog q)) id → (frame w id).fate ≡ Held
