-- Defines numbered queues of frames, each with a CoDel state (RFC 8289, section 5.2), and the list of the
-- finished frames.
use Rattle.std.specs.Prelude.{◌≡◌, ◌<◌, ◌≤◌, ◌^◌, ℕ, suc, ◌+◌, ◌-◌, ◌==◌, nat_lt, Bool, if◌then◌else◌, List, [], ◌∷◌, ◌++◌, Option, Some, None, All, length, map, take, drop, sum_by, slice_get, slice_index_or, slice_set}
use Rattle.wf_frame.specs.Frames.{FrameValue}
use Rattle.wf_frame.specs.declared.classes.Fate.{Fate}
use Rattle.wf_frame.specs.declared.classes.Fate.TheVariants.{Dropped}
use Rattle.wf_frame.specs.declared.classes.Cause.{Cause}
use Rattle.wf_frame.specs.declared.classes.Cause.TheVariants.{Overlimit, Codel as By_codel}
use Rattle.wf_def_codel.specs.Codel.{Item, Params, Codel, new_codel, Dequeued, dequeue}
use Rattle.wf_def_lists.specs.Lengths.{greatest_body}
use Rattle.wf_def_world.specs.FlowQueues.{calmed}

-- the queues by number, the CoDel state of each, and the finished frames in the order in which they will be
-- reaped
pub record BacklogValue : Type 0 where
  pub room : ℕ
  pub queues : List (List FrameValue)
  pub codels : List Codel
  pub finished : List FrameValue

-- ---- reading a backlog

-- the frames of queue q, none past the last queue
abbrev pub frames_at : BacklogValue → ℕ → List FrameValue
frames_at v q = slice_index_or v.queues q []

abbrev pub codel_at : BacklogValue → ℕ → Codel
codel_at v q = slice_index_or v.codels q new_codel

-- the number of frames in the queues, and of all frames
abbrev pub in_queues : BacklogValue → ℕ
in_queues v = sum_by length v.queues

abbrev pub held_in_backlog : BacklogValue → ℕ
held_in_backlog v = in_queues v + length v.finished

-- the number of further frames that there is room for
abbrev pub spare_of : BacklogValue → ℕ
spare_of v = v.room - held_in_backlog v

abbrev pub first_id : List FrameValue → Option ℕ
first_id [] = None
first_id (f ∷ rest) = Some f.id

-- the parts of a frame that CoDel reads
abbrev pub item_of : FrameValue → Item
item_of f = record { id = f.id; stamp = f.stamp; len = length f.body }

-- the sum of the body lengths of a queue's frames
abbrev pub queue_octets : List FrameValue → ℕ
queue_octets = sum_by (λ f. length f.body)

-- the octets of each queue
abbrev pub octets_per_queue : BacklogValue → List ℕ
octets_per_queue v = map queue_octets v.queues

-- a queue has frames, and whether each has
abbrev pub is_some_frame : List FrameValue → Bool
is_some_frame frames = nat_lt 0 (length frames)

abbrev pub flags : BacklogValue → List Bool
flags v = map is_some_frame v.queues

-- queue q has the most octets, which are not 0, and it is the least of the queues with the most
pub record IsLongest (v : BacklogValue) (q : ℕ) : Type 0 where
  pub within : q < length v.queues
  pub some : 0 < queue_octets (frames_at v q)
  pub most : (other : ℕ) → other < length v.queues →
      queue_octets (frames_at v other) ≤ queue_octets (frames_at v q)
  pub least : (other : ℕ) → other < q → queue_octets (frames_at v other) < queue_octets (frames_at v q)

-- ---- changing it

abbrev pub frame_with_fate : Fate → FrameValue → FrameValue
frame_with_fate fate f = record f { fate = fate }

-- v with these frames in queue q
abbrev pub with_frames : BacklogValue → ℕ → List FrameValue → BacklogValue
with_frames v q frames = record v { queues = slice_set v.queues q frames }

-- v with the CoDel state of queue q calmed
abbrev pub with_calmed : BacklogValue → ℕ → BacklogValue
with_calmed v q = record v { codels = slice_set v.codels q (calmed (codel_at v q)) }

-- queue q becomes listed: with the setting `codel_reset` its CoDel state is calmed
abbrev pub backlog_when_listed : ℕ → BacklogValue → ℕ → BacklogValue
backlog_when_listed codel_reset v q = if codel_reset == 1 then with_calmed v q else v

-- the first frame of queue q goes last on the finished list, as dropped for the limit
abbrev pub after_head_drop : BacklogValue → ℕ → BacklogValue
after_head_drop v q = record v {
  queues = slice_set v.queues q (drop 1 (frames_at v q));
  finished = v.finished ++ map (frame_with_fate (Dropped Overlimit)) (take 1 (frames_at v q));
}

-- the CoDel state of a queue whose frames are dropped and whose station stays
abbrev pub unchanged : Codel → Codel
unchanged c = c

-- all frames of queue q go in order last on the finished list, as dropped for this cause, and its CoDel state
-- becomes `codel` of it
abbrev pub after_emptying : Cause → (Codel → Codel) → BacklogValue → ℕ → BacklogValue
after_emptying cause codel v q = record v {
  queues = slice_set v.queues q [];
  codels = slice_set v.codels q (codel (codel_at v q));
  finished = v.finished ++ map (frame_with_fate (Dropped cause)) (frames_at v q);
}

-- CoDel's dequeue on queue q, and the number of frames that it drops
abbrev pub dequeue_at : Params → ℕ → BacklogValue → ℕ → Dequeued
dequeue_at p now v q = dequeue p now (codel_at v q) (map item_of (frames_at v q))

abbrev pub drops_at : Params → ℕ → BacklogValue → ℕ → ℕ
drops_at p now v q = length (dequeue_at p now v q).dropped

-- the frame that it returns: the one after those that it drops
abbrev pub given_at : Params → ℕ → BacklogValue → ℕ → Option FrameValue
given_at p now v q = slice_get (frames_at v q) (drops_at p now v q)

-- the frames that it drops go in order last on the finished list, and the one that it returns leaves the
-- queue
abbrev pub backlog_after_take : Params → ℕ → BacklogValue → ℕ → BacklogValue
backlog_after_take p now v q = record v {
  queues = slice_set v.queues q (drop (suc (drops_at p now v q)) (frames_at v q));
  codels = slice_set v.codels q (dequeue_at p now v q).state;
  finished = v.finished ++ map (frame_with_fate (Dropped By_codel))
      (take (drops_at p now v q) (frames_at v q));
}

-- ---- its invariant

-- the body of a frame has at least one octet, and at most those of the greatest
abbrev pub IsBodySized : FrameValue → Type 0
IsBodySized f = (0 < length f.body) × (length f.body ≤ greatest_body)

-- the leaves of the tree are the octets of the queues; the flags say which queues have frames; the count is
-- the number of frames in the queues, and there is room for all
pub record IsBacklogKept (v : BacklogValue) (leaves : List ℕ) (ready : List Bool) (queued : ℕ) : Type 0 where
  pub states : length v.codels ≡ length v.queues
  pub leaves_are : leaves ≡ octets_per_queue v
  pub ready_are : ready ≡ flags v
  pub queued_is : queued ≡ in_queues v
  pub fits : held_in_backlog v ≤ v.room
  pub small : v.room < 2 ^ 32
  pub sized : All (All IsBodySized) v.queues
