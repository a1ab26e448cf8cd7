-- Defines the flow queues of "Ending the Anomaly" (USENIX ATC 2017), section 3.1, algorithms 1 and 2: the
-- frames in each queue, the queues that each TID lists, and how a frame is put in and taken out. Two rules
-- are this project's own: a queue's deficit is set when the queue is listed, and `codel_reset`.
use Rattle.std.specs.Prelude.{nat_le, ◌≡◌, ◌<◌, ◌≤◌, ℕ, suc, ◌+◌, ◌*◌, ◌%◌, ◌==◌, nat_lt, ℤ, pos, ◌+ℤ◌, ◌-ℤ◌, Bool, true, not, ◌&&◌, ◌||◌, List, [], ◌∷◌, ◌++◌, Option, Some, None, if◌then◌else◌, length, map, filter, replicate, sum_by, slice_index_or, slice_set}
use Rattle.std.specs.List.{list_any}
use Rattle.wf_frame.specs.Classes.{tid_number}
use Rattle.wf_frame.specs.Frames.{FrameValue}
use Rattle.wf_frame.specs.declared.classes.Cause.{Cause}
use Rattle.wf_frame.specs.declared.classes.Cause.TheVariants.{Left, Flushed}
use Rattle.wf_def_lists.specs.Table.{upto}
use Rattle.wf_frame.specs.declared.settings.Config.{Config}
use Rattle.wf_def_codel.specs.Codel.{Params, Codel, new_codel, renewed}
use Rattle.wf_def_rotation.specs.Rotation.{Rotation, no_keys, has_key, in_order, with_new_key, Picked, pick}
use Rattle.wf_rotation.specs.Lists.{lists_at}
use Rattle.wf_rotation.specs.Rotas.{Rotas, deficit_at, need_at}
use Rattle.wf_def_world.specs.World.{Queue}
use Rattle.wf_def_world.specs.FlowQueues.{longest_of}
use Rattle.wf_queue_flows.specs.Backlog.{BacklogValue, frames_at, queue_octets, in_queues, first_id, item_of, with_frames, backlog_when_listed, after_head_drop, after_emptying, unchanged, given_at, backlog_after_take}

-- Queues below `flows` are shared by all TIDs; each TID has one more, its overflow queue. Queue q is key q of
-- the rotations.
pub record FlowsValue : Type 0 where
  pub flows : ℕ
  pub stations : ℕ
  pub limit : ℕ
  pub flow_quantum : ℕ
  pub keep_order : ℕ
  pub codel_reset : ℕ
  pub backlog : BacklogValue
  pub rotas : Rotas

-- the settings, which no call changes
pub record SettingsValue : Type 0 where
  pub flows : ℕ
  pub stations : ℕ
  pub limit : ℕ
  pub flow_quantum : ℕ
  pub keep_order : ℕ
  pub codel_reset : ℕ
  pub room : ℕ

abbrev pub settings : FlowsValue → SettingsValue
settings v = record {
  flows = v.flows;
  stations = v.stations;
  limit = v.limit;
  flow_quantum = v.flow_quantum;
  keep_order = v.keep_order;
  codel_reset = v.codel_reset;
  room = v.backlog.room;
}

abbrev pub tids : FlowsValue → ℕ
tids v = 8 * v.stations

abbrev pub queues : FlowsValue → ℕ
queues v = v.flows + tids v

-- the queues that TID i lists
abbrev pub tid_rotation : FlowsValue → ℕ → Rotation
tid_rotation v i = lists_at v.rotas.lists i

abbrev pub is_listed : FlowsValue → ℕ → ℕ → Bool
is_listed v i q = has_key (tid_rotation v i) q

abbrev pub backlog_has_frames : BacklogValue → ℕ → Bool
backlog_has_frames b q = nat_lt 0 (length (frames_at b q))

-- the frames in these queues
abbrev pub frames_waiting : List (List FrameValue) → List ℕ → ℕ
frames_waiting all qs = sum_by (λ q. length (slice_index_or all q [])) qs

-- the frames in the queues of TID i
abbrev pub frames_of_tid : FlowsValue → ℕ → ℕ
frames_of_tid v i = frames_waiting v.backlog.queues (in_order (tid_rotation v i))

-- no frame and no list, with these settings
abbrev pub empty_flows : Config → FlowsValue
empty_flows c =
    let n : ℕ = c.flows + 8 * c.stations in
    record {
      flows = c.flows;
      stations = c.stations;
      limit = c.limit;
      flow_quantum = c.flow_quantum;
      keep_order = c.keep_order;
      codel_reset = c.codel_reset;
      backlog = record {
        room = c.room;
        queues = replicate n [];
        codels = replicate n new_codel;
        finished =
            [];
      };
      rotas = record {
        lists = replicate (8 * c.stations) no_keys;
        deficits =
            replicate n (pos c.flow_quantum);
        quanta = replicate n c.flow_quantum;
      };
    }

-- A queue with frames is listed by exactly one TID, and the overflow queue of a TID by that TID alone.
pub record AreListedOnce (v : FlowsValue) : Type 0 where
  pub listed : (q : ℕ) → 0 < length (frames_at v.backlog q) → (i : ℕ) × (i < tids v) ×
      (is_listed v i q ≡ true)
  pub once : (q i j : ℕ) → is_listed v i q ≡ true → is_listed v j q ≡ true → i ≡ j
  pub overflow : (q i : ℕ) → is_listed v i q ≡ true → v.flows ≤ q → q ≡ v.flows + i

-- ---- the limit

-- a queue as the machine's world has it, for its octets
abbrev pub as_queue : List FrameValue → Queue
as_queue frames = record { items = map item_of frames; deficit = pos 0; codel = new_codel }

-- the longest queue, the least number on a tie
unfoldable pub longest_queue : BacklogValue → ℕ
longest_queue b = longest_of (map as_queue b.queues)

-- the queues hold `limit` frames or more
abbrev pub flows_at_limit : FlowsValue → Bool
flows_at_limit v = nat_le v.limit (in_queues v.backlog)

-- then the head of the longest is dropped as Overlimit
unfoldable pub after_limit : FlowsValue → FlowsValue
after_limit v = if flows_at_limit v then record
    v { backlog = after_head_drop v.backlog (longest_queue v.backlog) } else v

-- the id of the frame that is dropped for the limit
unfoldable pub dropped_for_limit : FlowsValue → Option ℕ
dropped_for_limit v = if flows_at_limit v then first_id (frames_at v.backlog (longest_queue v.backlog))
    else None

-- the next frame that is put in drops a frame of TID t of station s: the queues are at their limit, and the
-- TID lists the longest
abbrev pub loses_next : FlowsValue → ℕ → ℕ → Bool
loses_next v s t = flows_at_limit v && is_listed v (tid_number s t) (longest_queue v.backlog)

-- ---- putting a frame in

-- whether a TID other than i lists q
abbrev pub is_listed_by_another : FlowsValue → ℕ → ℕ → Bool
is_listed_by_another v i q = list_any (λ j. not (j == i) && is_listed v j q) (upto (tids v))

abbrev pub overflow_of_tid : FlowsValue → ℕ → ℕ
overflow_of_tid v i = v.flows + i

-- a frame of flow queue q, if there are that many flow queues
abbrev pub is_of_queue : ℕ → ℕ → FrameValue → Bool
is_of_queue flows q f = (f.flow % flows) == q

-- whether the overflow queue of TID i holds a frame of flow queue q
abbrev pub is_in_overflow : FlowsValue → ℕ → ℕ → Bool
is_in_overflow v i q = list_any (is_of_queue v.flows q) (frames_at v.backlog (overflow_of_tid v i))

-- whether a frame of flow queue q goes into the overflow queue of TID i: another TID lists q or, with
-- `keep_order`, the overflow queue still holds a frame of q
unfoldable pub goes_to_overflow : FlowsValue → ℕ → ℕ → Bool
goes_to_overflow v i q = is_listed_by_another v i q || ((v.keep_order == 1) && is_in_overflow v i q)

unfoldable pub queue_for : FlowsValue → ℕ → ℕ → ℕ
queue_for v i flow = if goes_to_overflow v i (flow % v.flows) then overflow_of_tid v i else flow % v.flows

-- the queue goes last on the TID's new list, with a fresh deficit, unless it is listed
unfoldable pub with_listed_queue : FlowsValue → ℕ → ℕ → FlowsValue
with_listed_queue v i q =
    if is_listed v i q then v
    else record v {
      backlog = backlog_when_listed v.codel_reset v.backlog q;
      rotas = record v.rotas {
        lists = slice_set v.rotas.lists i (with_new_key (tid_rotation v i) q);
        deficits = slice_set v.rotas.deficits q (pos v.flow_quantum);
      };
    }

abbrev pub with_appended : FlowsValue → ℕ → FrameValue → FlowsValue
with_appended v q f = record v { backlog = with_frames v.backlog q (frames_at v.backlog q ++ f ∷ []) }

abbrev pub after_put_in : FlowsValue → ℕ → ℕ → FrameValue → FlowsValue
after_put_in v i q f = with_listed_queue (with_appended v q f) i q

-- TID i puts a frame in
unfoldable pub after_put : FlowsValue → ℕ → FrameValue → FlowsValue
after_put v i f = after_put_in (after_limit v) i (queue_for (after_limit v) i f.flow) f

-- ---- taking a frame out

-- the pick among the queues of TID i, of which those with frames are ready
abbrev pub pick_of_tid : FlowsValue → ℕ → Picked
pick_of_tid v i = pick (need_at v.rotas) (backlog_has_frames v.backlog) (tid_rotation v i)

-- the deficits from queue q on, each with its quanta
abbrev pub with_quanta_paid : (ℕ → ℕ) → ℕ → ℕ → List ℤ → List ℤ
with_quanta_paid quanta quantum q [] = []
with_quanta_paid quanta quantum q (d ∷ ds) = (d +ℤ pos (quanta q * quantum))
    ∷ with_quanta_paid quanta quantum (suc q) ds

unfoldable pub after_pick : FlowsValue → ℕ → FlowsValue
after_pick v i = record v {
  rotas = record v.rotas {
    lists = slice_set v.rotas.lists i (pick_of_tid v i).lists;
    deficits = with_quanta_paid (pick_of_tid v i).quanta v.flow_quantum 0 v.rotas.deficits;
  };
}

-- the flow queues after a take, and the frame that it returns
pub record TakenFromFlows : Type 0 where
  pub flows : FlowsValue
  pub frame : Option FrameValue

abbrev pub length_given : Option FrameValue → ℕ
length_given None = 0
length_given (Some f) = length f.body

-- CoDel takes a frame from the queue, and its length leaves the queue's deficit
abbrev pub taken_by_codel : FlowsValue → ℕ → ℕ → Params → Option FrameValue → TakenFromFlows
taken_by_codel v q now params given = record {
  flows = record v {
    backlog = backlog_after_take params now v.backlog q;
    rotas = record v.rotas {
      deficits = slice_set v.rotas.deficits q
          (deficit_at v.rotas.deficits q -ℤ pos (length_given given));
    };
  };
  frame = given;
}

abbrev pub taken_from_picked : FlowsValue → Option ℕ → ℕ → Params → TakenFromFlows
taken_from_picked v None now params = record { flows = v; frame = None }
taken_from_picked v (Some q) now params = taken_by_codel v q now params (given_at params now v.backlog q)

-- the take leaves these flow queues, and returns this frame
abbrev pub TakeGives : FlowsValue → FrameValue → TakenFromFlows → Type 0
TakeGives after f t = (after ≡ t.flows) × (Some f ≡ t.frame)

-- TID i takes a frame out
unfoldable pub taken_for_tid : FlowsValue → ℕ → ℕ → Params → TakenFromFlows
taken_for_tid v i now params = taken_from_picked (after_pick v i) (pick_of_tid v i).winner now params

-- ---- leaving

-- the queues of TID i, by their numbers
abbrev pub queues_of : FlowsValue → ℕ → List ℕ
queues_of v i = filter (is_listed v i) (upto (queues v))

-- the octets of the bodies in the queues of TID i
abbrev pub octets_of_tid : FlowsValue → ℕ → ℕ
octets_of_tid v i = sum_by (λ q. queue_octets (frames_at v.backlog q)) (queues_of v i)

-- all frames of these queues are dropped for this cause, and their CoDel states become `codel` of them
unfoldable pub all_emptied : Cause → (Codel → Codel) → BacklogValue → List ℕ → BacklogValue
all_emptied cause codel b [] = b
all_emptied cause codel b (q ∷ qs) = all_emptied cause codel (after_emptying cause codel b q) qs

-- all frames of TID i are dropped, and its queues leave its rotation
unfoldable pub after_purge : FlowsValue → ℕ → FlowsValue
after_purge v i = record v {
  backlog = all_emptied Left renewed v.backlog (queues_of v i);
  rotas = record v.rotas { lists = slice_set v.rotas.lists i no_keys };
}

-- ---- a flush

-- all frames of TID i are dropped; its queues stay in its rotation
unfoldable pub after_tid_flush : FlowsValue → ℕ → FlowsValue
after_tid_flush v i = record v { backlog = all_emptied Flushed unchanged v.backlog (queues_of v i) }
