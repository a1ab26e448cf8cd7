-- Defines when the flow queues of the code agree with ("stand for") the flow queues of the machine's
-- world.
--
-- The code stores queues, CoDel states, deficits and rotations in lists of a fixed length, with the
-- frames themselves in the queues. A world has tables that grow: one for the queues, with their CoDel
-- states and deficits, and the rotations in the stations' entries. It stores of a queued frame only what
-- CoDel needs; the fate of a frame is stored under its id.
use Rattle.std.specs.Prelude.{◌≡◌, ◌<◌, ◌≤◌, ℕ, ◌+◌, true, All, List, ◌∷◌, [], length, map, sum_by, Option, Some, None}
use Rattle.wf_frame.specs.declared.settings.Config.{Config}
use Rattle.wf_frame.specs.declared.classes.Fate.{Fate}
use Rattle.wf_frame.specs.Frames.{FrameValue}
use Rattle.wf_def_rotation.specs.Rotation.{Rotation, has_key as lists_of, in_order}
use Rattle.wf_def_lists.specs.Lists.{on}
use Rattle.wf_rotation.specs.Rotas.{deficit_at, quantum_at}
use Rattle.wf_frame.specs.declared.classes.Cause.{Cause}
use Rattle.wf_frame.specs.declared.classes.Cause.TheVariants.{Flushed}
use Rattle.wf_frame.specs.declared.classes.Fate.TheVariants.{Dropped}
use Rattle.wf_def_agreement.specs.Session.{after_flush}
use Rattle.wf_def_codel.specs.Codel.{Codel}
use Rattle.wf_def_world.specs.World.{World, Queue, flow_of, tid_of, queue, frame, session, accepted_count, on_queue, on_session, with_frames_finished}
use Rattle.wf_def_world.specs.FlowQueues.{after_queues_flushed}
use Rattle.wf_def_world.specs.Step.{waiting_ids, in_rising_order}
use Rattle.wf_queue_flows.specs.Backlog.{BacklogValue, frames_at, codel_at, item_of}
use Rattle.wf_frame.specs.Classes.{tid_number}
use Rattle.wf_queue_flows.specs.Flows.{FlowsValue, SettingsValue, settings, tids, queues as queue_count, tid_rotation}

-- ---- the part of a world

-- the part of a world that the flow queues represent
pub record Part : Type 0 where
  pub config : Config
  pub lists : ℕ → ℕ → Rotation  -- by station and TID: the queues that it lists
  pub queues : ℕ → Queue  -- by number
  pub fates : ℕ → Fate  -- by id
  pub flows : ℕ → ℕ  -- the flow number of an accepted frame, by its id
  pub accepted : ℕ
  pub finished : List ℕ

abbrev pub flows_part : World → Part
flows_part w = record {
  config = w.config;
  lists = λ s t. (tid_of w s t).queues;
  queues = λ q. queue w q;
  fates = λ id. (frame w id).fate;
  flows = λ id. flow_of (frame w id).note;
  accepted = accepted_count w;
  finished = w.finished;
}

abbrev pub settings_in : Config → SettingsValue
settings_in c = record {
  flows = c.flows;
  stations = c.stations;
  limit = c.limit;
  flow_quantum = c.flow_quantum;
  keep_order = c.keep_order;
  codel_reset = c.codel_reset;
  room = c.room;
}

-- ---- the value of the code

-- the ids of these frames
abbrev pub ids : List FrameValue → List ℕ
ids frames = map (λ f. f.id) frames

-- the id of an optional frame
abbrev pub ids_given : Option FrameValue → List ℕ
ids_given None = []
ids_given (Some f) = f.id ∷ []

-- how often a frame with this id is queued or finished
abbrev pub times_held : BacklogValue → ℕ → ℕ
times_held b id = sum_by (λ frames. on (ids frames) id) b.queues + on (ids b.finished) id

-- v with this finished list
abbrev pub with_finished : FlowsValue → List FrameValue → FlowsValue
with_finished v frames = record v { backlog = record v.backlog { finished = frames } }

-- each list has one entry for each queue or TID, there is at least one flow queue, and all queues have
-- the same quantum
pub record AreFlowsSized (v : FlowsValue) : Type 0 where
  pub lists : length v.rotas.lists ≡ tids v
  pub deficits : length v.rotas.deficits ≡ queue_count v
  pub queues : length v.backlog.queues ≡ queue_count v
  pub codels : length v.backlog.codels ≡ queue_count v
  pub some_flows : 1 ≤ v.flows
  pub quanta : (q : ℕ) → q < queue_count v → quantum_at v.rotas.quanta q ≡ v.flow_quantum

-- ---- agreement

-- The flow queues v agree with the part p of a world: they have the same settings; each queue has the
-- same frames and CoDel state; each TID lists the same queues, each at most once, with the same
-- deficits. The deficit of a queue that no TID lists does not matter, since listing sets it. The
-- finished lists are the same, and the world has the same fate for each finished frame. Each queued or
-- finished frame was accepted, and is there once. Each queued frame has the flow number of the call that
-- brought it.
pub record Stands (v : FlowsValue) (p : Part) : Type 0 where
  pub sized : AreFlowsSized v
  pub settings : settings v ≡ settings_in p.config
  pub items : (q : ℕ) → (p.queues q).items ≡ map item_of (frames_at v.backlog q)
  pub codels : (q : ℕ) → (p.queues q).codel ≡ codel_at v.backlog q
  pub lists : (s t : ℕ) → s < v.stations → t < 8 → p.lists s t ≡ tid_rotation v (tid_number s t)
  pub once : (i q : ℕ) → on (in_order (tid_rotation v i)) q ≤ 1
  pub below : (i q : ℕ) → lists_of (tid_rotation v i) q ≡ true → q < queue_count v
  pub deficits : (i q : ℕ) → lists_of (tid_rotation v i) q ≡ true →
      (p.queues q).deficit ≡ deficit_at v.rotas.deficits q
  pub finished : p.finished ≡ ids v.backlog.finished
  pub fates : map (λ f. p.fates f.id) v.backlog.finished ≡ map (λ f. f.fate) v.backlog.finished
  pub accepted : (id : ℕ) → 0 < times_held v.backlog id → id < p.accepted
  pub held_once : (id : ℕ) → times_held v.backlog id ≤ 1
  pub flows : (q : ℕ) → All (λ f. p.flows f.id ≡ f.flow) (frames_at v.backlog q)

-- The flow queues v agree with those of the world w.
abbrev pub FlowsStandFor : FlowsValue → World → Type 0
FlowsStandFor v w = Stands v (flows_part w)

-- ---- the frames of a TID are dropped

-- the world after the frames of queue q were dropped for this cause, with `codel` of its CoDel state
unfoldable pub queue_emptied : Cause → (Codel → Codel) → World → ℕ → World
queue_emptied cause codel w q =
    with_frames_finished (on_queue w q (λ y. record y { items = []; codel = codel y.codel }))
    (Dropped cause) (map (λ x. x.id) (queue w q).items)

-- the same for each of these queues, in order
unfoldable pub queues_emptied : Cause → (Codel → Codel) → World → List ℕ → World
queues_emptied cause codel w [] = w
queues_emptied cause codel w (q ∷ qs) = queues_emptied cause codel (queue_emptied cause codel w q) qs

-- the world in which the numbers of a TID that wait have failed, with their frames dropped as Flushed
abbrev pub waiting_flushed : World → ℕ → ℕ → World
waiting_flushed w s t =
    with_frames_finished (on_session w s t (after_flush w.config.attempts)) (Dropped Flushed)
    (waiting_ids (session w s t).slots)

-- the world in which the waiting numbers of a TID failed and its queues are empty
abbrev pub tid_emptied : World → ℕ → ℕ → World
tid_emptied w s t =
    after_queues_flushed (waiting_flushed w s t) (in_rising_order (in_order (tid_of w s t).queues))
