-- Defines the law of CoDel in whole runs (RFC 8289, section 5): which dequeues of a queue the calls of a
-- history make, and that the two laws of wf_law_rules (specs/CodelLaws) hold for them. CoDel drops a frame
-- only if each look of the last interval saw a standing queue, and only a limited number of frames in a time.
--
-- Only a Pull dequeues. CoDel's state of a queue changes otherwise only by a Leave of the station that lists
-- the queue and, with the setting `codel_reset`, when the queue becomes listed. After both, as in a new
-- queue, no look has seen a standing queue. So the laws speak of the dequeues since the last of these. A
-- Flush drops the frames of queues without a dequeue, and their CoDel states stay.
use Rattle.std.specs.Prelude.{◌≡◌, ℕ, zero, suc, ◌-◌, ◌<◌, ◌==◌, Bool, not, ◌&&◌, List, [], ◌∷◌, ◌++◌, Option, Some, None, is_none, if◌then◌else◌, length, take, slice_get}
use Rattle.std.specs.List.{list_any}
use Rattle.wf_frame.specs.declared.settings.Config.{Config}
use Rattle.wf_frame.specs.declared.classes.Class.{Class}
use Rattle.wf_frame.specs.declared.classes.Cause.TheVariants.{Codel as By_codel}
use Rattle.wf_frame.specs.declared.classes.Fate.TheVariants.{Dropped}
use Rattle.wf_frame.specs.declared.notes.Ask.TheVariants.{Leave, Pull}
use Rattle.wf_frame.specs.declared.notes.Limits.{Limits}
use Rattle.wf_frame.specs.declared.notes.Note.{Note}
use Rattle.wf_frame.specs.declared.notes.Note.TheVariants.{Enqueue, Asked}
use Rattle.wf_def_lists.specs.Table.{upto}
use Rattle.wf_def_codel.specs.Codel.{Codel, new_codel, renewed, Item}
use Rattle.wf_def_rotation.specs.Rotation.{has_key}
use Rattle.wf_def_agreement.specs.Session.{request_due}
use Rattle.wf_def_world.specs.World.{World, Mpdu, opening, with_bounds, session, tid_of, queue, codel_params, frame}
use Rattle.wf_def_world.specs.FlowQueues.{after_limit, queue_for, calmed, Taken, picked_queue, taken_for_tid}
use Rattle.wf_def_world.specs.CanSend.{can_give}
use Rattle.wf_def_world.specs.Exchanges.{most_frames, fits_in, waiting_mpdus, longest_fitting, fresh_mpdus, with_number, picked_station, after_pick, bounds_of, sending_tid, after_tid_turn}
use Rattle.wf_def_world.specs.Refusals.{refusal}
use Rattle.wf_def_world.specs.Step.{step}
use Rattle.wf_def_world.specs.Run.{Entry, world_after}
use Rattle.wf_def_world.specs.Stretches.{world_at}
use Rattle.wf_law_rules.specs.CodelLaws.{Dequeue, codel_after_all, drops_by, looks_in, first_looks, HasStood, IsDroppingTime, HasRate}

-- ---- the dequeues of a queue by a call

-- Returns a dequeue of queue q for station s: CoDel's parameters, the clock, and the frames of the queue.
abbrev pub dequeue_for : World → ℕ → ℕ → Dequeue
dequeue_for w s q = record { times = codel_params w s; now = w.clock; items = (queue w q).items }

-- Returns the list of the dequeue v if queue q is the picked one, else no dequeue.
abbrev pub if_picked : Option ℕ → ℕ → Dequeue → List Dequeue
if_picked None q v = []
if_picked (Some p) q v = if p == q then v ∷ [] else []

-- Returns the dequeue of queue q that a take for TID t of station s makes, if it makes one.
abbrev pub dequeue_of_take : World → ℕ → ℕ → ℕ → List Dequeue
dequeue_of_take w s t q = if_picked (picked_queue w s t).winner q (dequeue_for w s q)

-- Returns the dequeues of queue q by which at most n fresh frames are added to an aggregate of TID t of
-- station s (`with_fresh`), in order.
abbrev pub dequeues_of_fresh : ℕ → World → ℕ → ℕ → List Mpdu → ℕ → List Dequeue
dequeues_of_fresh zero w s t mpdus q = []
dequeues_of_fresh (suc n) w s t mpdus q =
    if not (can_give w s t) then []
    else let taken : Taken = taken_for_tid w s t in
    let longer : List Mpdu = mpdus ++ fresh_mpdus w s t taken.item in
    let numbered : World = with_number taken.world s t taken.item in
    dequeue_of_take w s t q
    ++ (if fits_in w s longer then dequeues_of_fresh n numbered s t longer q else [])

-- Returns the dequeues of queue q that make the aggregate of TID t of station s: none if not all of its
-- waiting numbers fit.
abbrev pub dequeues_of_aggregate : World → ℕ → ℕ → ℕ → List Dequeue
dequeues_of_aggregate w s t q =
    let waiting : List Mpdu = waiting_mpdus w s t in
    let chosen : List Mpdu = longest_fitting w s waiting in
    if length chosen == length waiting
    then dequeues_of_fresh (most_frames w s - length chosen) w s t chosen q
    else []

-- Returns the dequeues of queue q that prepare what TID t of station s sends: none if a request is due.
abbrev pub dequeues_of_exchange : World → ℕ → ℕ → ℕ → List Dequeue
dequeues_of_exchange w s t q = if request_due (session w s t) then [] else dequeues_of_aggregate w s t q

-- Returns the dequeues of queue q by a Pull of a class with this winner. The world is that after the pick.
abbrev pub dequeues_of_winner : World → Class → Option ℕ → ℕ → List Dequeue
dequeues_of_winner w c None q = []
dequeues_of_winner w c (Some s) q =
    dequeues_of_exchange (after_tid_turn w s c (sending_tid w s c)) s (sending_tid w s c) q

-- Returns the dequeues of queue q by a Pull of a class with these limits that is not refused.
abbrev pub dequeues_of_pull : World → Class → Limits → ℕ → List Dequeue
dequeues_of_pull w c limits q =
    let picked : World = with_bounds (after_pick w c) (bounds_of w.config c limits) in
    dequeues_of_winner picked c (picked_station w c).winner q

-- Returns the dequeues of queue q by a call.
abbrev pub dequeues_by : World → ℕ → Note → List Dequeue
dequeues_by w q (Asked (Pull c l)) =
    if is_none (refusal w (Asked (Pull c l))) then dequeues_of_pull w c l q else []
dequeues_by w q _ = []

-- ---- the dequeues of a queue by the calls of a history

-- CoDel's state of a queue when no look has seen it standing, and the dequeues of the queue since then.
pub record Visits : Type 0 where
  pub start : Codel
  pub dequeues : List Dequeue

-- The visits of a queue at the start.
abbrev pub no_visits : Visits
no_visits = record { start = new_codel; dequeues = [] }

-- Returns the visits of a queue whose station left.
abbrev pub renewed_visits : Visits → Visits
renewed_visits x = record { start = renewed (codel_after_all x.start x.dequeues); dequeues = [] }

-- Returns the visits of a queue whose CoDel state is calmed.
abbrev pub calmed_visits : Visits → Visits
calmed_visits x = record { start = calmed (codel_after_all x.start x.dequeues); dequeues = [] }

-- Returns whether some TID of station s lists queue q.
abbrev pub lists_queue : World → ℕ → ℕ → Bool
lists_queue w s q = list_any (λ t. has_key (tid_of w s t).queues q) (upto 8)

-- Returns whether queue q becomes listed when TID t of station s gets a frame of this flow. The world is that
-- after the drop for the limit.
abbrev pub becomes_listed : World → ℕ → ℕ → ℕ → ℕ → Bool
becomes_listed w s t flow q = (queue_for w s t flow == q) && not (has_key (tid_of w s t).queues q)

-- Returns the visits of queue q after a call that is not refused, from those before it.
abbrev pub visits_done : World → ℕ → Note → Visits → Visits
visits_done w q (Enqueue s t flow len) x =
    if (w.config.codel_reset == 1) && becomes_listed (after_limit w) s t flow q then calmed_visits x else x
visits_done w q (Asked (Leave s)) x = if lists_queue w s q then renewed_visits x else x
visits_done w q (Asked (Pull c l)) x = record x { dequeues = x.dequeues ++ dequeues_of_pull w c l q }
visits_done w q _ x = x

-- Returns the visits of queue q after a call.
abbrev pub visits_after : World → ℕ → Note → Visits → Visits
visits_after w q note x = if is_none (refusal w note) then visits_done w q note x else x

-- Returns the visits of queue q after the calls of a history.
abbrev pub visits_in : World → ℕ → List Entry → Visits → Visits
visits_in w q [] x = x
visits_in w q (e ∷ es) x = visits_in (step w e.1).world q es (visits_after w q e.1 x)

-- Returns the visits of queue q after the first m entries of a history.
abbrev pub visits_at : Config → List Entry → ℕ → ℕ → Visits
visits_at config h m q = visits_in (opening config) q (take m h) no_visits

-- ---- the law

-- The visits x of queue q.
pub record KeepsCodel (w : World) (q : ℕ) (x : Visits) : Type 0 where
  -- The queue has the state after these dequeues, and no look before them saw a standing queue.
  pub state : (queue w q).codel ≡ codel_after_all x.start x.dequeues
  pub start : x.start.first_above ≡ 0
  -- If dequeue v drops its frame i, each look of the interval before saw a standing queue, up to the look at
  -- this frame.
  pub standing : (before after : List Dequeue) (v : Dequeue) (i : ℕ) → x.dequeues ≡ before ++ v ∷ after →
      i < drops_by (codel_after_all x.start before) v →
      HasStood v.now (looks_in x.start before ++ first_looks v (suc i))
  -- If dropping begins with dequeue v and goes on for at most T microseconds in the dequeues `visits` after
  -- it, no more frames are dropped in this time than the control law allows.
  pub rate : (interval T : ℕ) (before visits after : List Dequeue) (v : Dequeue) →
      x.dequeues ≡ before ++ v ∷ visits ++ after →
      IsDroppingTime interval T (codel_after_all x.start before) v visits →
      HasRate interval T (codel_after_all x.start before) (v ∷ visits)

-- By the call, the frame with this id gets the fate of the frames that CoDel drops.
pub record GetsDropped (w : World) (note : Note) (id : ℕ) : Type 0 where
  pub new : (frame w id).fate ≡ Dropped By_codel → ⊥
  pub fate : (frame (step w note).world id).fate ≡ Dropped By_codel

-- A dequeue of queue q by the call drops the frame with this id. Before the call, the queue's visits are x.
pub record IsDroppedBy (w : World) (note : Note) (id q : ℕ) (x : Visits) : Type 0 where
  pub before : List Dequeue
  pub dequeue : Dequeue
  pub after : List Dequeue
  pub number : ℕ
  pub item : Item
  -- It is one of the dequeues of queue q by the call, at the clock of the call.
  pub split : dequeues_by w q note ≡ before ++ dequeue ∷ after
  pub clock : dequeue.now ≡ w.clock
  -- The frame is the one with this number in the queue, and the dequeue drops more than this number.
  pub found : slice_get dequeue.items number ≡ Some item
  pub named : item.id ≡ id
  pub dropped : number < drops_by (codel_after_all x.start (x.dequeues ++ before)) dequeue
  -- Each look of the interval before saw a standing queue, up to the look at this frame.
  pub stood : HasStood w.clock (looks_in x.start (x.dequeues ++ before) ++ first_looks dequeue (suc number))

-- After the entries `before`, a dequeue of some queue by the call drops the frame with this id.
pub record HasDequeue (config : Config) (before : List Entry) (note : Note) (id : ℕ) : Type 0 where
  pub queue : ℕ
  pub dropped : IsDroppedBy (world_after (opening config) before) note id queue
      (visits_in (opening config) queue before no_visits)

-- The law of CoDel.
pub record CodelLaw (config : Config) (h : List Entry) : Type 0 where
  -- After each entry, `KeepsCodel` holds for the visits of each queue.
  pub kept : (m q : ℕ) → KeepsCodel (world_at config h m) q (visits_at config h m q)
  -- Each frame that CoDel drops is dropped by a dequeue of the entry with which it gets this fate.
  pub dropped : (before after : List Entry) (e : Entry) (id : ℕ) → h ≡ before ++ e ∷ after →
      GetsDropped (world_after (opening config) before) e.1 id → HasDequeue config before e.1 id
