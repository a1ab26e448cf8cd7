-- The limit, the queue and the frame compose to the put of the definition, and one frame more in a queue of
-- the TID is one more in the TID's count.
use Rattle.std.proofs.Common.{◌≡◌, ◌∙◌, ◌<◌, ap, arith, length, List, []}
use Rattle.std.specs.Prelude.{slice_index_or, sum_by}
use Rattle.wf_frame.specs.Frames.{FrameValue}
use Rattle.wf_frame.specs.Classes.{tid_number}
use Rattle.wf_queue_flows.specs.Backlog.{first_id, held_in_backlog}
use Rattle.wf_queue_flows.specs.Flows.{FlowsValue, tids, after_limit, queue_for, with_listed_queue, after_put, settings}
use Rattle.wf_queue_flows.proofs.Moves.{append_fits, append_keeps, append_is}
use Rattle.wf_queue_flows.proofs.Whole.{put_parts, roomy_same, roomy_none, full_id, put_full}
use Rattle.wf_queue_flows.proofs.Settings.{settings_put}
use Rattle.wf_queue_flows.proofs.flows.Flows.put.Goals as goal
use Rattle.wf_queue_flows.proofs.flows.Flows.put.Goals.{After-list_queue}

-- the number of the frame's TID
number : (c : After-list_queue) → c.tid_number-list.result
    ≡ tid_number c.args.parcel.station c.args.parcel.tid
number c = omega (
  arith,
  c.tid_number-list.ensures,
  c.station.ensures,
  c.tid.ensures,
  ap (λ (f : FrameValue). f.station) c.frame.ensures,
  ap (λ (f : FrameValue). f.tid) c.frame-2.ensures,
)

-- the limit and the choice of a queue leave the flow queues as they are
same : (c : After-list_queue) → c.queue_for-q.new.self ≡ c.args.self.now
same c = c.queue_for-q.ensures.same ∙ c.over_limit-over.ensures.same

-- the queue for the frame is the one of the definition
chosen : (c : After-list_queue) → c.queue_for-q.result
    ≡ queue_for (after_limit c.args.self.now) c.tid_number-list.result c.args.parcel.flow
chosen c = c.queue_for-q.ensures.queue
    ∙ ap (λ (w : FlowsValue). queue_for (after_limit w) c.tid_number-list.result c.flow-flow.result)
    c.over_limit-over.ensures.same
    ∙ ap (queue_for (after_limit c.args.self.now) c.tid_number-list.result)
    (c.flow-flow.ensures ∙ ap (λ (f : FrameValue). f.flow) c.frame-3.ensures)

-- that queue is listed
listed : (c : After-list_queue) → c.list_queue.new.self
    ≡ with_listed_queue c.args.self.now c.tid_number-list.result c.queue_for-q.result
listed c = c.list_queue.ensures.listed ∙ ap (λ (w : FlowsValue). with_listed_queue w c.tid_number-list.result
    c.queue_for-q.result) (same c)

low_list : (c : After-list_queue) → c.tid_number-list.result < tids c.list_queue.new.self
low_list c = omega (
  arith,
  number c,
  c.requires.station,
  c.requires.tid,
  c.list_queue.ensures.stations,
  ap (λ (w : FlowsValue). tids w) (same c),
)

pub overflow_add-index_mut : goal.overflow_add-index_mut
overflow_add-index_mut c =
    let at = (goal.at.overflow_add-index_mut c).After-list_queue in
    let low = low_list at in
    let room : held_in_backlog c.list_queue.new.self.backlog < c.list_queue.new.self.backlog.room = omega (
      arith,
      c.requires.room,
      ap (λ (all : List (List FrameValue)). sum_by length all) c.list_queue.ensures.frames,
      ap (λ (fs : List FrameValue). length fs) c.list_queue.ensures.finished,
      c.list_queue.ensures.room,
      ap (λ (w : FlowsValue). held_in_backlog w.backlog) (same at),
      ap (λ (w : FlowsValue). w.backlog.room) (same at),
    ) in
    let small = append_fits _ _ _ c.self.view_is c.self.invariant c.tid_number-list.result _ low room
    c.index_mut.ensures.value in
    omega arith

pub invariant_of-self : goal.invariant_of-self
invariant_of-self c =
    let low = low_list (goal.at.invariant_of-self c).After-list_queue in
    append_keeps _ _ _ c.self.view_is c.self.invariant c.tid_number-list.result c.queue_for-q.result _
    c.args.parcel _ low
    (omega (
      arith,
      c.queue_for-q.ensures.below,
      c.list_queue.ensures.stations,
      c.list_queue.ensures.flows,
      ap (λ (w : FlowsValue). tids w) c.queue_for-q.ensures.same,
      ap (λ (w : FlowsValue). w.flows) c.queue_for-q.ensures.same,
    ))
    c.list_queue.ensures.stands c.index_mut.ensures.value c.push.ensures.pushed

pub returns-in-None-clause-put : goal.returns-in-None-clause-put
returns-in-None-clause-put c =
    let at = (goal.at.returns-in-None-clause-put c).After-list_queue in
    put_parts c.args.self.now c.args.self.now c.list_queue.new.self _ c.tid_number-list.result
    c.queue_for-q.result c.args.parcel (roomy_same _ c.in-None.ensures.roomy) (chosen at) (listed at)
    (append_is _ _ _ c.self.view_is c.self.invariant c.queue_for-q.result c.args.parcel c.push.new.self
    c.push.ensures.pushed)
    ∙ ap (λ n. after_put c.args.self.now n c.args.parcel) (number at)

pub returns-in-None-clause-dropped : goal.returns-in-None-clause-dropped
returns-in-None-clause-dropped c = roomy_none _ c.in-None.ensures.roomy

pub returns-in-None-clause-settings : goal.returns-in-None-clause-settings
returns-in-None-clause-settings c = ap settings (returns-in-None-clause-put c)
    ∙ settings_put c.args.self.now (tid_number c.args.parcel.station c.args.parcel.tid) c.args.parcel

pub returns-in-Some-clause-put : goal.returns-in-Some-clause-put
returns-in-Some-clause-put c =
    let at = (goal.at.returns-in-Some-clause-put c).After-list_queue in
    put_full c.args.self.now c.in-Some.ensures.full c.in-Some.from.queue c.in-Some.ensures.longest
    c.list_queue.new.self c.exchange.new.self c.tid_number-list.result c.queue_for-q.result c.args.parcel
    (chosen at) (listed at) c.exchange.ensures.exchanged
    ∙ ap (λ n. after_put c.args.self.now n c.args.parcel) (number at)

pub returns-in-Some-clause-dropped : goal.returns-in-Some-clause-dropped
returns-in-Some-clause-dropped c = full_id c.args.self.now c.in-Some.ensures.full c.in-Some.from.queue
    c.in-Some.ensures.longest _
    (c.exchange.ensures.id ∙ ap (λ (all : List (List FrameValue)).
    first_id (slice_index_or all c.in-Some.from.queue []))
    (c.list_queue.ensures.frames ∙ ap (λ (w : FlowsValue). w.backlog.queues)
    (same (goal.at.returns-in-Some-clause-dropped c).After-list_queue)))

pub returns-in-Some-clause-settings : goal.returns-in-Some-clause-settings
returns-in-Some-clause-settings c = ap settings (returns-in-Some-clause-put c)
    ∙ settings_put c.args.self.now (tid_number c.args.parcel.station c.args.parcel.tid) c.args.parcel
