-- Defines how a frame is put into the flow queues and how one is taken out, by section 3.1 of "Ending
-- the Anomaly" (USENIX ATC 2017): algorithms 1 (enqueue) and 2 (dequeue). Deficits and lengths are in
-- octets, times in microseconds. Two rules are this project's own: a queue's deficit is set when the
-- queue is listed, and `codel_reset`.
use Rattle.std.specs.Prelude.{ℕ, ◌+◌, ◌*◌, ◌%◌, ◌==◌, nat_lt, nat_le, pos, ◌+ℤ◌, ◌-ℤ◌, Bool, false, not, ◌&&◌, ◌||◌, List, [], ◌∷◌, ◌++◌, Option, Some, None, if◌then◌else◌, length, map, find, unwrap_or, sum_by}
use Rattle.std.specs.List.{list_any, list_all}
use Rattle.wf_frame.specs.declared.settings.Config.{Config}
use Rattle.wf_frame.specs.declared.classes.Cause.TheVariants.{Overlimit, Codel as By_codel, Left, Flushed}
use Rattle.wf_frame.specs.declared.classes.Fate.TheVariants.{Dropped}
use Rattle.wf_def_lists.specs.Table.{at, upto}
use Rattle.wf_def_codel.specs.Codel.{Item, Codel, renewed, octets, Dequeued, dequeue}
use Rattle.wf_def_rotation.specs.Rotation.{has_key, in_order, with_new_key, need_of, Picked, pick}
use Rattle.wf_def_world.specs.World.{World, Queue, new_queue, flow_of, tid_of, queue, frame, on_queue, with_queues, with_frame_finished, with_frames_finished, codel_params, live_stations}

-- the number of frames in all flow queues and overflow queues
abbrev pub total_queued : World → ℕ
total_queued w = sum_by (λ q. length q.items) w.queues

-- the number of frames in the queues that a TID lists
abbrev pub frames_queued : World → ℕ → ℕ → ℕ
frames_queued w s t = sum_by (λ q. length (queue w q).items) (in_order (tid_of w s t).queues)

-- whether no queue of the list has more octets than queue q
abbrev pub has_most : List Queue → ℕ → Bool
has_most queues q =
    list_all (λ x. nat_le (octets x.items) (octets (at new_queue queues q).items)) queues

-- the number of the longest queue of a list: the least among those with the most octets; 0 if the list is
-- empty
abbrev pub longest_of : List Queue → ℕ
longest_of queues = unwrap_or (find (has_most queues) (upto (length queues))) 0

-- the longest queue, among flow queues and overflow queues
abbrev pub longest_queue : World → ℕ
longest_queue w = longest_of w.queues

-- the world after queue q, whose frames are given, dropped its head for the limit
unfoldable pub without_head : World → ℕ → List Item → World
without_head w q [] = w
without_head w q (x ∷ rest) =
    with_frame_finished (on_queue w q (λ y. record y { items = rest })) (Dropped Overlimit) x.id

-- the id of a queue's first frame
abbrev pub head_id : List Item → Option ℕ
head_id [] = None
head_id (x ∷ rest) = Some x.id

-- whether the queues have at least as many frames as the setting `limit`
abbrev pub is_at_limit : World → Bool
is_at_limit w = nat_le w.config.limit (total_queued w)

-- the id of the frame that is dropped for the limit, if any: the head of the longest queue
abbrev pub dropped_for_limit : World → Option ℕ
dropped_for_limit w = if is_at_limit w then head_id (queue w (longest_queue w)).items else None

-- the world after that frame is dropped, if any is
unfoldable pub after_limit : World → World
after_limit w = if is_at_limit w then without_head w (longest_queue w) (queue w (longest_queue w)).items
    else w

-- whether TID j of station i is another TID than TID t of station s
abbrev pub is_other : ℕ → ℕ → ℕ → ℕ → Bool
is_other i j s t = not ((i == s) && (j == t))

-- whether another TID than TID t of station s lists queue q
abbrev pub is_listed_elsewhere : World → ℕ → ℕ → ℕ → Bool
is_listed_elsewhere w s t q =
    let listed : ℕ → ℕ → Bool = λ i j. is_other i j s t && has_key (tid_of w i j).queues q in
    list_any (λ i. list_any (listed i) (upto 8)) (live_stations w)

-- the overflow queue of TID t of station s: overflow queues have the numbers after the flow queues
abbrev pub overflow_queue : World → ℕ → ℕ → ℕ
overflow_queue w s t = w.config.flows + 8 * s + t

-- the flow queue of a flow: the flow's number modulo the number of flow queues
abbrev pub flow_queue : World → ℕ → ℕ
flow_queue w flow = flow % w.config.flows

-- the flow number of a queued frame
abbrev pub flow_number : World → Item → ℕ
flow_number w x = flow_of (frame w x.id).note

-- whether the TID's overflow queue holds a frame of flow queue q
abbrev pub stays_over : World → ℕ → ℕ → ℕ → Bool
stays_over w s t q =
    list_any (λ x. flow_queue w (flow_number w x) == q) (queue w (overflow_queue w s t)).items

-- whether a frame of flow queue q goes into the TID's overflow queue: another TID lists q or, with the
-- setting `keep_order`, the overflow queue still holds a frame of q
abbrev pub goes_over : World → ℕ → ℕ → ℕ → Bool
goes_over w s t q = is_listed_elsewhere w s t q || ((w.config.keep_order == 1) && stays_over w s t q)

-- the queue that a frame is put into: that of its flow, or the TID's overflow queue
abbrev pub queue_for : World → ℕ → ℕ → ℕ → ℕ
queue_for w s t flow =
    let q : ℕ = flow_queue w flow in
    if goes_over w s t q then overflow_queue w s t else q

-- CoDel's state without what a dropping state or a long wait left in it. The numbers that say how fast to
-- drop again stay.
abbrev pub calmed : Codel → Codel
calmed c = record c { first_above = 0; dropping = false }

-- a queue when it becomes listed: its deficit is `flow_quantum`, and with the setting `codel_reset` its CoDel
-- state is calmed
abbrev pub when_listed : Config → Queue → Queue
when_listed config y = record y {
  deficit = pos config.flow_quantum;
  codel = if config.codel_reset == 1 then calmed y.codel else y.codel;
}

-- queue q is put last on the TID's new list, as a queue that becomes listed, unless the TID lists it already
unfoldable pub with_listed_queue : World → ℕ → ℕ → ℕ → World
with_listed_queue w s t q =
    if has_key (tid_of w s t).queues q then w
    else let fresh : World = on_queue w q (when_listed w.config) in
    with_queues fresh s t (with_new_key (tid_of w s t).queues q)

-- a frame is put last into a queue
unfoldable pub with_appended : World → ℕ → Item → World
with_appended w q x = on_queue w q (λ y. record y { items = y.items ++ x ∷ [] })

-- algorithm 1: a frame is put last into a queue, and the TID lists the queue
unfoldable pub after_put_in : World → ℕ → ℕ → ℕ → Item → World
after_put_in w s t q x = with_listed_queue (with_appended w q x) s t q

-- the number of quanta that a queue's deficit needs to rise above 0
abbrev pub queue_need : World → ℕ → ℕ
queue_need w q = need_of w.config.flow_quantum (queue w q).deficit

-- whether a queue has frames, so that it is ready
abbrev pub has_frames : World → ℕ → Bool
has_frames w q = nat_lt 0 (length (queue w q).items)

-- each of these queues gets its number of quanta
unfoldable pub with_queues_paid : World → (ℕ → ℕ) → List ℕ → World
with_queues_paid w quanta [] = w
with_queues_paid w quanta (q ∷ qs) =
    let octets : ℕ = quanta q * w.config.flow_quantum in
    with_queues_paid (on_queue w q (λ y. record y { deficit = y.deficit +ℤ pos octets })) quanta qs

-- the result of a take: the world after it, and the frame that was taken, if any
pub record Taken : Type 0 where
  pub world : World
  pub item : Option Item

-- the length in octets of the frame that was taken; 0 if none was
abbrev pub len_given : Option Item → ℕ
len_given None = 0
len_given (Some x) = x.len

-- queue y after a dequeue by CoDel: the length of the frame that is given is taken off its deficit
abbrev pub after_dequeue : Dequeued → Queue → Queue
after_dequeue d y =
    record { items = d.rest; deficit = y.deficit -ℤ pos (len_given d.given); codel = d.state }

-- a dequeue of queue q by CoDel: the frames that it drops are finished, in order
unfoldable pub taken_by_codel : World → ℕ → Dequeued → Taken
taken_by_codel w q d = record {
  world = with_frames_finished (on_queue w q (after_dequeue d)) (Dropped By_codel)
      (map (λ x. x.id) d.dropped);
  item = d.given;
}

-- a take from the queue that is picked, if one is
unfoldable pub taken_from_picked : World → ℕ → Option ℕ → Taken
taken_from_picked w s None = record { world = w; item = None }
taken_from_picked w s (Some q) =
    taken_by_codel w q (dequeue (codel_params w s) w.clock (queue w q).codel (queue w q).items)

-- the pick among the queues of a TID: deficit round robin
abbrev pub picked_queue : World → ℕ → ℕ → Picked
picked_queue w s t = pick (queue_need w) (has_frames w) (tid_of w s t).queues

-- algorithm 2: a queue of the TID is picked, and CoDel takes a frame from it
unfoldable pub taken_for_tid : World → ℕ → ℕ → Taken
taken_for_tid w s t =
    let p : Picked = picked_queue w s t in
    let paid : World = with_queues_paid w p.quanta (in_order (tid_of w s t).queues) in
    taken_from_picked (with_queues paid s t p.lists) s p.winner

-- the frames of queue q are dropped as Left, and its CoDel state becomes new, but keeps its number of drops
unfoldable pub after_queue_left : World → ℕ → World
after_queue_left w q =
    let emptied : World = on_queue w q (λ y. record y { items = []; codel = renewed y.codel }) in
    with_frames_finished emptied (Dropped Left) (map (λ x. x.id) (queue w q).items)

-- the same for each of these queues, in order
unfoldable pub after_queues_left : World → List ℕ → World
after_queues_left w [] = w
after_queues_left w (q ∷ qs) = after_queues_left (after_queue_left w q) qs

-- the frames of queue q are dropped as Flushed; its deficit and its CoDel state stay
unfoldable pub after_queue_flushed : World → ℕ → World
after_queue_flushed w q =
    let emptied : World = on_queue w q (λ y. record y { items = [] }) in
    with_frames_finished emptied (Dropped Flushed) (map (λ x. x.id) (queue w q).items)

-- the same for each of these queues, in order
unfoldable pub after_queues_flushed : World → List ℕ → World
after_queues_flushed w [] = w
after_queues_flushed w (q ∷ qs) = after_queues_flushed (after_queue_flushed w q) qs
