-- Proves that each frame that CoDel drops by a call is dropped by a dequeue of the call. By cases of the
-- call: only a take gives this fate.
use Rattle.std.proofs.Common.{◌≡◌, refl, ap, sym, ◌∙◌, subst, arith, ℕ, zero, suc, ◌-◌, ◌<◌, ◌==◌, ◌⊎◌, inl, inr, Bool, true, false, not, if◌then◌else◌, List, [], ◌∷◌, ◌++◌, length, map, take, Option, Some, None, is_none, append_assoc, slice_get}
use Rattle.std.proofs.lemmas.Bool.{cases_eq}
use Rattle.wf_frame.specs.declared.classes.Class.{Class}
use Rattle.wf_frame.specs.declared.classes.Cause.TheVariants.{Codel as By_codel, Left, Overlimit, Retries, Flushed, Ended}
use Rattle.wf_frame.specs.declared.classes.Fate.{Fate}
use Rattle.wf_frame.specs.declared.classes.Fate.TheVariants.{Held, Acked, Dropped}
use Rattle.wf_frame.specs.declared.notes.Ask.TheVariants.{Join, Leave, Rate, Tick, Pull, Arrive, Answer, Done, Sleep, Wake, Poll, Rx, Reap, Ampdu, Stop, Start, Unsent, GiveUp, Flush, Offload, Weight, Plain, Hold, Begin, Free, Cease, Group, Service, Bss}
use Rattle.wf_frame.specs.declared.notes.Limits.{Limits}
use Rattle.wf_frame.specs.declared.notes.Note.{Note}
use Rattle.wf_frame.specs.declared.notes.Note.TheVariants.{Enqueue, Asked}
use Rattle.wf_frame.specs.declared.notes.Refusal.{Refusal}
use Rattle.wf_frame.specs.declared.notes.Refusal.TheVariants.{Idle}
use Rattle.wf_frame.specs.Classes.{all_classes}
use Rattle.wf_def_lists.specs.Table.{at, has, upto}
use Rattle.wf_def_codel.specs.Codel.{Item, Codel, Dequeued, renewed, drops as codel_drops, dequeue}
use Rattle.wf_def_rotation.specs.Rotation.{in_order, no_keys}
use Rattle.wf_def_agreement.specs.Session.{Session, State, End, request_due, with_state, after_end, after_flush}
use Rattle.wf_def_world.specs.World.{World, Mpdu, Exchange, Content, Frames, Request, Frame, no_frame, frame, session, tid_of, queue, exchange, codel_params, on_session, on_receiver, on_station, on_share, with_station, with_queues, on_queue, with_fate, with_frame_finished, with_frames_finished, with_exchange, without_exchange}
use Rattle.wf_def_world.specs.Service.{station_served}
use Rattle.wf_def_world.specs.FlowQueues.{Taken, without_head, after_limit, is_at_limit, longest_queue, queue_for, after_put_in, after_dequeue, taken_by_codel, taken_from_picked, picked_queue, taken_for_tid, after_queue_left, after_queues_left, after_queue_flushed, after_queues_flushed}
use Rattle.wf_def_world.specs.CanSend.{can_give, with_listings_of}
use Rattle.wf_def_world.specs.Exchanges.{Aggregate, Prepared, most_frames, fits_in, waiting_mpdus, longest_fitting, fresh_mpdus, with_number, with_fresh, aggregate_of, prepared_data, prepared_request, prepared_exchange, with_flying, after_arrival, with_exchange_opened, picked_station, sending_tid, after_tid_turn, after_charge, end_of, with_failed_finished, with_settled, with_all_settled, after_done, caught_up_if_plain, with_spent}
use Rattle.wf_def_world.specs.Refusals.{refusal}
use Rattle.wf_def_world.specs.Step.{Outcome, in_rising_order, waiting_ids, after_tid_left, after_tids_left, without_listings, leave_outcome, after_tid_flushed, flush_outcome, join_outcome, with_frame, enqueue_outcome, next_item, send_outcome, pull_outcome_for, pull_outcome, tick_outcome, rate_outcome, arrive_outcome, answer_outcome, unsent_outcome, give_up_outcome, done_outcome, outcome_where_open, sleep_outcome, wake_outcome, poll_outcome, rx_outcome, reap_outcome, outcome_of, after_refusal, judged_outcome, step, concerned_station, offload_outcome, plain_outcome, cease_outcome, after_numbers_ended}
use Rattle.wf_law_rules.specs.CodelLaws.{Dequeue, codel_after_all, drops_by}
use Rattle.wf_law_rules.proofs.Lemmas.Numbers.{eq_yes, yes_eq, either, or_left, or_right}
use Rattle.wf_law_runs.specs.Dequeues.{dequeue_for, if_picked, dequeue_of_take, dequeues_of_fresh, dequeues_of_aggregate, dequeues_of_exchange, dequeues_of_winner, dequeues_of_pull, dequeues_by}
use Rattle.wf_law_runs.proofs.Common.Refused.{after_idle}
use Rattle.wf_law_runs.proofs.Common.Picked.{picked_world}
use Rattle.wf_law_runs.proofs.Deficits.Books.{upd, upd_same, upd_other, put_upd}
use Rattle.wf_law_runs.proofs.Queues.Shelves.{Shelves, shelves, shelves_finish_all, shelves_after_turn, shelves_picked}
use Rattle.wf_law_runs.proofs.Frames.Untouched.{Untouched, untouched, then_untouched, untouched_on_session, untouched_on_station, untouched_on_receiver, untouched_on_queue, untouched_with_station, untouched_with_queues, untouched_pay_queues, untouched_after_turn, untouched_after_pick, untouched_without, untouched_charged, untouched_put_in, untouched_off_lists, untouched_listed, untouched_picked, untouched_weighed, untouched_caught_up, untouched_held, untouched_begun, untouched_freed, untouched_ceased}
use Rattle.wf_law_runs.proofs.Dequeues.States.{codel_same, codel_append, codel_take, world_to_take, same_to_take, shelves_numbered}

-- CoDel dropped the frame with this id.
abbrev pub IsByCodel : World → ℕ → Type 0
IsByCodel w k = (frame w k).fate ≡ Dropped By_codel

-- By the change from w to v, CoDel drops only frames of P.
pub record Drops (P : ℕ → Type 0) (w v : World) : Type 0 where
  pub drops : (k : ℕ) → IsByCodel v k → IsByCodel w k ⊎ P k

-- CoDel drops no frame.
abbrev None_of : ℕ → Type 0
None_of k = ⊥

then_drops : (P : ℕ → Type 0) (u v w : World) → Drops P u v → Drops P v w → Drops P u w
then_drops P u v w h g = record {
  drops = λ k e. elim (g.drops k e) [ inl a ↦ h.drops k a | inr p ↦ inr p ];
}

wider : (P Q : ℕ → Type 0) (w v : World) → ((k : ℕ) → P k → Q k) → Drops P w v → Drops Q w v
wider P Q w v f h = record {
  drops = λ k e. elim (h.drops k e) [ inl a ↦ inl a | inr p ↦ inr (f k p) ];
}

none_wider : (P : ℕ → Type 0) (w v : World) → Drops None_of w v → Drops P w v
none_wider P w v h = wider None_of P w v (λ k e. absurd e) h

no_drops : (P : ℕ → Type 0) (w v : World) → Untouched w v → Drops P w v
no_drops P w v u = record {
  drops = λ k e. inl (sym (ap (λ (fs : List Frame). (at no_frame fs k).fate) u.frames) ∙ e);
}

if_drops : (P : ℕ → Type 0) (b : Bool) (w u v : World) → Drops P w u → Drops P w v →
    Drops P w (if b then u else v)
if_drops P true w u v h k = h
if_drops P false w u v h k = k

-- ---- frames that are finished

finished_fate : (w : World) (fate : Fate) (id k : ℕ) →
    (frame (with_frame_finished w fate id) k).fate ≡ upd (λ i. (frame w i).fate) id fate k
unfolding with_frame_finished with_fate
finished_fate w fate id k = ap (λ (f : ℕ → Fate). f k)
    (put_upd (λ (x : Frame). x.fate) no_frame w.frames id (record (at no_frame w.frames id) { fate = fate }))

drops_finish : (P : ℕ → Type 0) (w : World) (fate : Fate) (id : ℕ) → (fate ≡ Dropped By_codel → P id) →
    Drops P w (with_frame_finished w fate id)
drops_finish P w fate id h =
    record { drops = λ k e. go k (cases_eq k id) (sym (finished_fate w fate id k) ∙ e) }
  where
    go : (k : ℕ) → (k ≡ id) ⊎ (k ≡ id → ⊥) → upd (λ i. (frame w i).fate) id fate k ≡ Dropped By_codel →
        IsByCodel w k ⊎ P k
    go k (inl e) d = inr (subst P (sym e) (h (sym (upd_same (λ i. (frame w i).fate) id fate)
        ∙ subst (λ (n : ℕ). upd (λ i. (frame w i).fate) id fate n ≡ Dropped By_codel) e d)))
    go k (inr other) d = inl (sym (upd_other (λ i. (frame w i).fate) id k fate other) ∙ d)

drops_finish_all : (ids : List ℕ) (P : ℕ → Type 0) (w : World) (fate : Fate) →
    (fate ≡ Dropped By_codel → (k : ℕ) → has ids k ≡ true → P k) → Drops P w (with_frames_finished w fate ids)
unfolding with_frames_finished
drops_finish_all [] P w fate h = no_drops P w w (untouched w)
drops_finish_all (id ∷ ids) P w fate h =
    let v : World = with_frame_finished w fate id in
    then_drops P w v (with_frames_finished v fate ids)
    (drops_finish P w fate id (λ e. h e id (or_left (id == id) (has ids id) (yes_eq id id refl))))
    (drops_finish_all ids P v fate (λ e k m. h e k (or_right (id == k) (has ids k) m)))

drops_nothing : (w : World) (fate : Fate) (ids : List ℕ) → (fate ≡ Dropped By_codel → ⊥) →
    Drops None_of w (with_frames_finished w fate ids)
drops_nothing w fate ids other = drops_finish_all ids None_of w fate (λ e k m. other e)

-- ---- a take

-- A dequeue of a queue, among these, drops the frame with this id. The queues have these states before.
pub record DropsFrame (dequeues : ℕ → List Dequeue) (states : ℕ → Codel) (clock : ℕ) (id : ℕ) : Type 0 where
  pub queue : ℕ
  pub before : List Dequeue
  pub dequeue : Dequeue
  pub after : List Dequeue
  pub number : ℕ
  pub item : Item
  pub split : dequeues queue ≡ before ++ dequeue ∷ after
  pub now : dequeue.now ≡ clock
  pub found : slice_get dequeue.items number ≡ Some item
  pub named : item.id ≡ id
  pub dropped : number < drops_by (codel_after_all (states queue) before) dequeue

-- Returns the states of the queues of a world.
abbrev pub states : World → ℕ → Codel
states w q = (queue w q).codel

drops_as : (ds es : ℕ → List Dequeue) (c d : ℕ → Codel) (m n k : ℕ) → ((q : ℕ) → ds q ≡ es q) →
    ((q : ℕ) → c q ≡ d q) → m ≡ n → DropsFrame ds c m k → DropsFrame es d n k
drops_as ds es c d m n k e f g x = record {
  queue = x.queue;
  before = x.before;
  dequeue = x.dequeue;
  after = x.after;
  number = x.number;
  item = x.item;
  split = sym (e x.queue) ∙ x.split;
  now = x.now ∙ g;
  found = x.found;
  named = x.named;
  dropped = subst (λ (y : Codel). x.number < drops_by (codel_after_all y x.before) x.dequeue) (f x.queue)
      x.dropped;
}

drops_front : (ds es : ℕ → List Dequeue) (c : ℕ → Codel) (m k : ℕ) → DropsFrame ds c m k →
    DropsFrame (λ q. ds q ++ es q) c m k
drops_front ds es c m k x = record {
  queue = x.queue;
  before = x.before;
  dequeue = x.dequeue;
  after = x.after ++ es x.queue;
  number = x.number;
  item = x.item;
  split = ap (λ (l : List Dequeue). l ++ es x.queue) x.split
      ∙ append_assoc x.before (x.dequeue ∷ x.after) (es x.queue);
  now = x.now;
  found = x.found;
  named = x.named;
  dropped = x.dropped;
}

drops_back : (ds es : ℕ → List Dequeue) (c : ℕ → Codel) (m k : ℕ) →
    DropsFrame es (λ q. codel_after_all (c q) (ds q)) m k → DropsFrame (λ q. ds q ++ es q) c m k
drops_back ds es c m k x = record {
  queue = x.queue;
  before = ds x.queue ++ x.before;
  dequeue = x.dequeue;
  after = x.after;
  number = x.number;
  item = x.item;
  split = ap (λ (l : List Dequeue). ds x.queue ++ l) x.split
      ∙ sym (append_assoc (ds x.queue) x.before (x.dequeue ∷ x.after));
  now = x.now;
  found = x.found;
  named = x.named;
  dropped = subst (λ (y : Codel). x.number < drops_by y x.dequeue)
      (sym (codel_append (ds x.queue) x.before (c x.queue))) x.dropped;
}

-- A frame with this id is among the first n of a queue.
record IsAmong (n : ℕ) (xs : List Item) (id : ℕ) : Type 0 where
  number : ℕ
  item : Item
  below : number < n
  found : slice_get xs number ≡ Some item
  named : item.id ≡ id

among : (n : ℕ) (xs : List Item) (id : ℕ) → has (map (λ x. x.id) (take n xs)) id ≡ true → IsAmong n xs id
among zero xs id h = absurd (cc h)
among (suc n) [] id h = absurd (cc h)
among (suc n) (x ∷ xs) id h = elim (either (x.id == id) (has (map (λ x. x.id) (take n xs)) id) h) [
  | inl e ↦ record { number = 0; item = x; below = omega arith; found = refl; named = eq_yes x.id id e }
  | inr e ↦ (let a : IsAmong n xs id = among n xs id e in record {
    number = suc a.number;
    item = a.item;
    below = omega (arith, a.below);
    found = a.found;
    named = a.named;
  })
]

drops_taken : (o : Option ℕ) (w : World) (s : ℕ) →
    Drops (DropsFrame (λ q. if_picked o q (dequeue_for w s q)) (states w) w.clock) w
    (taken_from_picked w s o).world
unfolding taken_from_picked taken_by_codel dequeue
drops_taken None w s = no_drops _ w w (untouched w)
drops_taken (Some p) w s =
    let P : ℕ → Type 0 = DropsFrame (λ q. if_picked (Some p) q (dequeue_for w s q)) (states w) w.clock in
    let d : Dequeued = dequeue (codel_params w s) w.clock (queue w p).codel (queue w p).items in
    let n : ℕ = codel_drops (codel_params w s) w.clock (queue w p).codel (queue w p).items in
    let v : World = on_queue w p (after_dequeue d) in
    then_drops P w v (with_frames_finished v (Dropped By_codel) (map (λ x. x.id) d.dropped))
    (no_drops P w v (untouched_on_queue w p (after_dequeue d)))
    (drops_finish_all (map (λ x. x.id) d.dropped) P v (Dropped By_codel) (λ e k m. picked k
    (among n (queue w p).items k m)))
  where
    picked : (k : ℕ) → IsAmong (codel_drops (codel_params w s) w.clock (queue w p).codel (queue w p).items)
        (queue w p).items k → DropsFrame (λ q. if_picked (Some p) q (dequeue_for w s q)) (states w) w.clock k
    picked k a = record {
      queue = p;
      before = [];
      dequeue = dequeue_for w s p;
      after = [];
      number = a.number;
      item = a.item;
      split = ap (λ (b : Bool). if b then dequeue_for w s p ∷ [] else []) (yes_eq p p refl);
      now = refl;
      found = a.found;
      named = a.named;
      dropped = a.below;
    }

clock_to_take : (w : World) (s t : ℕ) → (world_to_take w s t).clock ≡ w.clock
clock_to_take w s t = ap (λ (x : Dequeue). x.now) (same_to_take w s t 0).0

drops_take : (w : World) (s t : ℕ) →
    Drops (DropsFrame (λ q. dequeue_of_take w s t q) (states w) w.clock) w (taken_for_tid w s t).world
unfolding taken_for_tid
drops_take w s t =
    let v : World = world_to_take w s t in
    let o : Option ℕ = (picked_queue w s t).winner in
    let P : ℕ → Type 0 = DropsFrame (λ q. dequeue_of_take w s t q) (states w) w.clock in
    then_drops P w v (taken_from_picked v s o).world
    (no_drops P w v (then_untouched w _ v
    (untouched_pay_queues (in_order (tid_of w s t).queues) w (picked_queue w s t).quanta)
    (untouched_with_queues _ s t (picked_queue w s t).lists)))
    (wider (DropsFrame (λ q. if_picked o q (dequeue_for v s q)) (states v) v.clock) P v _
    (λ k x. drops_as _ _ _ _ _ _ k (λ q. ap (if_picked o q) (same_to_take w s t q).0)
    (λ q. (same_to_take w s t q).1) (clock_to_take w s t) x) (drops_taken o v s))

untouched_number : (o : Option Item) (w : World) (s t : ℕ) → Untouched w (with_number w s t o)
unfolding with_number
untouched_number None w s t = untouched w
untouched_number (Some x) w s t = untouched_on_session w s t _

clock_taken : (o : Option ℕ) (w : World) (s : ℕ) → (taken_from_picked w s o).world.clock ≡ w.clock
unfolding taken_from_picked taken_by_codel on_queue
clock_taken None w s = refl
clock_taken (Some p) w s = ap (λ (b : Shelves). b.clock) (shelves_finish_all _ _ _)

clock_take : (w : World) (s t : ℕ) → (taken_for_tid w s t).world.clock ≡ w.clock
unfolding taken_for_tid
clock_take w s t = clock_taken (picked_queue w s t).winner (world_to_take w s t) s ∙ clock_to_take w s t

-- ---- a Pull

-- Returns what a take leaves: the frame that it gives has its number.
abbrev numbered : World → ℕ → ℕ → World
numbered w s t = with_number (taken_for_tid w s t).world s t (taken_for_tid w s t).item

state_numbered : (w : World) (s t q : ℕ) →
    states (numbered w s t) q ≡ codel_after_all (states w q) (dequeue_of_take w s t q)
state_numbered w s t q =
    codel_same q (shelves_numbered (taken_for_tid w s t).item (taken_for_tid w s t).world s t)
    ∙ codel_take w s t q

clock_numbered : (w : World) (s t : ℕ) → (numbered w s t).clock ≡ w.clock
clock_numbered w s t = ap (λ (b : Shelves). b.clock)
    (shelves_numbered (taken_for_tid w s t).item (taken_for_tid w s t).world s t) ∙ clock_take w s t

-- The frames that these dequeues of the queues of a world drop.
abbrev DroppedIn : World → (ℕ → List Dequeue) → ℕ → Type 0
DroppedIn w ds = DropsFrame ds (states w) w.clock

none_in : (w : World) (ds : ℕ → List Dequeue) → Drops (DroppedIn w ds) w w
none_in w ds = no_drops (DroppedIn w ds) w w (untouched w)

if_dropped : (b : Bool) (w : World) (x y : Aggregate) (ds es : ℕ → List Dequeue) →
    Drops (DroppedIn w ds) w x.world → Drops (DroppedIn w es) w y.world →
    Drops (DroppedIn w (λ q. if b then ds q else es q)) w (if b then x else y).world
if_dropped true w x y ds es h k = h
if_dropped false w x y ds es h k = k

drops_numbered : (w : World) (s t : ℕ) →
    Drops (DroppedIn w (λ q. dequeue_of_take w s t q)) w (numbered w s t)
drops_numbered w s t =
    let P : ℕ → Type 0 = DroppedIn w (λ q. dequeue_of_take w s t q) in
    then_drops P w (taken_for_tid w s t).world (numbered w s t) (drops_take w s t)
    (no_drops P _ _ (untouched_number (taken_for_tid w s t).item (taken_for_tid w s t).world s t))

-- A take, and then the dequeues es of the world that it leaves.
drops_then : (w v : World) (s t : ℕ) (es : ℕ → List Dequeue) → Drops (DroppedIn (numbered w s t) es)
    (numbered w s t) v → Drops (DroppedIn w (λ q. dequeue_of_take w s t q ++ es q)) w v
drops_then w v s t es h =
    let ds : ℕ → List Dequeue = λ q. dequeue_of_take w s t q in
    let P : ℕ → Type 0 = DroppedIn w (λ q. ds q ++ es q) in
    then_drops P w (numbered w s t) v
    (wider (DroppedIn w ds) P w (numbered w s t) (λ k x. drops_front ds es (states w) w.clock k x)
    (drops_numbered w s t))
    (wider (DroppedIn (numbered w s t) es) P (numbered w s t) v
    (λ k x. drops_back ds es (states w) w.clock k
    (drops_as es es (states (numbered w s t)) (λ q. codel_after_all (states w q) (ds q)) _ _ k (λ q. refl)
    (λ q. state_numbered w s t q) (clock_numbered w s t) x)) h)

drops_fresh : (n : ℕ) (w : World) (s t : ℕ) (ms : List Mpdu) →
    Drops (DroppedIn w (λ q. dequeues_of_fresh n w s t ms q)) w (with_fresh n w s t ms).world
unfolding with_fresh
drops_fresh zero w s t ms = none_in w _
drops_fresh (suc n) w s t ms =
    let taken : Taken = taken_for_tid w s t in
    let longer : List Mpdu = ms ++ fresh_mpdus w s t taken.item in
    let u : World = numbered w s t in
    let es : ℕ → List Dequeue =
    λ q. if fits_in w s longer then dequeues_of_fresh n u s t longer q else [] in
    if_dropped (not (can_give w s t)) w (record { world = w; mpdus = ms })
    (if fits_in w s longer then with_fresh n u s t longer else record { world = u; mpdus = ms })
    (λ q. []) (λ q. dequeue_of_take w s t q ++ es q) (none_in w _)
    (drops_then w _ s t es (if_dropped (fits_in w s longer) u (with_fresh n u s t longer)
    (record { world = u; mpdus = ms }) (λ q. dequeues_of_fresh n u s t longer q) (λ q. [])
    (drops_fresh n u s t longer) (none_in u _)))

drops_filled : (w : World) (s t : ℕ) →
    Drops (DroppedIn w (λ q. dequeues_of_aggregate w s t q)) w (aggregate_of w s t).world
unfolding aggregate_of
drops_filled w s t =
    let chosen : List Mpdu = longest_fitting w s (waiting_mpdus w s t) in
    let n : ℕ = most_frames w s - length chosen in
    if_dropped (length chosen == length (waiting_mpdus w s t)) w (with_fresh n w s t chosen)
    (record { world = w; mpdus = chosen }) (λ q. dequeues_of_fresh n w s t chosen q) (λ q. [])
    (drops_fresh n w s t chosen) (none_in w _)

if_dropped_prepared : (b : Bool) (w : World) (x y : Prepared) (ds es : ℕ → List Dequeue) →
    Drops (DroppedIn w ds) w x.world → Drops (DroppedIn w es) w y.world →
    Drops (DroppedIn w (λ q. if b then ds q else es q)) w (if b then x else y).world
if_dropped_prepared true w x y ds es h k = h
if_dropped_prepared false w x y ds es h k = k

drops_prepared : (w : World) (s t : ℕ) →
    Drops (DroppedIn w (λ q. dequeues_of_exchange w s t q)) w (prepared_exchange w s t).world
unfolding prepared_exchange prepared_data
drops_prepared w s t =
    let P : ℕ → Type 0 = DroppedIn w (λ q. dequeues_of_aggregate w s t q) in
    let f : Aggregate = aggregate_of w s t in
    if_dropped_prepared (request_due (session w s t)) w (prepared_request w s t) (prepared_data s t f)
    (λ q. []) (λ q. dequeues_of_aggregate w s t q) (none_in w _)
    (then_drops P w f.world (prepared_data s t f).world (drops_filled w s t)
    (no_drops P _ _ (untouched_on_session f.world s t (with_flying f.world.exchanges f.mpdus))))

untouched_sent : (s t : ℕ) (c : Class) (p : Prepared) → Untouched p.world (send_outcome s t c p).world
unfolding send_outcome with_exchange_opened with_spent on_station with_station
untouched_sent s t c p = record { frames = refl; finished = refl }

-- A world with the same states and clock, and the same dequeues.
drops_before : (w v u : World) (ds : ℕ → List Dequeue) → shelves v ≡ shelves w → Untouched w v →
    Drops (DroppedIn v ds) v u → Drops (DroppedIn w ds) w u
drops_before w v u ds e same h =
    then_drops (DroppedIn w ds) w v u (no_drops (DroppedIn w ds) w v same)
    (wider (DroppedIn v ds) (DroppedIn w ds) v u
    (λ k x. drops_as ds ds (states v) (states w) v.clock w.clock k (λ q. refl) (λ q. codel_same q e)
    (ap (λ (b : Shelves). b.clock) e) x) h)

drops_won : (o : Option ℕ) (w : World) (c : Class) →
    Drops (DroppedIn w (λ q. dequeues_of_winner w c o q)) w (pull_outcome_for w c o).world
unfolding pull_outcome_for
drops_won None w c = none_in w _
drops_won (Some s) w c =
    let t : ℕ = sending_tid w s c in
    let v : World = after_tid_turn w s c t in
    let p : Prepared = prepared_exchange v s t in
    let ds : ℕ → List Dequeue = λ q. dequeues_of_exchange v s t q in
    drops_before w v (send_outcome s t c p).world ds (shelves_after_turn w s c t)
    (untouched_after_turn w s c t)
    (then_drops (DroppedIn v ds) v p.world (send_outcome s t c p).world (drops_prepared v s t)
    (no_drops (DroppedIn v ds) p.world (send_outcome s t c p).world (untouched_sent s t c p)))

drops_pulled : (w : World) (c : Class) (l : Limits) →
    Drops (DroppedIn w (λ q. dequeues_of_pull w c l q)) w (pull_outcome w c l).world
unfolding pull_outcome
drops_pulled w c l =
    drops_before w (picked_world w c l) (pull_outcome w c l).world (λ q. dequeues_of_pull w c l q)
    (shelves_picked w c l) (untouched_picked w c l)
    (drops_won (picked_station w c).winner (picked_world w c l) c)

-- ---- the other calls: CoDel drops no frame

none_purged : (qs : List ℕ) (w : World) → Drops None_of w (after_queues_left w qs)
unfolding after_queues_left after_queue_left
none_purged [] w = no_drops None_of w w (untouched w)
none_purged (q ∷ qs) w =
    let u : World = on_queue w q (λ y. record y { items = []; codel = renewed y.codel }) in
    let v : World = with_frames_finished u (Dropped Left) (map (λ x. x.id) (queue w q).items) in
    then_drops None_of w u (after_queues_left v qs) (no_drops None_of w u (untouched_on_queue w q _))
    (then_drops None_of u v (after_queues_left v qs)
    (drops_nothing u (Dropped Left) (map (λ x. x.id) (queue w q).items) (λ e. absurd (cc e)))
    (none_purged qs v))

none_all_flushed : (qs : List ℕ) (w : World) → Drops None_of w (after_queues_flushed w qs)
unfolding after_queues_flushed after_queue_flushed
none_all_flushed [] w = no_drops None_of w w (untouched w)
none_all_flushed (q ∷ qs) w =
    let u : World = on_queue w q (λ y. record y { items = [] }) in
    let v : World = with_frames_finished u (Dropped Flushed) (map (λ x. x.id) (queue w q).items) in
    then_drops None_of w u (after_queues_flushed v qs) (no_drops None_of w u (untouched_on_queue w q _))
    (then_drops None_of u v (after_queues_flushed v qs)
    (drops_nothing u (Dropped Flushed) (map (λ x. x.id) (queue w q).items) (λ e. absurd (cc e)))
    (none_all_flushed qs v))

none_flushed : (w : World) (s t : ℕ) → Drops None_of w (flush_outcome w s t).world
unfolding flush_outcome after_tid_flushed
none_flushed w s t =
    let ids : List ℕ = waiting_ids (session w s t).slots in
    let qs : List ℕ = in_rising_order (in_order (tid_of w s t).queues) in
    let a : World = on_session w s t (after_flush w.config.attempts) in
    let b : World = with_frames_finished a (Dropped Flushed) ids in
    let c : World = after_queues_flushed b qs in
    let d : World = caught_up_if_plain c s t in
    then_drops None_of w a d (no_drops None_of w a (untouched_on_session w s t _))
    (then_drops None_of a b d (drops_nothing a (Dropped Flushed) ids (λ e. absurd (cc e)))
    (then_drops None_of b c d (none_all_flushed qs b) (no_drops None_of c d (untouched_caught_up c s t))))

none_ceased : (w : World) (s t : ℕ) → Drops None_of w (cease_outcome w s t).world
unfolding after_numbers_ended
none_ceased w s t =
    let ids : List ℕ = waiting_ids (session w s t).slots in
    let a : World = on_session w s t (after_flush w.config.attempts) in
    let b : World = after_numbers_ended w s t in
    let c : World = (cease_outcome w s t).world in
    then_drops None_of w a c (no_drops None_of w a (untouched_on_session w s t _))
    (then_drops None_of a b c (drops_nothing a (Dropped Ended) ids (λ e. absurd (cc e)))
    (no_drops None_of b c (untouched_ceased w s t)))

none_left : (ts : List ℕ) (w : World) (s : ℕ) → Drops None_of w (after_tids_left w s ts)
unfolding after_tids_left after_tid_left
none_left [] w s = no_drops None_of w w (untouched w)
none_left (t ∷ ts) w s =
    let ids : List ℕ = waiting_ids (session w s t).slots in
    let qs : List ℕ = in_rising_order (in_order (tid_of w s t).queues) in
    let a : World = with_frames_finished w (Dropped Left) ids in
    let b : World = after_queues_left a qs in
    let c : World = with_queues b s t no_keys in
    let d : World = after_tids_left c s ts in
    then_drops None_of w a d (drops_nothing w (Dropped Left) ids (λ e. absurd (cc e)))
    (then_drops None_of a b d (none_purged qs a)
    (then_drops None_of b c d (no_drops None_of b c (untouched_with_queues b s t no_keys))
    (none_left ts c s)))

none_gone : (w : World) (s : ℕ) → Drops None_of w (leave_outcome w s).world
unfolding leave_outcome
none_gone w s =
    let a : World = after_tids_left w s (upto 8) in
    let b : World = without_listings a s all_classes in
    then_drops None_of w a (with_station b s None) (none_left (upto 8) w s)
    (no_drops None_of a (with_station b s None) (then_untouched a b (with_station b s None)
    (untouched_off_lists all_classes a s) (untouched_with_station b s None)))

none_headless : (items : List Item) (w : World) (q : ℕ) → Drops None_of w (without_head w q items)
unfolding without_head
none_headless [] w q = no_drops None_of w w (untouched w)
none_headless (x ∷ rest) w q =
    let u : World = on_queue w q (λ y. record y { items = rest }) in
    then_drops None_of w u (with_frame_finished u (Dropped Overlimit) x.id)
    (no_drops None_of w u (untouched_on_queue w q _))
    (drops_finish None_of u (Dropped Overlimit) x.id (λ e. absurd (cc e)))

none_limited : (w : World) → Drops None_of w (after_limit w)
unfolding after_limit
none_limited w = if_drops None_of (is_at_limit w) w
    (without_head w (longest_queue w) (queue w (longest_queue w)).items) w
    (none_headless (queue w (longest_queue w)).items w (longest_queue w)) (no_drops None_of w w (untouched w))

accepted_fate : (fs : List Frame) (x : Frame) (k : ℕ) → x.fate ≡ Held →
    (at no_frame (fs ++ x ∷ []) k).fate ≡ (at no_frame fs k).fate
accepted_fate [] x zero h = h
accepted_fate [] x (suc k) h = refl
accepted_fate (y ∷ fs) x zero h = refl
accepted_fate (y ∷ fs) x (suc k) h = accepted_fate fs x k h

none_accepted : (w : World) (note : Note) → Drops None_of w (with_frame w note)
unfolding with_frame
none_accepted w note = record { drops = λ k e. inl (sym (accepted_fate w.frames _ k refl) ∙ e) }

none_enqueued : (w : World) (s t flow len : ℕ) → Drops None_of w (enqueue_outcome w s t flow len).world
unfolding enqueue_outcome
none_enqueued w s t flow len =
    let u : World = after_limit w in
    let v : World = after_put_in u s t (queue_for u s t flow) (next_item w len) in
    let note : Note = Enqueue s t flow len in
    then_drops None_of w u (with_frame v note) (none_limited w)
    (then_drops None_of u v (with_frame v note) (no_drops None_of u v (untouched_put_in u s t _ _))
    (none_accepted v note))

none_failed : (w : World) (s t : ℕ) (f : Session → Session) (m : Mpdu) →
    Drops None_of w (with_failed_finished (on_session w s t f) s t m)
unfolding with_failed_finished
none_failed w s t f m =
    let b : World = on_session w s t f in
    let same : Drops None_of w b = no_drops None_of w b (untouched_on_session w s t f) in
    if_drops None_of _ w (with_frame_finished b (Dropped Retries) m.id) b
    (then_drops None_of w b (with_frame_finished b (Dropped Retries) m.id) same
    (drops_finish None_of b (Dropped Retries) m.id (λ e. absurd (cc e)))) same

none_settled : (end : End) (w : World) (s t : ℕ) (m : Mpdu) → Drops None_of w (with_settled w s t end m)
unfolding with_settled
none_settled End.Acknowledged w s t m =
    let a : World = on_session w s t (with_state State.Acked m.number) in
    then_drops None_of w a (with_frame_finished a Acked m.id)
    (no_drops None_of w a (untouched_on_session w s t _))
    (drops_finish None_of a Acked m.id (λ e. absurd (cc e)))
none_settled End.Missed w s t m = none_failed w s t (after_end w.config.attempts End.Missed m.number) m
none_settled End.GivenUp w s t m = none_failed w s t (after_end w.config.attempts End.GivenUp m.number) m
none_settled End.Unsent w s t m = none_failed w s t (after_end w.config.attempts End.Unsent m.number) m

none_all_settled : (ms : List Mpdu) (w : World) (s t : ℕ) (ends : ℕ → End) →
    Drops None_of w (with_all_settled w s t ends ms)
unfolding with_all_settled
none_all_settled [] w s t ends = no_drops None_of w w (untouched w)
none_all_settled (m ∷ ms) w s t ends =
    let v : World = with_settled w s t (ends m.number) m in
    then_drops None_of w v (with_all_settled v s t ends ms) (none_settled (ends m.number) w s t m)
    (none_all_settled ms v s t ends)

none_after : (content : Content) (w : World) (x : Exchange) (heard : Bool) →
    Drops None_of w (after_done w x heard content)
unfolding after_done
none_after (Frames mpdus) w x heard =
    let v : World = with_all_settled w x.station x.tid (end_of w x heard) mpdus in
    then_drops None_of w v (caught_up_if_plain v x.station x.tid)
    (none_all_settled mpdus w x.station x.tid (end_of w x heard))
    (no_drops None_of v _ (untouched_caught_up v x.station x.tid))
none_after (Request start) w x heard = no_drops None_of w _ (untouched_on_session w x.station x.tid _)

none_ended : (w : World) (x : Exchange) (heard : Bool) (air : Option ℕ) →
    Drops None_of w (done_outcome w x heard air).world
unfolding done_outcome
none_ended w x heard air =
    let u : World = without_exchange w x.number in
    let v : World = after_charge u x air in
    let z : World = after_done v x heard x.content in
    then_drops None_of w u z (no_drops None_of w u (untouched_without w x.number))
    (then_drops None_of u v z (no_drops None_of u v (untouched_charged air u x))
    (none_after x.content v x heard))

untouched_arrived : (w : World) (x : Exchange) (n : ℕ) → Untouched w (arrive_outcome w x n).world
unfolding arrive_outcome with_exchange
untouched_arrived w x n =
    let u : Untouched w (on_receiver w x.station x.tid (after_arrival x.content n)) =
    untouched_on_receiver w x.station x.tid _ in record { frames = u.frames; finished = u.finished }

untouched_answered : (w : World) (x : Exchange) → Untouched w (answer_outcome w x).world
unfolding answer_outcome with_exchange
untouched_answered w x = record { frames = refl; finished = refl }

untouched_unsent : (w : World) (x : Exchange) (n : ℕ) → Untouched w (unsent_outcome w x n).world
unfolding unsent_outcome with_exchange
untouched_unsent w x n = record { frames = refl; finished = refl }

untouched_given_up : (w : World) (x : Exchange) (n : ℕ) → Untouched w (give_up_outcome w x n).world
unfolding give_up_outcome with_exchange
untouched_given_up w x n = record { frames = refl; finished = refl }

none_open : (o : Option Exchange) (w : World) (f : Exchange → Outcome) →
    ((x : Exchange) → Drops None_of w (f x).world) → Drops None_of w (outcome_where_open w o f).world
unfolding outcome_where_open
none_open None w f h = no_drops None_of w w (untouched w)
none_open (Some x) w f h = h x

none_reaped : (ids : List ℕ) (w : World) → Drops None_of w (reap_outcome w ids).world
unfolding reap_outcome
none_reaped [] w = no_drops None_of w w (untouched w)
none_reaped (id ∷ ids) w = record { drops = λ k e. inl e }

-- ---- a call

-- The frames that the dequeues of a call drop.
abbrev pub DroppedBy : World → Note → ℕ → Type 0
DroppedBy w note = DropsFrame (λ q. dequeues_by w q note) (states w) w.clock

none_by : (w v : World) (note : Note) → Untouched w v → Drops (DroppedBy w note) w v
none_by w v note u = no_drops (DroppedBy w note) w v u

drops_done : (note : Note) (w : World) → is_none (refusal w note) ≡ true →
    Drops (DroppedBy w note) w (outcome_of w note).world
unfolding outcome_of tick_outcome rate_outcome sleep_outcome wake_outcome poll_outcome rx_outcome join_outcome
    offload_outcome plain_outcome on_share
drops_done (Enqueue s t flow len) w r = none_wider _ w _ (none_enqueued w s t flow len)
drops_done (Asked (Join s window start exponent weight)) w r = no_drops _ w _ (untouched_with_station w s _)
drops_done (Asked (Offload s exponent weight)) w r = no_drops _ w _ (untouched_with_station w s _)
drops_done (Asked (Weight s weight)) w r = no_drops _ w _ (untouched_weighed w s weight)
drops_done (Asked (Plain s start exponent weight)) w r = no_drops _ w _ (untouched_with_station w s _)
drops_done (Asked (Hold s t)) w r = no_drops _ w _ (untouched_held w s t)
drops_done (Asked (Begin s t window)) w r = no_drops _ w _ (untouched_begun w s t window)
drops_done (Asked (Free s t)) w r = no_drops _ w _ (untouched_freed w s t)
drops_done (Asked (Cease s t)) w r = none_wider _ w _ (none_ceased w s t)
drops_done (Asked (Leave s)) w r = none_wider _ w _ (none_gone w s)
drops_done (Asked (Rate s to)) w r = no_drops _ w _ (untouched_on_station w s _)
drops_done (Asked (Tick by)) w r = record { drops = λ k e. inl e }
drops_done (Asked (Pull c l)) w r =
    wider (DroppedIn w (λ q. dequeues_of_pull w c l q)) (DroppedBy w (Asked (Pull c l))) w _
    (λ k x. drops_as _ _ _ _ _ _ k
    (λ q. ap (λ (b : Bool). if b then dequeues_of_pull w c l q else []) (sym r))
    (λ q. refl) refl x) (drops_pulled w c l)
drops_done (Asked (Arrive e n)) w r = none_wider _ w _ (none_open (exchange w e) w _
    (λ x. no_drops None_of w _ (untouched_arrived w x n)))
drops_done (Asked (Unsent e n)) w r = none_wider _ w _ (none_open (exchange w e) w _
    (λ x. no_drops None_of w _ (untouched_unsent w x n)))
drops_done (Asked (GiveUp e n)) w r = none_wider _ w _ (none_open (exchange w e) w _
    (λ x. no_drops None_of w _ (untouched_given_up w x n)))
drops_done (Asked (Flush s t)) w r = none_wider _ w _ (none_flushed w s t)
drops_done (Asked (Answer e)) w r = none_wider _ w _ (none_open (exchange w e) w _
    (λ x. no_drops None_of w _ (untouched_answered w x)))
drops_done (Asked (Done e heard air)) w r = none_wider _ w _ (none_open (exchange w e) w _
    (λ x. none_ended w x heard air))
drops_done (Asked (Sleep s)) w r = no_drops _ w _ (untouched_on_station w s _)
drops_done (Asked (Ampdu s octets)) w r = no_drops _ w _ (untouched_on_station w s _)
drops_done (Asked (Stop s)) w r = no_drops _ w _ (untouched_on_station w s _)
drops_done (Asked (Start s)) w r = no_drops _ w _ (untouched_on_station w s _)
drops_done (Asked (Wake s)) w r = no_drops _ w _ (untouched_on_station w s _)
drops_done (Asked (Poll s)) w r = no_drops _ w _ (untouched_on_station w s _)
drops_done (Asked (Rx s c air)) w r = no_drops _ w _ (untouched_on_station w s _)
drops_done (Asked Reap) w r = none_wider _ w _ (none_reaped w.finished w)
drops_done (Asked (Group ask)) w r = record { drops = λ k e. inl e }
drops_done (Asked (Service ask)) w r = no_drops _ w _ (untouched_on_station w (station_served ask) _)
drops_done (Asked (Bss s b)) w r = no_drops _ w _ (untouched_on_station w s _)

untouched_refused : (note : Note) (r : Refusal) (w : World) → Untouched w (after_refusal w note r)
unfolding after_refusal
untouched_refused (Asked (Pull c l)) Idle w =
    after_idle (Untouched w) w c (untouched w) (untouched_after_pick w c)
untouched_refused _ _ w = untouched w

drops_answer : (r : Option Refusal) (note : Note) (w : World) → refusal w note ≡ r →
    Drops (DroppedBy w note) w (judged_outcome w note r).world
unfolding judged_outcome
drops_answer (Some r) note w e = none_by w (after_refusal w note r) note (untouched_refused note r w)
drops_answer None note w e =
    let v : World = (outcome_of w note).world in
    let u : World = with_listings_of v (concerned_station w note) in
    then_drops (DroppedBy w note) w v u (drops_done note w (ap (λ (r : Option Refusal). is_none r) e))
    (no_drops (DroppedBy w note) v u (untouched_listed (concerned_station w note) v))

-- Each frame that CoDel drops by a call is dropped by one of the dequeues of the call.
pub drops_step : (w : World) (note : Note) → Drops (DroppedBy w note) w (step w note).world
unfolding step
drops_step w note = drops_answer (refusal w note) note w refl
