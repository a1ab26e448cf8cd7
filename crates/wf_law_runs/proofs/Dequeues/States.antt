-- Proves how each call changes CoDel's state of a queue: it becomes the state after the dequeues of the call,
-- a renewed one, or a calmed one. By cases of the call.
use Rattle.std.proofs.Common.{◌≡◌, refl, ap, sym, ◌∙◌, subst, ℕ, zero, suc, ◌-◌, ◌==◌, Bool, true, false, not, ◌&&◌, ◌||◌, if◌then◌else◌, List, [], ◌∷◌, ◌++◌, length, map, Option, Some, None, is_none, option_map, unwrap_or, inl, inr}
use Rattle.std.specs.List.{list_any}
use Rattle.std.proofs.lemmas.Bool.{cases_eq}
use Rattle.wf_frame.specs.declared.settings.Config.{Config}
use Rattle.wf_frame.specs.declared.classes.Class.{Class}
use Rattle.wf_frame.specs.declared.classes.Cause.TheVariants.{Codel as By_codel, Left, Overlimit, Flushed}
use Rattle.wf_frame.specs.declared.classes.Fate.{Fate}
use Rattle.wf_frame.specs.declared.classes.Fate.TheVariants.{Dropped}
use Rattle.wf_frame.specs.declared.notes.Ask.TheVariants.{Join, Leave, Rate, Tick, Pull, Arrive, Answer, Done, Sleep, Wake, Poll, Rx, Reap, Ampdu, Stop, Start, Unsent, GiveUp, Flush, Offload, Weight, Plain, Hold, Begin, Free, Cease, Group, Service, Bss}
use Rattle.wf_frame.specs.declared.notes.Limits.{Limits}
use Rattle.wf_frame.specs.declared.notes.Note.{Note}
use Rattle.wf_frame.specs.declared.notes.Note.TheVariants.{Enqueue, Asked}
use Rattle.wf_frame.specs.declared.notes.Refusal.{Refusal}
use Rattle.wf_frame.specs.declared.notes.Refusal.TheVariants.{Idle}
use Rattle.wf_frame.specs.Classes.{all_classes}
use Rattle.wf_def_lists.specs.Table.{at, put, change, has, upto}
use Rattle.wf_def_codel.specs.Codel.{Item, Codel, Params, Dequeued, renewed, dequeue}
use Rattle.wf_def_codel.specs.Parameters.{params_at}
use Rattle.wf_def_rotation.specs.Rotation.{Rotation, Picked, has_key, in_order, no_keys, with_new_key}
use Rattle.wf_def_agreement.specs.Session.{request_due}
use Rattle.wf_def_world.specs.World.{World, Station, Tid, Queue, Mpdu, no_tid, no_station, session, tid_of, queue, exchange, codel_params, with_station, on_station, on_tid, with_queues, on_queue, with_fate, with_frame_finished, with_frames_finished}
use Rattle.wf_def_world.specs.Service.{station_served}
use Rattle.wf_def_world.specs.FlowQueues.{Taken, calmed, without_head, after_limit, is_at_limit, longest_queue, queue_for, when_listed, with_listed_queue, with_appended, after_put_in, with_queues_paid, after_dequeue, taken_by_codel, taken_from_picked, picked_queue, taken_for_tid, after_queue_left, after_queues_left, after_queue_flushed, after_queues_flushed}
use Rattle.wf_def_world.specs.CanSend.{can_give}
use Rattle.wf_def_world.specs.Exchanges.{Aggregate, Prepared, most_frames, fits_in, waiting_mpdus, longest_fitting, fresh_mpdus, with_number, with_fresh, aggregate_of, prepared_data, prepared_exchange, picked_station, sending_tid, after_tid_turn}
use Rattle.wf_def_world.specs.Refusals.{refusal}
use Rattle.wf_def_world.specs.Step.{in_rising_order, waiting_ids, after_tid_left, after_tids_left, without_listings, leave_outcome, after_tid_flushed, flush_outcome, join_outcome, with_frame, enqueue_outcome, next_item, pull_outcome_for, pull_outcome, tick_outcome, rate_outcome, sleep_outcome, wake_outcome, poll_outcome, rx_outcome, unsent_outcome, give_up_outcome, outcome_of, after_refusal, judged_outcome, step, concerned_station, offload_outcome, plain_outcome}
use Rattle.wf_law_rules.specs.CodelLaws.{Dequeue, codel_after_all}
use Rattle.wf_law_rules.proofs.Lemmas.Numbers.{on_if, eq_yes, eq_no, has_with}
use Rattle.wf_law_rules.proofs.Lemmas.Tables.{at_put_same, at_put_other}
use Rattle.wf_law_runs.specs.Dequeues.{dequeue_for, if_picked, dequeue_of_take, dequeues_of_fresh, dequeues_of_aggregate, dequeues_of_exchange, dequeues_of_winner, dequeues_of_pull, Visits, renewed_visits, calmed_visits, lists_queue, becomes_listed, visits_done, visits_after}
use Rattle.wf_law_runs.proofs.Common.Refused.{after_idle}
use Rattle.wf_law_runs.proofs.Common.Picked.{picked_world}
use Rattle.wf_law_runs.proofs.Deficits.Books.{upd, upd_same, upd_other, each_upd}
use Rattle.wf_law_runs.proofs.Queues.Shelves.{Shelves, shelves, shelves_with_station, shelves_hidden, shelves_on_session, shelves_on_share, shelves_on_queue, shelves_finish, shelves_finish_all, shelves_pay_queues, shelves_after_pick, shelves_after_turn, shelves_sent, shelves_ended, shelves_arrived, shelves_answered, shelves_marked, shelves_reaped, shelves_off_lists, shelves_listed, shelves_open, shelves_picked, shelves_caught_up, shelves_weighed, shelves_held, shelves_begun, shelves_freed, shelves_ceased}

-- The state after two lists of dequeues.
pub codel_append : (xs ys : List Dequeue) (c : Codel) →
    codel_after_all c (xs ++ ys) ≡ codel_after_all (codel_after_all c xs) ys
codel_append [] ys c = refl
codel_append (x ∷ xs) ys c = codel_append xs ys _

-- A change that does not affect the shelves keeps the state.
pub codel_same : {a b : Shelves} (q : ℕ) → a ≡ b → (a.queues q).codel ≡ (b.queues q).codel
codel_same q e = ap (λ (b : Shelves). (b.queues q).codel) e

codel_finished : (w : World) (fate : Fate) (ids : List ℕ) (q : ℕ) →
    (queue (with_frames_finished w fate ids) q).codel ≡ (queue w q).codel
codel_finished w fate ids q = codel_same q (shelves_finish_all ids w fate)

-- Returns the table of the queues of a world, as a function.
abbrev queues_of : World → ℕ → Queue
queues_of w q = queue w q

changed : (w : World) (p : ℕ) (f : Queue → Queue) (q : ℕ) →
    queue (on_queue w p f) q ≡ upd (queues_of w) p (f (queue w p)) q
changed w p f q = ap (λ (b : Shelves). b.queues q) (shelves_on_queue w p f)

-- A change of queue p that keeps its state keeps all states.
codel_kept : (w : World) (p : ℕ) (f : Queue → Queue) (q : ℕ) → (f (queue w p)).codel ≡ (queue w p).codel →
    (queue (on_queue w p f) q).codel ≡ (queue w q).codel
codel_kept w p f q e = ap (λ (y : Queue). y.codel) (changed w p f q)
    ∙ each_upd (λ i y. y.codel ≡ (queue w i).codel) (queues_of w) p (f (queue w p)) (λ i. refl) e q

-- The state of queue q after a change of queue p.
codel_changed : (w : World) (p : ℕ) (f : Queue → Queue) (q : ℕ) →
    (queue (on_queue w p f) q).codel ≡ (if p == q then (f (queue w q)).codel else (queue w q).codel)
codel_changed w p f q = ap (λ (y : Queue). y.codel) (changed w p f q) ∙ go (p == q) refl
  where
    go : (b : Bool) → (p == q) ≡ b → (upd (queues_of w) p (f (queue w p)) q).codel
        ≡ (if b then (f (queue w q)).codel else (queue w q).codel)
    go true e = subst (λ (n : ℕ). (upd (queues_of w) p (f (queue w p)) n).codel ≡ (f (queue w n)).codel)
        (eq_yes p q e) (ap (λ (y : Queue). y.codel) (upd_same (queues_of w) p (f (queue w p))))
    go false e = ap (λ (y : Queue). y.codel)
        (upd_other (queues_of w) p q (f (queue w p)) (λ same. eq_no p q e (sym same)))

-- ---- a take

taken_codel : (o : Option ℕ) (w : World) (s q : ℕ) → (queue (taken_from_picked w s o).world q).codel
    ≡ codel_after_all (queue w q).codel (if_picked o q (dequeue_for w s q))
unfolding taken_from_picked taken_by_codel
taken_codel None w s q = refl
taken_codel (Some p) w s q =
    let d : Dequeued = dequeue (codel_params w s) w.clock (queue w p).codel (queue w p).items in
    codel_finished (on_queue w p (after_dequeue d)) (Dropped By_codel) (map (λ x. x.id) d.dropped) q
    ∙ (ap (λ (y : Queue). y.codel) (changed w p (after_dequeue d) q) ∙ go d refl (p == q) refl)
  where
    go : (d : Dequeued) → d ≡ dequeue (codel_params w s) w.clock (queue w p).codel (queue w p).items →
        (b : Bool) → (p == q) ≡ b → (upd (queues_of w) p (after_dequeue d (queue w p)) q).codel
        ≡ codel_after_all (queue w q).codel (if b then dequeue_for w s q ∷ [] else [])
    go d is true e = subst (λ (n : ℕ). (upd (queues_of w) p (after_dequeue d (queue w p)) n).codel
        ≡ codel_after_all (queue w n).codel (dequeue_for w s n ∷ [])) (eq_yes p q e)
        (ap (λ (y : Queue). y.codel) (upd_same (queues_of w) p (after_dequeue d (queue w p)))
        ∙ ap (λ (x : Dequeued). x.state) is)
    go d is false e = ap (λ (y : Queue). y.codel)
        (upd_other (queues_of w) p q (after_dequeue d (queue w p)) (λ same. eq_no p q e (sym same)))

pub stations_paid : (qs : List ℕ) (w : World) (quanta : ℕ → ℕ) →
    (with_queues_paid w quanta qs).stations ≡ w.stations
unfolding with_queues_paid on_queue
stations_paid [] w quanta = refl
stations_paid (q ∷ qs) w quanta = stations_paid qs _ quanta

rate_mapped : (o : Option Station) (t : ℕ) (r : Rotation) →
    (unwrap_or (option_map (λ (x : Station). record
    x { tids = change no_tid x.tids t (λ y. record y { queues = r }) }) o) no_station).rate
    ≡ (unwrap_or o no_station).rate
rate_mapped None t r = refl
rate_mapped (Some x) t r = refl

-- The lists of queues do not affect CoDel's parameters.
params_listed : (w : World) (s t : ℕ) (r : Rotation) →
    codel_params (with_queues w s t r) s ≡ codel_params w s
unfolding with_queues on_tid on_station with_station
params_listed w s t r =
    ap (λ (o : Option Station). params_at (unwrap_or o no_station).rate) (at_put_same None w.stations s _)
    ∙ ap params_at (rate_mapped (at None w.stations s) t r)

-- The world from which a take for TID t of station s takes a frame.
abbrev pub world_to_take : World → ℕ → ℕ → World
world_to_take w s t =
    let p : Picked = picked_queue w s t in
    with_queues (with_queues_paid w p.quanta (in_order (tid_of w s t).queues)) s t p.lists

abbrev visit : Params → ℕ → List Item → Dequeue
visit times now items = record { times = times; now = now; items = items }

-- In this world, a dequeue is the same.
pub same_to_take : (w : World) (s t q : ℕ) → (dequeue_for (world_to_take w s t) s q ≡ dequeue_for w s q)
    × ((queue (world_to_take w s t) q).codel ≡ (queue w q).codel)
unfolding with_queues on_tid on_station with_station
same_to_take w s t q =
    let p : Picked = picked_queue w s t in
    let u : World = with_queues_paid w p.quanta (in_order (tid_of w s t).queues) in
    let is = shelves_pay_queues (in_order (tid_of w s t).queues) w p.quanta in
    let rates : codel_params (world_to_take w s t) s ≡ codel_params w s =
    params_listed u s t p.lists ∙ ap (λ (l : List (Option Station)). params_at
    (unwrap_or (at None l s) no_station).rate) (stations_paid (in_order (tid_of w s t).queues) w p.quanta) in
    let clock : u.clock ≡ w.clock = ap (λ (b : Shelves). b.clock) is in
    let items : (queue u q).items ≡ (queue w q).items = ap (λ (b : Shelves). (b.queues q).items) is in (
      same_dequeue _ _ rates _ _ clock _ _ items,
      ap (λ (b : Shelves). (b.queues q).codel) is,
    )
  where
    same_dequeue : (a b : Params) → a ≡ b → (m n : ℕ) → m ≡ n → (xs ys : List Item) → xs ≡ ys →
        visit a m xs ≡ visit b n ys
    same_dequeue a b e m n f xs ys g = rw (e, f, g) refl

pub codel_take : (w : World) (s t q : ℕ) → (queue (taken_for_tid w s t).world q).codel
    ≡ codel_after_all (queue w q).codel (dequeue_of_take w s t q)
unfolding taken_for_tid
codel_take w s t q =
    let v : World = world_to_take w s t in
    let o : Option ℕ = (picked_queue w s t).winner in
    let same = same_to_take w s t q in
    taken_codel o v s q
    ∙ (ap (λ (c : Codel). codel_after_all c (if_picked o q (dequeue_for v s q))) same.1
    ∙ ap (λ (x : Dequeue). codel_after_all (queue w q).codel (if_picked o q x)) same.0)

pub shelves_numbered : (o : Option Item) (w : World) (s t : ℕ) → shelves (with_number w s t o) ≡ shelves w
unfolding with_number
shelves_numbered None w s t = refl
shelves_numbered (Some x) w s t = shelves_on_session w s t _

-- ---- a Pull

if_aggregate : (b : Bool) (q : ℕ) (c : Codel) (x y : Aggregate) (ds es : List Dequeue) →
    (queue x.world q).codel ≡ codel_after_all c ds → (queue y.world q).codel ≡ codel_after_all c es →
    (queue (if b then x else y).world q).codel ≡ codel_after_all c (if b then ds else es)
if_aggregate true q c x y ds es h k = h
if_aggregate false q c x y ds es h k = k

codel_fresh : (n : ℕ) (w : World) (s t : ℕ) (ms : List Mpdu) (q : ℕ) →
    (queue (with_fresh n w s t ms).world q).codel
    ≡ codel_after_all (queue w q).codel (dequeues_of_fresh n w s t ms q)
unfolding with_fresh
codel_fresh zero w s t ms q = refl
codel_fresh (suc n) w s t ms q =
    let taken : Taken = taken_for_tid w s t in
    let longer : List Mpdu = ms ++ fresh_mpdus w s t taken.item in
    let u : World = with_number taken.world s t taken.item in
    let ds : List Dequeue = dequeue_of_take w s t q in
    let es : List Dequeue = if fits_in w s longer then dequeues_of_fresh n u s t longer q else [] in
    let here : (queue u q).codel ≡ codel_after_all (queue w q).codel ds =
    codel_same q (shelves_numbered taken.item taken.world s t) ∙ codel_take w s t q in
    if_aggregate (not (can_give w s t)) q (queue w q).codel _ _ [] (ds ++ es) refl
    (if_aggregate (fits_in w s longer) q (queue u q).codel _ _ _ [] (codel_fresh n u s t longer q) refl
    ∙ (ap (λ (c : Codel). codel_after_all c es) here ∙ sym (codel_append ds es (queue w q).codel)))

codel_filled : (w : World) (s t q : ℕ) → (queue (aggregate_of w s t).world q).codel
    ≡ codel_after_all (queue w q).codel (dequeues_of_aggregate w s t q)
unfolding aggregate_of
codel_filled w s t q =
    let chosen : List Mpdu = longest_fitting w s (waiting_mpdus w s t) in
    if_aggregate (length chosen == length (waiting_mpdus w s t)) q (queue w q).codel _ _ _ []
    (codel_fresh (most_frames w s - length chosen) w s t chosen q) refl

if_prepared : (b : Bool) (q : ℕ) (c : Codel) (x y : Prepared) (ds es : List Dequeue) →
    (queue x.world q).codel ≡ codel_after_all c ds → (queue y.world q).codel ≡ codel_after_all c es →
    (queue (if b then x else y).world q).codel ≡ codel_after_all c (if b then ds else es)
if_prepared true q c x y ds es h k = h
if_prepared false q c x y ds es h k = k

codel_prepared : (w : World) (s t q : ℕ) → (queue (prepared_exchange w s t).world q).codel
    ≡ codel_after_all (queue w q).codel (dequeues_of_exchange w s t q)
unfolding prepared_exchange prepared_data
codel_prepared w s t q =
    if_prepared (request_due (session w s t)) q (queue w q).codel _ _ [] (dequeues_of_aggregate w s t q) refl
    (codel_same q (shelves_on_session (aggregate_of w s t).world s t _) ∙ codel_filled w s t q)

codel_won : (o : Option ℕ) (w : World) (c : Class) (q : ℕ) → (queue (pull_outcome_for w c o).world q).codel
    ≡ codel_after_all (queue w q).codel (dequeues_of_winner w c o q)
unfolding pull_outcome_for
codel_won None w c q = refl
codel_won (Some s) w c q =
    let t : ℕ = sending_tid w s c in
    let v : World = after_tid_turn w s c t in
    codel_same q (shelves_sent s t c _)
    ∙ (codel_prepared v s t q ∙ ap (λ (x : Codel). codel_after_all x (dequeues_of_exchange v s t q))
    (codel_same q (shelves_after_turn w s c t)))

codel_pulled : (w : World) (c : Class) (l : Limits) (q : ℕ) → (queue (pull_outcome w c l).world q).codel
    ≡ codel_after_all (queue w q).codel (dequeues_of_pull w c l q)
unfolding pull_outcome
codel_pulled w c l q = codel_won (picked_station w c).winner (picked_world w c l) c q
    ∙ ap (λ (x : Codel). codel_after_all x (dequeues_of_pull w c l q))
    (codel_same q (shelves_picked w c l))

-- ---- a Leave

has_append : (xs ys : List ℕ) (q : ℕ) → has (xs ++ ys) q ≡ (has xs q || has ys q)
has_append [] ys q = refl
has_append (x ∷ xs) ys q = ap (λ (b : Bool). (x == q) || b) (has_append xs ys q)
    ∙ grouped (x == q) (has xs q) (has ys q)
  where
    grouped : (a b c : Bool) → (a || (b || c)) ≡ ((a || b) || c)
    grouped true b c = refl
    grouped false b c = refl

has_rising_as : (xs : List ℕ) (q : ℕ) → has (in_rising_order xs) q ≡ has xs q
has_rising_as [] q = refl
has_rising_as (x ∷ xs) q = has_with (in_rising_order xs) x q
    ∙ ap (λ (b : Bool). (x == q) || b) (has_rising_as xs q)

has_in_order : (r : Rotation) (q : ℕ) → has (in_rising_order (in_order r)) q ≡ has_key r q
has_in_order r q = has_rising_as (in_order r) q ∙ (has_append r.old r.new q
    ∙ swapped (has r.old q) (has r.new q))
  where
    swapped : (a b : Bool) → (a || b) ≡ (b || a)
    swapped true true = refl
    swapped true false = refl
    swapped false true = refl
    swapped false false = refl

codel_purged : (w : World) (p q : ℕ) → (queue (after_queue_left w p) q).codel
    ≡ (if p == q then renewed (queue w q).codel else (queue w q).codel)
unfolding after_queue_left
codel_purged w p q =
    codel_finished (on_queue w p (λ y. record y { items = []; codel = renewed y.codel })) (Dropped Left)
    (map (λ x. x.id) (queue w p).items) q
    ∙ codel_changed w p (λ y. record y { items = []; codel = renewed y.codel }) q

-- The state x is renewed if one of two tests holds, and else the old state c.
new_if_either : (a b : Bool) (x y c : Codel) → y ≡ (if a then renewed c else c) →
    x ≡ (if b then renewed y else y) → x ≡ (if a || b then renewed c else c)
new_if_either true true x y c h k = k ∙ ap renewed h
new_if_either true false x y c h k = k ∙ h
new_if_either false true x y c h k = k ∙ ap renewed h
new_if_either false false x y c h k = k ∙ h

codel_all_purged : (qs : List ℕ) (w : World) (q : ℕ) → (queue (after_queues_left w qs) q).codel
    ≡ (if has qs q then renewed (queue w q).codel else (queue w q).codel)
unfolding after_queues_left
codel_all_purged [] w q = refl
codel_all_purged (p ∷ ps) w q =
    new_if_either (p == q) (has ps q) _ (queue (after_queue_left w p) q).codel (queue w q).codel
    (codel_purged w p q) (codel_all_purged ps (after_queue_left w p) q)

stations_finished : (ids : List ℕ) (w : World) (fate : Fate) →
    (with_frames_finished w fate ids).stations ≡ w.stations
unfolding with_frames_finished with_frame_finished with_fate
stations_finished [] w fate = refl
stations_finished (id ∷ ids) w fate = stations_finished ids _ fate

stations_purged : (qs : List ℕ) (w : World) → (after_queues_left w qs).stations ≡ w.stations
unfolding after_queues_left after_queue_left on_queue
stations_purged [] w = refl
stations_purged (q ∷ qs) w = stations_purged qs _ ∙ stations_finished _ _ _

-- The world from which TID t of station s is made to list no queue.
abbrev world_to_clear : World → ℕ → ℕ → World
world_to_clear w s t =
    after_queues_left (with_frames_finished w (Dropped Left) (waiting_ids (session w s t).slots))
    (in_rising_order (in_order (tid_of w s t).queues))

stations_to_clear : (w : World) (s t : ℕ) → (world_to_clear w s t).stations ≡ w.stations
stations_to_clear w s t = stations_purged _ _ ∙ stations_finished _ w _

tid_unlisted : (o : Option Station) (t i q : ℕ) →
    has_key (at no_tid (unwrap_or o no_station).tids t).queues q ≡ false →
    has_key (at no_tid (unwrap_or (option_map (λ (x : Station). record
    x { tids = change no_tid x.tids t (λ y. record y { queues = no_keys }) }) o) no_station).tids i).queues q
    ≡ has_key (at no_tid (unwrap_or o no_station).tids i).queues q
tid_unlisted None t i q h = refl
tid_unlisted (Some x) t i q h =
    let y : Tid = record (at no_tid x.tids t) { queues = no_keys } in
    elim (cases_eq t i) [
      | inl e ↦ ap (λ (z : Tid). has_key z.queues q)
          (subst (λ (n : ℕ). at no_tid (put no_tid x.tids t y) n ≡ y) e (at_put_same no_tid x.tids t y))
          ∙ sym (subst (λ (n : ℕ). has_key (at no_tid x.tids n).queues q ≡ false) e h)
      | inr other ↦ ap (λ (z : Tid). has_key z.queues q) (at_put_other no_tid x.tids t i y other)
    ]

-- After TID t, which does not list queue q, has left, the same TIDs list q.
lists_left : (w : World) (s t i q : ℕ) → has_key (tid_of w s t).queues q ≡ false →
    has_key (tid_of (after_tid_left w s t) s i).queues q ≡ has_key (tid_of w s i).queues q
unfolding after_tid_left with_queues on_tid on_station with_station
lists_left w s t i q h =
    let u : World = world_to_clear w s t in
    let same : (j : ℕ) → has_key (tid_of u s j).queues q ≡ has_key (tid_of w s j).queues q =
    λ j. ap (λ (l : List (Option Station)).
    has_key (at no_tid (unwrap_or (at None l s) no_station).tids j).queues q) (stations_to_clear w s t) in
    ap (λ (o : Option Station). has_key (at no_tid (unwrap_or o no_station).tids i).queues q)
    (at_put_same None u.stations s _)
    ∙ (tid_unlisted (at None u.stations s) t i q (same t ∙ h) ∙ same i)

codel_tid_left : (w : World) (s t q : ℕ) → (queue (after_tid_left w s t) q).codel
    ≡ (if has_key (tid_of w s t).queues q then renewed (queue w q).codel else (queue w q).codel)
unfolding after_tid_left with_queues on_tid on_station with_station
codel_tid_left w s t q =
    let u : World = with_frames_finished w (Dropped Left) (waiting_ids (session w s t).slots) in
    codel_all_purged (in_rising_order (in_order (tid_of w s t).queues)) u q
    ∙ (ap (λ (b : Bool). if b then renewed (queue u q).codel else (queue u q).codel)
    (has_in_order (tid_of w s t).queues q)
    ∙ ap (λ (c : Codel). if has_key (tid_of w s t).queues q then renewed c else c)
    (codel_finished w (Dropped Left) (waiting_ids (session w s t).slots) q))

any_as : (f g : ℕ → Bool) (ts : List ℕ) → ((t : ℕ) → f t ≡ g t) → list_any f ts ≡ list_any g ts
any_as f g [] h = refl
any_as f g (t ∷ ts) h = ap (λ (b : Bool). b || list_any f ts) (h t)
    ∙ ap (λ (b : Bool). g t || b) (any_as f g ts h)

codel_tids_left : (ts : List ℕ) (w : World) (s q : ℕ) → (queue (after_tids_left w s ts) q).codel
    ≡ (if list_any (λ t. has_key (tid_of w s t).queues q) ts then renewed (queue w q).codel
    else (queue w q).codel)
unfolding after_tids_left
codel_tids_left [] w s q = refl
codel_tids_left (t ∷ ts) w s q =
    go (has_key (tid_of w s t).queues q) refl (codel_tid_left w s t q)
    (codel_tids_left ts (after_tid_left w s t) s q)
  where
    v : World
    v = after_tid_left w s t

    f : ℕ → Bool
    f = λ i. has_key (tid_of w s i).queues q

    g : ℕ → Bool
    g = λ i. has_key (tid_of v s i).queues q

    same : (b : Bool) (x y c : Codel) → y ≡ renewed c → x ≡ (if b then renewed y else y) → x ≡ renewed c
    same true x y c h k = k ∙ ap renewed h
    same false x y c h k = k ∙ h

    go : (b : Bool) → f t ≡ b → (queue v q).codel ≡ (if b then renewed (queue w q).codel
        else (queue w q).codel) →
        (queue (after_tids_left v s ts) q).codel ≡ (if list_any g ts then renewed (queue v q).codel
        else (queue v q).codel) →
        (queue (after_tids_left v s ts) q).codel
        ≡ (if b || list_any f ts then renewed (queue w q).codel else (queue w q).codel)
    go true e h k = same (list_any g ts) _ (queue v q).codel (queue w q).codel h k
    go false e h k = k ∙ (ap (λ (b : Bool). if b then renewed (queue v q).codel else (queue v q).codel)
        (any_as g f ts (λ i. lists_left w s t i q e))
        ∙ ap (λ (c : Codel). if list_any f ts then renewed c else c) h)

codel_gone : (w : World) (s q : ℕ) → (queue (leave_outcome w s).world q).codel
    ≡ (if lists_queue w s q then renewed (queue w q).codel else (queue w q).codel)
unfolding leave_outcome
codel_gone w s q =
    let a : World = after_tids_left w s (upto 8) in
    codel_same q (shelves_with_station (without_listings a s all_classes) s None)
    ∙ (codel_same q (shelves_off_lists all_classes a s) ∙ codel_tids_left (upto 8) w s q)

-- ---- a Flush

codel_all_flushed : (qs : List ℕ) (w : World) (q : ℕ) →
    (queue (after_queues_flushed w qs) q).codel ≡ (queue w q).codel
unfolding after_queues_flushed after_queue_flushed
codel_all_flushed [] w q = refl
codel_all_flushed (p ∷ ps) w q =
    let u : World = on_queue w p (λ y. record y { items = [] }) in
    let ids : List ℕ = map (λ x. x.id) (queue w p).items in
    codel_all_flushed ps (with_frames_finished u (Dropped Flushed) ids) q
    ∙ (codel_finished u (Dropped Flushed) ids q ∙ codel_kept w p (λ y. record y { items = [] }) q refl)

codel_flushed : (w : World) (s t q : ℕ) →
    (queue (flush_outcome w s t).world q).codel ≡ (queue w q).codel
unfolding flush_outcome after_tid_flushed
codel_flushed w s t q = codel_same q (shelves_caught_up _ s t) ∙ (codel_all_flushed _ _ q
    ∙ (codel_finished _ _ _ q ∙ codel_same q (shelves_on_session w s t _)))

-- ---- an Enqueue

codel_headless : (items : List Item) (w : World) (p q : ℕ) →
    (queue (without_head w p items) q).codel ≡ (queue w q).codel
unfolding without_head
codel_headless [] w p q = refl
codel_headless (x ∷ rest) w p q =
    let v : World = on_queue w p (λ y. record y { items = rest }) in
    codel_same q (shelves_finish v (Dropped Overlimit) x.id)
    ∙ codel_kept w p (λ y. record y { items = rest }) q refl

codel_limited : (w : World) (q : ℕ) → (queue (after_limit w) q).codel ≡ (queue w q).codel
unfolding after_limit
codel_limited w q =
    on_if (λ (v : World). (queue v q).codel ≡ (queue w q).codel) (is_at_limit w)
    (without_head w (longest_queue w) (queue w (longest_queue w)).items) w
    (λ _. codel_headless (queue w (longest_queue w)).items w (longest_queue w) q) (λ _. refl)

config_headless : (items : List Item) (w : World) (p : ℕ) → (without_head w p items).config ≡ w.config
unfolding without_head with_frame_finished with_fate on_queue
config_headless [] w p = refl
config_headless (x ∷ rest) w p = refl

config_limited : (w : World) → (after_limit w).config ≡ w.config
unfolding after_limit
config_limited w =
    on_if (λ (v : World). v.config ≡ w.config) (is_at_limit w)
    (without_head w (longest_queue w) (queue w (longest_queue w)).items) w
    (λ _. config_headless (queue w (longest_queue w)).items w (longest_queue w)) (λ _. refl)

-- The state of queue q after a frame is put into queue p of TID t of station s.
codel_put_in : (w : World) (s t p q : ℕ) (x : Item) → (queue (after_put_in w s t p x) q).codel
    ≡ (if (w.config.codel_reset == 1) && ((p == q) && not (has_key (tid_of w s t).queues q))
    then calmed (queue w q).codel else (queue w q).codel)
unfolding after_put_in with_listed_queue with_appended on_queue with_queues on_tid on_station with_station
codel_put_in w s t p q x = go (has_key (tid_of u s t).queues p) refl
  where
    u : World
    u = with_appended w p x

    f : Queue → Queue
    f = λ y. record y { items = y.items ++ x ∷ [] }

    old : (queue u q).codel ≡ (queue w q).codel
    old = codel_kept w p f q refl

    same_lists : (n : ℕ) → has_key (tid_of u s t).queues n ≡ has_key (tid_of w s t).queues n
    same_lists n = refl

    same_config : u.config ≡ w.config
    same_config = refl

    kept_if : (r m k : Bool) (c : Codel) → (m ≡ true → k ≡ true) →
        c ≡ (if r && (m && not k) then calmed c else c)
    kept_if false m k c h = refl
    kept_if true false k c h = refl
    kept_if true true true c h = refl
    kept_if true true false c h = absurd (let e = h refl in cc e)

    calmed_if : (r m k : Bool) (c : Codel) → (m ≡ true → k ≡ false) →
        (if m then (if r then calmed c else c) else c) ≡ (if r && (m && not k) then calmed c else c)
    calmed_if true true false c h = refl
    calmed_if false true false c h = refl
    calmed_if true false k c h = refl
    calmed_if false false k c h = refl
    calmed_if r true true c h = absurd (let e = h refl in cc e)

    here : (b : Bool) → has_key (tid_of u s t).queues p ≡ b → (p == q) ≡ true →
        has_key (tid_of w s t).queues q ≡ b
    here b e m = subst (λ (n : ℕ). has_key (tid_of w s t).queues n ≡ b) (eq_yes p q m)
        (sym (same_lists p) ∙ e)

    go : (b : Bool) → has_key (tid_of u s t).queues p ≡ b → (queue (if b then u
        else with_queues (on_queue u p (when_listed u.config)) s t (with_new_key (tid_of u s t).queues p))
        q).codel
        ≡ (if (w.config.codel_reset == 1) && ((p == q) && not (has_key (tid_of w s t).queues q))
        then calmed (queue w q).codel else (queue w q).codel)
    go true e = old ∙ kept_if (w.config.codel_reset == 1) (p == q) (has_key (tid_of w s t).queues q) _
        (here true e)
    go false e = codel_changed u p (when_listed u.config) q
        ∙ (ap (λ (k : Config). if p == q then (if k.codel_reset == 1 then calmed (queue u q).codel
        else (queue u q).codel) else (queue u q).codel) same_config
        ∙ (ap (λ (c : Codel). if p == q then (if w.config.codel_reset == 1 then calmed c else c) else c) old
        ∙ calmed_if (w.config.codel_reset == 1) (p == q) (has_key (tid_of w s t).queues q) _ (here false e)))

codel_enqueued : (w : World) (s t flow len q : ℕ) → (queue (enqueue_outcome w s t flow len).world q).codel
    ≡ (if (w.config.codel_reset == 1) && becomes_listed (after_limit w) s t flow q
    then calmed (queue w q).codel else (queue w q).codel)
unfolding enqueue_outcome with_frame
codel_enqueued w s t flow len q =
    let u : World = after_limit w in
    codel_put_in u s t (queue_for u s t flow) q (next_item w len)
    ∙ (ap (λ (k : Config). if (k.codel_reset == 1) && becomes_listed u s t flow q
    then calmed (queue u q).codel else (queue u q).codel) (config_limited w)
    ∙ ap (λ (c : Codel). if (w.config.codel_reset == 1) && becomes_listed u s t flow q then calmed c else c)
    (codel_limited w q))

-- ---- a call

-- Returns the state after visits.
abbrev pub state_of : Visits → Codel
state_of x = codel_after_all x.start x.dequeues

state_if : (b : Bool) (x y : Visits) → state_of (if b then x else y) ≡ (if b then state_of x else state_of y)
state_if true x y = refl
state_if false x y = refl

codel_done : (note : Note) (w : World) (q : ℕ) (x : Visits) → (queue w q).codel ≡ state_of x →
    (queue (outcome_of w note).world q).codel ≡ state_of (visits_done w q note x)
unfolding outcome_of tick_outcome rate_outcome sleep_outcome wake_outcome poll_outcome rx_outcome join_outcome
    unsent_outcome give_up_outcome offload_outcome plain_outcome
codel_done (Enqueue s t flow len) w q x h =
    let b : Bool = (w.config.codel_reset == 1) && becomes_listed (after_limit w) s t flow q in
    codel_enqueued w s t flow len q ∙ (ap (λ (c : Codel). if b then calmed c else c) h
    ∙ sym (state_if b (calmed_visits x) x))
codel_done (Asked (Join s window start exponent weight)) w q x h =
    codel_same q (shelves_with_station w s _) ∙ h
codel_done (Asked (Offload s exponent weight)) w q x h =
    codel_same q (shelves_with_station w s _) ∙ h
codel_done (Asked (Weight s weight)) w q x h = codel_same q (shelves_weighed w s weight) ∙ h
codel_done (Asked (Plain s start exponent weight)) w q x h =
    codel_same q (shelves_with_station w s _) ∙ h
codel_done (Asked (Hold s t)) w q x h = codel_same q (shelves_held w s t) ∙ h
codel_done (Asked (Begin s t window)) w q x h = codel_same q (shelves_begun w s t window) ∙ h
codel_done (Asked (Free s t)) w q x h = codel_same q (shelves_freed w s t) ∙ h
codel_done (Asked (Cease s t)) w q x h = codel_same q (shelves_ceased w s t) ∙ h
codel_done (Asked (Leave s)) w q x h = codel_gone w s q
    ∙ (ap (λ (c : Codel). if lists_queue w s q then renewed c else c) h
    ∙ sym (state_if (lists_queue w s q) (renewed_visits x) x))
codel_done (Asked (Rate s rate)) w q x h = codel_same q (shelves_hidden w s _ (λ x. refl)) ∙ h
codel_done (Asked (Tick by)) w q x h = h
codel_done (Asked (Pull c l)) w q x h = codel_pulled w c l q
    ∙ (ap (λ (y : Codel). codel_after_all y (dequeues_of_pull w c l q)) h
    ∙ sym (codel_append x.dequeues (dequeues_of_pull w c l q) x.start))
codel_done (Asked (Arrive e n)) w q x h =
    codel_same q (shelves_open (exchange w e) w _ (λ y. shelves_arrived w y n)) ∙ h
codel_done (Asked (Unsent e n)) w q x h =
    codel_same q (shelves_open (exchange w e) w _ (λ y. shelves_marked w y _ _)) ∙ h
codel_done (Asked (GiveUp e n)) w q x h =
    codel_same q (shelves_open (exchange w e) w _ (λ y. shelves_marked w y _ _)) ∙ h
codel_done (Asked (Flush s t)) w q x h = codel_flushed w s t q ∙ h
codel_done (Asked (Answer e)) w q x h =
    codel_same q (shelves_open (exchange w e) w _ (λ y. shelves_answered w y)) ∙ h
codel_done (Asked (Done e heard air)) w q x h =
    codel_same q (shelves_open (exchange w e) w _ (λ y. shelves_ended air w y heard)) ∙ h
codel_done (Asked (Sleep s)) w q x h = codel_same q (shelves_hidden w s _ (λ x. refl)) ∙ h
codel_done (Asked (Ampdu s octets)) w q x h = codel_same q (shelves_hidden w s _ (λ x. refl)) ∙ h
codel_done (Asked (Stop s)) w q x h = codel_same q (shelves_hidden w s _ (λ x. refl)) ∙ h
codel_done (Asked (Start s)) w q x h = codel_same q (shelves_hidden w s _ (λ x. refl)) ∙ h
codel_done (Asked (Wake s)) w q x h = codel_same q (shelves_hidden w s _ (λ x. refl)) ∙ h
codel_done (Asked (Poll s)) w q x h = codel_same q (shelves_hidden w s _ (λ x. refl)) ∙ h
codel_done (Asked (Rx s c air)) w q x h = codel_same q (shelves_on_share w s c _) ∙ h
codel_done (Asked Reap) w q x h = codel_same q (shelves_reaped w.finished w) ∙ h
codel_done (Asked (Group ask)) w q x h = h
codel_done (Asked (Service ask)) w q x h =
    codel_same q (shelves_hidden w (station_served ask) _ (λ x. refl)) ∙ h
codel_done (Asked (Bss s b)) w q x h = codel_same q (shelves_hidden w s _ (λ x. refl)) ∙ h

codel_refused : (note : Note) (r : Refusal) (w : World) (q : ℕ) →
    (queue (after_refusal w note r) q).codel ≡ (queue w q).codel
unfolding after_refusal
codel_refused (Asked (Pull c l)) Idle w q =
    after_idle (λ v. (queue v q).codel ≡ (queue w q).codel) w c refl (codel_same q (shelves_after_pick w c))
codel_refused _ _ w q = refl

codel_answer : (r : Option Refusal) (note : Note) (w : World) (q : ℕ) (x : Visits) →
    (queue w q).codel ≡ state_of x → (queue (judged_outcome w note r).world q).codel
    ≡ state_of (if is_none r then visits_done w q note x else x)
unfolding judged_outcome
codel_answer (Some r) note w q x h = codel_refused note r w q ∙ h
codel_answer None note w q x h =
    codel_same q (shelves_listed (concerned_station w note) _)
    ∙ codel_done note w q x h

pub codel_step : (w : World) (note : Note) (q : ℕ) (x : Visits) → (queue w q).codel ≡ state_of x →
    (queue (step w note).world q).codel ≡ state_of (visits_after w q note x)
unfolding step
codel_step w note q x h = codel_answer (refusal w note) note w q x h
