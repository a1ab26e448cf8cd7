-- Proves that the frames that a leave or a flush drops are counted under their fate.
use Rattle.std.proofs.Common.{◌≡◌, refl, ap, sym, ◌∙◌, subst, arith, ℕ, zero, suc, ◌+◌, ◌<◌, ◌≤◌, true, List, [], ◌∷◌, map, length, get_or, length-append, length-set, Option, inl, inr}
use Rattle.std.specs.Prelude.{unwrap_or, None}
use Rattle.std.proofs.lemmas.List.{take_all, length-map}
use Rattle.std.proofs.lemmas.List.Sums.{sum_by-cons}
use Rattle.std.proofs.lemmas.Bool.{cases_Bool, cases_eq}
use Rattle.wf_frame.specs.Frames.{FrameValue}
use Rattle.wf_frame.specs.declared.classes.Cause.{Cause}
use Rattle.wf_frame.specs.declared.classes.Cause.TheVariants.{Left, Flushed}
use Rattle.wf_frame.specs.declared.classes.Fate.{Fate}
use Rattle.wf_frame.specs.declared.classes.Fate.TheVariants.{Dropped}
use Rattle.wf_def_lists.specs.Table.{at, has, upto, count_from}
use Rattle.wf_def_codel.specs.Codel.{Item, Codel, renewed}
use Rattle.wf_def_rotation.specs.Rotation.{Rotation, no_keys, in_order}
use Rattle.wf_def_lists.specs.Lists.{on}
use Rattle.wf_law_rules.proofs.Lemmas.Counts.{on-nil, on-cons_same, on-cons_other, on-first, on-filter, on-filter_out, on_order-none}
use Rattle.wf_law_rules.proofs.Lemmas.Members.{has_head, has_tail, has_filter}
use Rattle.wf_def_world.specs.World.{World, Station, no_tid, no_station, queue, tid_of, session, on_queue, with_queues, with_frames_finished}
use Rattle.wf_def_world.specs.FlowQueues.{after_queues_left, after_queues_flushed}
use Rattle.wf_def_world.specs.Step.{waiting_ids, in_rising_order, after_tid_left}
use Rattle.wf_queue_flows.specs.Backlog.{BacklogValue, frames_at, frame_with_fate, after_emptying, unchanged}
use Rattle.wf_frame.specs.Classes.{tid_number}
use Rattle.wf_queue_flows.specs.Flows.{FlowsValue, queues as queue_count, tid_rotation, is_listed, frames_waiting, frames_of_tid, queues_of, all_emptied, after_purge, after_tid_flush}
use Rattle.wf_queue_flows.proofs.Owners.{on-listed}
use Rattle.wf_queue_flows.proofs.Waiting.{waiting-set, waiting_same}
use Rattle.wf_queue_flows_refines.specs.Standing.{Part, ids, queue_emptied, queues_emptied, waiting_flushed, Stands, FlowsStandFor, tid_emptied}
use Rattle.wf_queue_flows_refines.specs.Frames.{HaveSettled, AreHeld, QueuedAreHeld}
use Rattle.wf_queue_flows_refines.proofs.Readers.{count_below}
use Rattle.wf_queue_flows_refines.proofs.Rising.{rising_listed}
use Rattle.wf_queue_flows_refines.proofs.Purges.{item_ids, change, stands_emptied, listed_low, stations_finish_all}
use Rattle.wf_queue_flows_refines.proofs.Emptied.{queues_left, queues_flushed}
use Rattle.wf_queue_flows_refines.proofs.Flushes.{queues_waiting}
use Rattle.wf_queue_flows_refines.proofs.Held.{held_emptied}
use Rattle.wf_queue_flows_refines.proofs.Fates.{settled_all, finished_all, frames_queue, finished_queue, frames_lists, finished_lists, tally_same, held_same, first_held}

-- from one world to the next, as many held frames get the fate as the finished list grows by
record SettlesAll (w u : World) (fate : Fate) : Type 0 where
  count : ℕ
  grown : count + length w.finished ≡ length u.finished
  settled : HaveSettled w u fate count

none_settle : (w u : World) (fate : Fate) → u.frames ≡ w.frames → u.finished ≡ w.finished →
    SettlesAll w u fate
none_settle w u fate frames finished = record {
  count = 0;
  grown =
      omega (arith, ap (length {A = ℕ}) finished);
  settled = λ x. omega (arith, tally_same w u x frames);
}

both_settle : (u v w : World) (fate : Fate) → SettlesAll u v fate → SettlesAll v w fate → SettlesAll u w fate
both_settle u v w fate a b = record {
  count = a.count + b.count;
  grown = omega (arith, a.grown, b.grown);
  settled = λ x. omega (arith, a.settled x, b.settled x);
}

list_settles : (l : List ℕ) (w : World) (fate : Fate) → AreHeld w l →
    SettlesAll w (with_frames_finished w fate l) fate
list_settles l w fate h = record {
  count = length l;
  grown = omega (arith, finished_all l w fate);
  settled =
      settled_all l w fate h;
}

module _ (cause : Cause) (codel : Codel → Codel) where
  queue_settles : (v : FlowsValue) (w : World) (q : ℕ) → FlowsStandFor v w → QueuedAreHeld v w →
      SettlesAll w (queue_emptied cause codel w q) (Dropped cause)
  unfolding queue_emptied
  queue_settles v w q st h =
      let emptied : World = on_queue w q (change cause codel) in
      let frames : List FrameValue = frames_at v.backlog q in
      let out : List ℕ = map (λ (x : Item). x.id) (queue w q).items in
      let are : out ≡ ids frames = ap (map (λ (x : Item). x.id)) (st.items q) ∙ item_ids frames in
      let all : AreHeld w (ids frames) = subst (λ (l : List FrameValue). AreHeld w (ids l))
      (take_all (length frames) frames (omega arith)) (first_held v w q (length frames) st h) in
      both_settle w emptied (with_frames_finished emptied (Dropped cause) out)
      (Dropped cause)
      (none_settle w emptied (Dropped cause) (frames_queue w q (change cause codel))
      (finished_queue w q (change cause codel)))
      (list_settles out emptied (Dropped cause)
      (held_same w emptied out (frames_queue w q (change cause codel)) (subst (AreHeld w) (sym are) all)))

  queues_settle : (qs : List ℕ) (v : FlowsValue) (w : World) → FlowsStandFor v w → QueuedAreHeld v w →
      ((q : ℕ) → has qs q ≡ true → q < queue_count v) →
      SettlesAll w (queues_emptied cause codel w qs) (Dropped cause)
  unfolding queues_emptied
  queues_settle [] v w st h low = none_settle w w (Dropped cause) refl refl
  queues_settle (q ∷ qs) v w st h low =
      let u : FlowsValue = record v { backlog = after_emptying cause codel v.backlog q } in
      let x : World = queue_emptied cause codel w q in
      let after : FlowsStandFor u x = stands_emptied cause codel v w q st (low q (has_head q qs)) in
      both_settle w x (queues_emptied cause codel x qs) (Dropped cause) (queue_settles v w q st h)
      (queues_settle qs u x after (held_emptied cause codel v w q after h)
      (λ k m. low k (has_tail q qs k m)))

tid_settles : (v : FlowsValue) (w : World) (s t : ℕ) →
    FlowsStandFor v (with_frames_finished w (Dropped Left) (waiting_ids (session w s t).slots)) →
    QueuedAreHeld v (with_frames_finished w (Dropped Left) (waiting_ids (session w s t).slots))
    → s < v.stations → t < 8 → SettlesAll (with_frames_finished w (Dropped Left)
    (waiting_ids (session w s t).slots)) (after_tid_left w s t) (Dropped Left)
unfolding after_tid_left
tid_settles v w s t st h low_s low_t =
    let x : World = with_frames_finished w (Dropped Left) (waiting_ids (session w s t).slots) in
    let i : ℕ = tid_number s t in
    let qs : List ℕ = in_rising_order (in_order (tid_of w s t).queues) in
    let same : x.stations ≡ w.stations = stations_finish_all (waiting_ids (session w s t).slots) w
    (Dropped Left) in
    let own : (tid_of w s t).queues ≡ tid_rotation v i =
    ap (λ (xs : List (Option Station)). (at no_tid (unwrap_or (at None xs s) no_station).tids t).queues)
    (sym same) ∙ st.lists s t low_s low_t in
    let are : qs ≡ queues_of v i = ap (λ (r : Rotation). in_rising_order (in_order r)) own
    ∙ rising_listed (tid_rotation v i) (queue_count v) (st.below i) in
    let low : (q : ℕ) → has qs q ≡ true → q < queue_count v =
    λ q m. omega (
      arith,
      count_below (queue_count v) 0 q
          (has_filter (is_listed v i) (upto (queue_count v)) q (sym (ap (λ (l : List ℕ). has l q) are) ∙ m)),
    ) in
    let end : World = after_queues_left x qs in
    both_settle x end (with_queues end s t no_keys) (Dropped Left)
    (subst (λ (u : World). SettlesAll x u (Dropped Left)) (queues_left qs x)
    (queues_settle Left renewed qs v x st h low))
    (none_settle end (with_queues end s t no_keys) (Dropped Left) (frames_lists end s t no_keys)
    (finished_lists end s t no_keys))

flush_settles : (v : FlowsValue) (w : World) (s t : ℕ) → FlowsStandFor v (waiting_flushed w s t) →
    QueuedAreHeld v (waiting_flushed w s t) → s < v.stations → t < 8 →
    SettlesAll (waiting_flushed w s t) (tid_emptied w s t) (Dropped Flushed)
flush_settles v w s t st h low_s low_t =
    let x : World = waiting_flushed w s t in
    let qs : List ℕ = queues_of v (tid_number s t) in
    subst (λ (l : List ℕ). SettlesAll x (after_queues_flushed x l) (Dropped Flushed))
    (sym (queues_waiting v w s t st low_s low_t))
    (subst (λ (u : World). SettlesAll x u (Dropped Flushed)) (queues_flushed qs x)
    (queues_settle Flushed unchanged qs v x st h (listed_low v (tid_number s t))))

pub settled_left : (v : FlowsValue) (w : World) (s t n : ℕ) →
    FlowsStandFor v (with_frames_finished w (Dropped Left) (waiting_ids (session w s t).slots)) →
    QueuedAreHeld v (with_frames_finished w (Dropped Left) (waiting_ids (session w s t).slots))
    → s < v.stations → t < 8 → n + length (with_frames_finished w (Dropped Left)
    (waiting_ids (session w s t).slots)).finished ≡ length (after_tid_left w s t).finished
    → HaveSettled (with_frames_finished w (Dropped Left) (waiting_ids (session w s t).slots))
    (after_tid_left w s t) (Dropped Left) n
settled_left v w s t n st h low_s low_t count x =
    let all = tid_settles v w s t st h low_s low_t in
    let same : n ≡ all.count = omega (arith, count, all.grown) in
    rw same (all.settled x)

pub settled_flushed : (v : FlowsValue) (w : World) (s t n : ℕ) → FlowsStandFor v (waiting_flushed w s t) →
    QueuedAreHeld v (waiting_flushed w s t) → s < v.stations → t < 8 →
    n + length (waiting_flushed w s t).finished ≡ length (tid_emptied w s t).finished →
    HaveSettled (waiting_flushed w s t) (tid_emptied w s t) (Dropped Flushed) n
settled_flushed v w s t n st h low_s low_t count x =
    let all = flush_settles v w s t st h low_s low_t in
    let same : n ≡ all.count = omega (arith, count, all.grown) in
    rw same (all.settled x)

-- ---- the number of frames that a purge or a flush drops

-- each number below the bound occurs once
on_before : (n from y : ℕ) → y < from → on (count_from from n) y ≡ 0
on_before zero from y low = on-nil y
on_before (suc n) from y low = omega (
  arith,
  on-cons_other from y (count_from (suc from) n)
      (λ e. omega (arith, e, low)),
  on_before n (suc from) y (omega (arith, low)),
)

on_within : (n from y : ℕ) → from ≤ y → y < from + n → on (count_from from n) y ≡ 1
on_within zero from y low high = absurd (omega (arith, low, high))
on_within (suc n) from y low high = elim (cases_eq from y) [
  | inl e ↦ subst (λ (k : ℕ). on (from ∷ count_from (suc from) n) k ≡ 1) e
      (omega (arith, on-cons_same from (count_from (suc from) n), on_before n (suc from) from (omega arith)))
  | inr other ↦ omega (
    arith,
    on-cons_other from y (count_from (suc from) n) other,
    on_within n (suc from) y (omega (arith, low, other)) (omega (arith, high)),
  )
]

emptied_grow : (cause : Cause) (codel : Codel → Codel) (qs : List ℕ) (b : BacklogValue) →
    ((q : ℕ) → on qs q ≤ 1) → ((q : ℕ) → has qs q ≡ true → q < length b.queues) →
    length (all_emptied cause codel b qs).finished ≡ length b.finished + frames_waiting b.queues qs
unfolding all_emptied
emptied_grow cause codel [] b once low = omega arith
emptied_grow cause codel (k ∷ qs) b once low =
    let rest = emptied_grow cause codel qs (after_emptying cause codel b k)
    (λ q. omega (arith, once q, on-first k q qs))
    (λ q m. omega (arith, low q (has_tail k qs q m), length-set b.queues k [])) in
    let none : on qs k ≡ 0 = omega (arith, once k, on-cons_same k qs) in
    let same = rw none at (waiting-set b.queues k [] qs (low k (has_head k qs))) in
    omega (
      arith,
      rest,
      same,
      length-append b.finished (map (frame_with_fate (Dropped cause)) (frames_at b k)),
      length-map (frames_at b k) (frame_with_fate (Dropped cause)),
      sum_by-cons (λ (q : ℕ). length (get_or b.queues q [])) k qs,
    )

module _ (v : FlowsValue) (p : Part) (st : Stands v p) (i : ℕ) where
  low_queue : (q : ℕ) → has (queues_of v i) q ≡ true → q < queue_count v
  low_queue q m = omega (
    arith,
    count_below (queue_count v) 0 q
        (has_filter (is_listed v i) (upto (queue_count v)) q m),
  )

  as_often : (q : ℕ) → on (queues_of v i) q ≡ on (in_order (tid_rotation v i)) q
  as_often q = elim (cases_Bool (is_listed v i q)) [
    | inl listed ↦ omega (
      arith,
      on-filter (is_listed v i) (upto (queue_count v)) q listed,
      on_within (queue_count v) 0 q (omega arith) (omega (arith, st.below i q listed)),
      st.once i q,
      on-listed v i q listed,
    )
    | inr not_listed ↦ omega (
      arith,
      on-filter_out (is_listed v i) (upto (queue_count v)) q not_listed,
      on_order-none (tid_rotation v i) q not_listed,
    )
  ]

  all_grow : (cause : Cause) (codel : Codel → Codel) →
      length (all_emptied cause codel v.backlog (queues_of v i)).finished
      ≡ length v.backlog.finished + frames_of_tid v i
  all_grow cause codel =
      emptied_grow cause codel (queues_of v i) v.backlog (λ q. omega (arith, as_often q, st.once i q))
      (λ q m. omega (arith, low_queue q m, st.sized.queues))
      ∙ ap (λ (n : ℕ). length v.backlog.finished + n)
      (waiting_same v.backlog.queues (queues_of v i) (in_order (tid_rotation v i)) (λ q some. as_often q))

  pub purge_grows : length (after_purge v i).backlog.finished ≡ length v.backlog.finished + frames_of_tid v i
  unfolding after_purge
  purge_grows = all_grow Left renewed

  pub flush_grows : length (after_tid_flush v i).backlog.finished ≡ length v.backlog.finished + frames_of_tid v i
  unfolding after_tid_flush
  flush_grows = all_grow Flushed unchanged
