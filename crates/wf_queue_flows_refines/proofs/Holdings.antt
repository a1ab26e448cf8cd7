-- Proves which frames are queued or finished after a call: only the frame that the call adds or removes
-- changes this.
use Rattle.std.proofs.Common.{◌≡◌, refl, ap, ◌∙◌, arith, ℕ, zero, suc, ◌+◌, ◌==◌, ◌<◌, true, List, [], ◌∷◌, ◌++◌, map, length, set, take, drop, length-set, Option, Some, None}
use Rattle.std.specs.Prelude.{slice_get}
use Rattle.std.proofs.lemmas.Bool.{cond_both}
use Rattle.wf_frame.specs.declared.classes.Cause.{Cause}
use Rattle.wf_frame.specs.declared.classes.Cause.TheVariants.{Overlimit, Codel as By_codel, Left, Flushed}
use Rattle.wf_frame.specs.declared.classes.Fate.{Fate}
use Rattle.wf_frame.specs.declared.classes.Fate.TheVariants.{Dropped}
use Rattle.wf_frame.specs.Frames.{FrameValue}
use Rattle.wf_def_lists.specs.Table.{has, upto}
use Rattle.wf_def_codel.specs.Codel.{Codel, Params, renewed}
use Rattle.wf_def_lists.specs.Lists.{on}
use Rattle.wf_rotation.specs.Rotas.{need_at}
use Rattle.wf_law_rules.proofs.Lemmas.Counts.{on-nil, on-first}
use Rattle.wf_law_rules.proofs.Lemmas.Members.{has_filter, has_head, has_tail}
use Rattle.wf_queue_flows.specs.Backlog.{BacklogValue, frames_at, frame_with_fate, with_calmed, after_head_drop, after_emptying, unchanged, drops_at}
use Rattle.wf_frame.specs.Classes.{tid_number}
use Rattle.wf_queue_flows.specs.Flows.{FlowsValue, queues as queue_count, tid_rotation, is_listed, backlog_has_frames, longest_queue, after_limit, queue_for, with_listed_queue, with_appended, after_put, pick_of_tid, after_pick, taken_from_picked, queues_of, all_emptied, after_purge, after_tid_flush, taken_for_tid as take_out, flows_at_limit}
use Rattle.wf_queue_flows.proofs.Flags.{nothing_dropped}
use Rattle.wf_queue_flows_refines.specs.Standing.{Part, ids, ids_given, times_held, with_finished, Stands}
use Rattle.wf_queue_flows_refines.proofs.Ends.{on_ids-append, times_finished}
use Rattle.wf_queue_flows_refines.proofs.Changes.{times_set}
use Rattle.wf_queue_flows_refines.proofs.Limits.{some_frames}
use Rattle.wf_queue_flows_refines.proofs.Picking.{winner_listed}
use Rattle.wf_queue_flows_refines.proofs.Puts.{queue_below}
use Rattle.wf_queue_flows_refines.proofs.Readers.{count_below}

-- a new fate does not change the id
settled_ids : (fate : Fate) (frames : List FrameValue) → ids (map (frame_with_fate fate) frames) ≡ ids frames
settled_ids fate [] = refl
settled_ids fate (f ∷ fs) = ap (λ (l : List ℕ). f.id ∷ l) (settled_ids fate fs)

-- the first frames of a queue are finished, and these others are left
times_moved : (b : BacklogValue) (q : ℕ) (out left : List FrameValue) (fate : Fate) (id : ℕ) →
    q < length b.queues
    → times_held (record b {
      queues = set b.queues q left;
      finished =
          b.finished ++ map (frame_with_fate fate) out;
    }) id + on (ids (frames_at b q)) id
    ≡ times_held b id + on (ids out) id + on (ids left) id
times_moved b q out left fate id low =
    omega (
      arith,
      times_set b q left id low,
      times_finished (record b { queues = set b.queues q left })
          (map (frame_with_fate fate) out) id,
      ap (λ (l : List ℕ). on l id) (settled_ids fate out),
    )

-- a list splits into the frames before a place, the one at it and those after it
pub split_at : (n : ℕ) (frames : List FrameValue) (id : ℕ) →
    on (ids frames) id ≡ on (ids (take n frames)) id + on (ids_given (slice_get frames n)) id + on
    (ids (drop (suc n) frames)) id
split_at zero [] id = omega (arith, on-nil id)
split_at (suc n) [] id = omega (arith, on-nil id)
split_at zero (f ∷ fs) id = omega (arith, on-nil id, on-first f.id id (ids fs))
split_at (suc n) (f ∷ fs) id = omega (
  arith,
  on-first f.id id (ids fs),
  on-first f.id id (ids (take n fs)),
  split_at n fs id,
)

module _ (cause : Cause) (codel : Codel → Codel) where
  times_emptied_queue : (b : BacklogValue) (q id : ℕ) → q < length b.queues →
      times_held (after_emptying cause codel b q) id ≡ times_held b id
  times_emptied_queue b q id low =
      omega (arith, times_moved b q (frames_at b q) [] (Dropped cause) id low, on-nil id)

  times_emptied : (b : BacklogValue) (id : ℕ) (qs : List ℕ) →
      ((q : ℕ) → has qs q ≡ true → q < length b.queues) →
      times_held (all_emptied cause codel b qs) id ≡ times_held b id
  unfolding all_emptied
  times_emptied b id [] low = refl
  times_emptied b id (q ∷ qs) low =
      times_emptied (after_emptying cause codel b q) id qs (λ k h.
      omega (arith, low k (has_tail q qs k h), length-set b.queues q []))
      ∙ times_emptied_queue b q id (low q (has_head q qs))

-- ---- put

times_dropped : (b : BacklogValue) (q id : ℕ) (frames : List FrameValue) → frames_at b q ≡ frames →
    (0 < length frames → q < length b.queues) → times_held (after_head_drop b q) id ≡ times_held b id
times_dropped b q id [] e low = ap (λ (x : BacklogValue). times_held x id) (nothing_dropped b q e)
times_dropped b q id (f ∷ rest) e low =
    let out : on (ids (take 1 (frames_at b q))) id ≡ on (f.id ∷ []) id =
    ap (λ (l : List FrameValue). on (ids (take 1 l)) id) e in
    let left : on (ids (drop 1 (frames_at b q))) id ≡ on (ids rest) id =
    ap (λ (l : List FrameValue). on (ids (drop 1 l)) id) e in
    let all : on (ids (frames_at b q)) id ≡ on (ids (f ∷ rest)) id =
    ap (λ (l : List FrameValue). on (ids l) id) e in
    omega (
      arith,
      times_moved b q (take 1 (frames_at b q)) (drop 1 (frames_at b q)) (Dropped Overlimit) id
          (low (omega arith)),
      out,
      left,
      all,
      on-first f.id id (ids rest),
    )

module _ (v : FlowsValue) (p : Part) (st : Stands v p) (id : ℕ) where
  times_within : times_held (after_limit v).backlog id ≡ times_held v.backlog id
  unfolding after_limit
  times_within = cond_both (flows_at_limit v) _ v
      (λ (z : FlowsValue). times_held z.backlog id ≡ times_held v.backlog id)
      (λ e. times_dropped v.backlog (longest_queue v.backlog) id
      (frames_at v.backlog (longest_queue v.backlog)) refl
      (λ some. omega (arith, some_frames v p (longest_queue v.backlog) st some, st.sized.queues)))
      (λ e. refl)

  within_queues : length (after_limit v).backlog.queues ≡ length v.backlog.queues
  unfolding after_limit
  within_queues = cond_both (flows_at_limit v) _ v
      (λ (z : FlowsValue). length z.backlog.queues ≡ length v.backlog.queues)
      (λ e. length-set v.backlog.queues (longest_queue v.backlog) _) (λ e. refl)

  within_flows : (after_limit v).flows ≡ v.flows
  unfolding after_limit
  within_flows = cond_both (flows_at_limit v) _ v (λ (z : FlowsValue). z.flows ≡ v.flows) (λ e. refl)
      (λ e. refl)

  within_stations : (after_limit v).stations ≡ v.stations
  unfolding after_limit
  within_stations = cond_both (flows_at_limit v) _ v (λ (z : FlowsValue). z.stations ≡ v.stations) (λ e. refl)
      (λ e. refl)

  times_listed : (z : FlowsValue) (i q : ℕ) → times_held (with_listed_queue z i q).backlog id
      ≡ times_held z.backlog id
  unfolding with_listed_queue
  times_listed z i q = cond_both (is_listed z i q) z _
      (λ (x : FlowsValue). times_held x.backlog id ≡ times_held z.backlog id) (λ e. refl)
      (λ e. cond_both (z.codel_reset == 1) (with_calmed z.backlog q) z.backlog
      (λ (b : BacklogValue). times_held b id ≡ times_held z.backlog id) (λ e. refl) (λ e. refl))

  -- the frame is there again
  pub times_put : (s t : ℕ) (f : FrameValue) → s < v.stations → t < 8 →
      times_held (after_put v (tid_number s t) f).backlog id ≡ times_held v.backlog id + on (f.id ∷ []) id
  unfolding after_put
  times_put s t f low_s low_t =
      let u : FlowsValue = after_limit v in
      let q : ℕ = queue_for u (tid_number s t) f.flow in
      let below : q < queue_count u = queue_below u s t f.flow
      (omega (arith, st.sized.some_flows, within_flows)) (omega (arith, low_s, within_stations)) low_t in
      let low : q < length u.backlog.queues = omega
      (arith, below, within_queues, within_flows, within_stations, st.sized.queues) in
      omega (
        arith,
        times_listed (with_appended u q f) (tid_number s t) q,
        times_set u.backlog q (frames_at u.backlog q ++ f ∷ []) id low,
        on_ids-append (frames_at u.backlog q) (f ∷ []) id,
        times_within,
      )

  -- ---- take

  times_taken : (o : Option ℕ) (i now : ℕ) (params : Params) →
      ((q : ℕ) → o ≡ Some q → q < length v.backlog.queues) →
      times_held (taken_from_picked (after_pick v i) o now params).flows.backlog id + on
      (ids_given (taken_from_picked (after_pick v i) o now params).frame) id ≡ times_held v.backlog id
  unfolding after_pick
  times_taken None i now params low = omega (arith, on-nil id)
  times_taken (Some q) i now params low =
      let n : ℕ = drops_at params now v.backlog q in
      omega (
        arith,
        times_moved v.backlog q (take n (frames_at v.backlog q))
            (drop (suc n) (frames_at v.backlog q)) (Dropped By_codel) id (low q refl),
        split_at n (frames_at v.backlog q) id,
      )

  -- the frame that is taken out is there once less
  pub times_take : (i now : ℕ) (params : Params) →
      times_held (take_out v i now params).flows.backlog id + on
      (ids_given (take_out v i now params).frame) id ≡ times_held v.backlog id
  unfolding take_out
  times_take i now params = times_taken (pick_of_tid v i).winner i now params
      (λ q e. omega (
        arith,
        st.below i q (winner_listed (need_at v.rotas) (backlog_has_frames v.backlog)
            (tid_rotation v i) q e),
        st.sized.queues,
      ))

  -- ---- purge and flush

  low_queues : (i q : ℕ) → has (queues_of v i) q ≡ true → q < length v.backlog.queues
  low_queues i q h = omega (
    arith,
    count_below (queue_count v) 0 q
        (has_filter (is_listed v i) (upto (queue_count v)) q h),
    st.sized.queues,
  )

  pub times_purge : (i : ℕ) → times_held (after_purge v i).backlog id ≡ times_held v.backlog id
  unfolding after_purge
  times_purge i = times_emptied Left renewed v.backlog id (queues_of v i) (low_queues i)

  pub times_flush : (i : ℕ) → times_held (after_tid_flush v i).backlog id ≡ times_held v.backlog id
  unfolding after_tid_flush
  times_flush i = times_emptied Flushed unchanged v.backlog id (queues_of v i) (low_queues i)

-- ---- finish and reap

pub times_finish : (v : FlowsValue) (id : ℕ) (f : FrameValue) →
    times_held (with_finished v (v.backlog.finished ++ f ∷ [])).backlog id
    ≡ times_held v.backlog id + on (f.id ∷ []) id
times_finish v id f = times_finished v.backlog (f ∷ []) id

pub times_reap : (v : FlowsValue) (id : ℕ) (f : FrameValue) (rest : List FrameValue) →
    v.backlog.finished ≡ f ∷ rest → times_held (with_finished v rest).backlog id + on (f.id ∷ []) id
    ≡ times_held v.backlog id
times_reap v id f rest e = omega (
  arith,
  ap (λ (l : List FrameValue). on (ids l) id) e,
  on-first f.id id (ids rest),
)
