-- Proves that a property of each frame of the flow queues holds after every call: each call only moves
-- frames.
use Rattle.std.proofs.Common.{◌≡◌, sym, subst, ℕ, zero, suc, ◌==◌, List, [], ◌∷◌, ◌++◌, map, length, get_or, set, take, drop, Option, Some, None, inl, inr}
use Rattle.std.specs.Prelude.{All, IfSome, slice_get}
use Rattle.std.proofs.lemmas.List.{set_past}
use Rattle.std.proofs.lemmas.List.Elements.{All-append, All-drop, All-head, All-map, All-push, All-tail, All-take, All-weaker, All-nil}
use Rattle.std.proofs.lemmas.Bool.{cases_lt, cond_both}
use Rattle.wf_frame.specs.Frames.{FrameValue}
use Rattle.wf_frame.specs.declared.classes.Cause.{Cause}
use Rattle.wf_frame.specs.declared.classes.Cause.TheVariants.{Overlimit, Codel as By_codel, Left, Flushed}
use Rattle.wf_frame.specs.declared.classes.Fate.TheVariants.{Dropped}
use Rattle.wf_def_codel.specs.Codel.{Codel, Params, renewed}
use Rattle.wf_queue_flows.specs.Backlog.{BacklogValue, frames_at, frame_with_fate, with_calmed, codel_at, after_head_drop, after_emptying, unchanged, dequeue_at, drops_at}
use Rattle.wf_queue_flows.specs.Flows.{FlowsValue, flows_at_limit, is_listed, longest_queue, after_limit, queue_for, with_listed_queue, with_appended, after_put, pick_of_tid, after_pick, taken_from_picked, taken_for_tid, queues_of, all_emptied, after_purge, after_tid_flush}
use Rattle.wf_queue_flows_refines.specs.Standing.{with_finished}
use Rattle.wf_queue_flows_refines.specs.Frames.{HasEach, DropsTo}
use Rattle.wf_queue_flows_refines.proofs.Changes.{each_set}

-- one queue gets other frames; a write past the last queue changes nothing
each_line : (P : FrameValue → Type 0) (all : List (List FrameValue)) (q : ℕ) (frames : List FrameValue) →
    ((k : ℕ) → All P (get_or all k [])) → All P frames → (k : ℕ) → All P (get_or (set all q frames) k [])
each_line P all q frames each here = elim (cases_lt q (length all)) [
  | inl low ↦ each_set (λ (k : ℕ) (l : List FrameValue). All P l) all [] q frames low each here
  | inr past ↦ λ k. subst (λ (ls : List (List FrameValue)). All P (get_or ls k []))
      (sym (set_past all q frames past)) (each k)
]

module _ (P R : FrameValue → Type 0) (drops : DropsTo P R) where
  -- some frames of a queue are finished, and some are left
  each_moved : (b : BacklogValue) (q : ℕ) (out left : List FrameValue) (codels : List Codel) (cause : Cause) →
      HasEach P R b → All P out → All P left
      → HasEach P R (record b {
        queues = set b.queues q left;
        codels = codels;
        finished =
            b.finished ++ map (frame_with_fate (Dropped cause)) out;
      })
  each_moved b q out left codels cause h go stay = record {
    queued = each_line P b.queues q left h.queued stay;
    finished = All-append R b.finished (map (frame_with_fate (Dropped cause)) out) h.finished
        (All-map R (frame_with_fate (Dropped cause)) out
        (All-weaker P (λ f. R (frame_with_fate (Dropped cause) f)) (λ f has. drops f cause has) out go));
  }

  -- ---- put

  each_dropped : (b : BacklogValue) (q : ℕ) → HasEach P R b → HasEach P R (after_head_drop b q)
  each_dropped b q h = each_moved b q (take 1 (frames_at b q)) (drop 1 (frames_at b q)) b.codels Overlimit h
      (All-take P 1 (frames_at b q) (h.queued q)) (All-drop P 1 (frames_at b q) (h.queued q))

  each_within : (v : FlowsValue) → HasEach P R v.backlog → HasEach P R (after_limit v).backlog
  unfolding after_limit
  each_within v h = cond_both (flows_at_limit v) _ v (λ (z : FlowsValue). HasEach P R z.backlog)
      (λ e. each_dropped v.backlog (longest_queue v.backlog) h) (λ e. h)

  each_listed : (v : FlowsValue) (i q : ℕ) → HasEach P R v.backlog →
      HasEach P R (with_listed_queue v i q).backlog
  unfolding with_listed_queue
  each_listed v i q h = cond_both (is_listed v i q) v _ (λ (z : FlowsValue). HasEach P R z.backlog) (λ e. h)
      (λ e. cond_both (v.codel_reset == 1) (with_calmed v.backlog q) v.backlog (HasEach P R)
      (λ e. record { queued = h.queued; finished = h.finished }) (λ e. h))

  pub each_put : (v : FlowsValue) (i : ℕ) (f : FrameValue) → HasEach P R v.backlog → P f →
      HasEach P R (after_put v i f).backlog
  unfolding after_put
  each_put v i f h has =
      let u : FlowsValue = after_limit v in
      let q : ℕ = queue_for u i f.flow in
      let w : HasEach P R u.backlog = each_within v h in
      each_listed (with_appended u q f) i q
      (record {
        queued = each_line P u.backlog.queues q (frames_at u.backlog q ++ f ∷ []) w.queued
            (All-push P (frames_at u.backlog q) f (w.queued q) has);
        finished = w.finished;
      })

  -- ---- take

  given_has : (frames : List FrameValue) (n : ℕ) → All P frames → IfSome (slice_get frames n) P
  given_has [] n h = tt
  given_has (f ∷ fs) zero h = All-head P f fs h
  given_has (f ∷ fs) (suc n) h = given_has fs n (All-tail P f fs h)

  each_taken : (v : FlowsValue) (o : Option ℕ) (now : ℕ) (params : Params) → HasEach P R v.backlog →
      HasEach P R (taken_from_picked v o now params).flows.backlog ×
      IfSome (taken_from_picked v o now params).frame P
  each_taken v None now params h = (h, tt)
  each_taken v (Some q) now params h =
      let frames : List FrameValue = frames_at v.backlog q in
      let n : ℕ = drops_at params now v.backlog q in (
        each_moved v.backlog q (take n frames) (drop (suc n) frames)
            (set v.backlog.codels q (dequeue_at params now v.backlog q).state) By_codel h
            (All-take P n frames (h.queued q)) (All-drop P (suc n) frames (h.queued q)),
        given_has frames n (h.queued q),
      )

  pub each_take : (v : FlowsValue) (i now : ℕ) (params : Params) → HasEach P R v.backlog →
      HasEach P R (taken_for_tid v i now params).flows.backlog × IfSome (taken_for_tid v i now params).frame P
  unfolding taken_for_tid after_pick
  each_take v i now params h = each_taken (after_pick v i) (pick_of_tid v i).winner now params
      (record { queued = h.queued; finished = h.finished })

  -- ---- purge and flush

  each_emptied : (cause : Cause) (codel : Codel → Codel) (qs : List ℕ) (b : BacklogValue) →
      HasEach P R b → HasEach P R (all_emptied cause codel b qs)
  unfolding all_emptied
  each_emptied cause codel [] b h = h
  each_emptied cause codel (q ∷ qs) b h = each_emptied cause codel qs (after_emptying cause codel b q)
      (each_moved b q (frames_at b q) [] (set b.codels q (codel (codel_at b q))) cause h (h.queued q)
      (All-nil P))

  pub each_purge : (v : FlowsValue) (i : ℕ) → HasEach P R v.backlog → HasEach P R (after_purge v i).backlog
  unfolding after_purge
  each_purge v i h = each_emptied Left renewed (queues_of v i) v.backlog h

  pub each_flush : (v : FlowsValue) (i : ℕ) → HasEach P R v.backlog → HasEach P R (after_tid_flush v i).backlog
  unfolding after_tid_flush
  each_flush v i h = each_emptied Flushed unchanged (queues_of v i) v.backlog h

-- ---- finish and reap

pub each_finish : (P R : FrameValue → Type 0) (v : FlowsValue) (f : FrameValue) → HasEach P R v.backlog →
    R f → HasEach P R (with_finished v (v.backlog.finished ++ f ∷ [])).backlog
each_finish P R v f h has = record {
  queued = h.queued;
  finished =
      All-push R v.backlog.finished f h.finished has;
}

pub each_reap : (P R : FrameValue → Type 0) (v : FlowsValue) (f : FrameValue) (behind : List FrameValue) →
    HasEach P R v.backlog → v.backlog.finished ≡ f ∷ behind → HasEach P R (with_finished v behind).backlog ×
    R f
each_reap P R v f behind h e =
    let all : All R (f ∷ behind) = subst (All R) e h.finished in
    (record { queued = h.queued; finished = All-tail R f behind all }, All-head R f behind all)
