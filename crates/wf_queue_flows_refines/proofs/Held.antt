-- Proves that the queued frames stay held through all calls: a call changes the fate only of frames that
-- it finishes.
use Rattle.std.proofs.Common.{◌≡◌, refl, ap, sym, ◌∙◌, subst, arith, ℕ, suc, ◌==◌, ◌<◌, ◌≤◌, true, List, [], ◌∷◌, ◌++◌, length, get_or, set, drop, Option, Some, None, inl, inr}
use Rattle.std.proofs.lemmas.List.{set_past, get_or_past}
use Rattle.std.proofs.lemmas.Bool.{cases_eq, cases_lt, cond_both}
use Rattle.wf_frame.specs.declared.classes.Cause.{Cause}
use Rattle.wf_frame.specs.declared.classes.Cause.TheVariants.{Left, Flushed}
use Rattle.wf_frame.specs.declared.classes.Fate.{Fate}
use Rattle.wf_frame.specs.declared.classes.Fate.TheVariants.{Held, Dropped}
use Rattle.wf_frame.specs.declared.notes.Note.TheVariants.{Enqueue}
use Rattle.wf_frame.specs.Frames.{FrameValue}
use Rattle.wf_def_lists.specs.Table.{at}
use Rattle.wf_def_codel.specs.Codel.{Codel, Params, renewed}
use Rattle.wf_def_lists.specs.Lists.{on}
use Rattle.wf_def_rotation.specs.Rotation.{Rotation}
use Rattle.wf_law_rules.proofs.Lemmas.Counts.{on-nil, on-append, on-cons_same, on-cons_other}
use Rattle.wf_def_world.specs.World.{World, Queue, Frame, no_frame, is_live, session, frame, accepted_count, codel_params, on_queue, with_queues, with_station, on_station, on_tid, with_fate, with_frame_finished, with_frames_finished}
use Rattle.wf_def_world.specs.FlowQueues.{after_limit as world_after_limit, queue_for as world_queue_for, after_put_in as world_put_in, taken_for_tid as world_take}
use Rattle.wf_def_world.specs.Step.{with_frame, next_item, enqueue_outcome, reap_outcome, waiting_ids, after_tid_left}
use Rattle.wf_law_runs.proofs.Deficits.Books.{put_upd, upd_other}
use Rattle.wf_law_runs.proofs.Queues.ShelvedStep.{accepted_put}
use Rattle.wf_queue_flows.specs.Backlog.{BacklogValue, frames_at, with_calmed, after_emptying, unchanged, drops_at}
use Rattle.wf_frame.specs.Classes.{tid_number}
use Rattle.wf_queue_flows.specs.Flows.{FlowsValue, flows_at_limit, is_listed, longest_queue, after_limit, queue_for, with_listed_queue, with_appended, after_put, pick_of_tid, after_pick, taken_from_picked, taken_for_tid, queues_of, all_emptied, after_purge, after_tid_flush}
use Rattle.wf_queue_flows_refines.specs.Standing.{ids, times_held, with_finished, queue_emptied, waiting_flushed, FlowsStandFor, tid_emptied}
use Rattle.wf_queue_flows_refines.specs.Frames.{QueuedAreHeld}
use Rattle.wf_queue_flows_refines.proofs.Parts.{end_is, end_other}
use Rattle.wf_queue_flows_refines.proofs.Changes.{each_set, times_set, times_at}
use Rattle.wf_queue_flows_refines.proofs.Ends.{on_ids-append, stands_finished}
use Rattle.wf_queue_flows_refines.proofs.Holdings.{split_at}
use Rattle.wf_queue_flows_refines.proofs.Limits.{beside_limit}
use Rattle.wf_queue_flows_refines.proofs.Puts.{stands_put}
use Rattle.wf_queue_flows_refines.proofs.Takes.{stands_take}
use Rattle.wf_queue_flows_refines.proofs.Purges.{stands_left}
use Rattle.wf_queue_flows_refines.proofs.Flushes.{stands_tid_flushed}
use Rattle.wf_queue_flows_refines.proofs.Through.{through_put_in, through_limit, through_take, through_emptied_queue, through_purge, through_flush}

-- ---- the frames that a call finishes

-- the finished list only grows, and a frame that is not on it keeps its fate
pub record Finishes (w u : World) : Type 0 where
  pub more : (id : ℕ) → on w.finished id ≤ on u.finished id
  pub fates : (id : ℕ) → on u.finished id ≡ 0 → (frame u id).fate ≡ (frame w id).fate

nothing : (w : World) → Finishes w w
nothing w = record { more = λ id. omega arith; fates = λ id none. refl }

both : (u v w : World) → Finishes u v → Finishes v w → Finishes u w
both u v w a b = record {
  more = λ id. omega (arith, a.more id, b.more id);
  fates =
      λ id none. b.fates id none ∙ a.fates id (omega (arith, none, b.more id));
}

at_queue : (w : World) (q : ℕ) (f : Queue → Queue) → Finishes w (on_queue w q f)
unfolding on_queue
at_queue w q f = record { more = λ id. omega arith; fates = λ id none. refl }

at_lists : (w : World) (s t : ℕ) (r : Rotation) → Finishes w (with_queues w s t r)
unfolding with_queues on_tid on_station with_station
at_lists w s t r = record { more = λ id. omega arith; fates = λ id none. refl }

at_finish : (w : World) (fate : Fate) (k : ℕ) → Finishes w (with_frame_finished w fate k)
unfolding with_frame_finished with_fate
at_finish w fate k = record {
  more = λ id. omega (arith, on-append w.finished (k ∷ []) id);
  fates = λ id none.
      let other : id ≡ k → ⊥ = λ e. omega (
        arith,
        none,
        on-append w.finished (k ∷ []) id,
        ap (on (k ∷ [])) e,
        on-cons_same k [],
      ) in
      ap (λ (f : ℕ → Fate). f id) (put_upd (λ (x : Frame). x.fate) no_frame w.frames k _)
      ∙ upd_other (λ i. (frame w i).fate) k id fate other;
}

-- a purge, after the waiting frames of the session are finished
pub finishes_purge : (w : World) (s t : ℕ) → Finishes
    (with_frames_finished w (Dropped Left) (waiting_ids (session w s t).slots)) (after_tid_left w s t)
finishes_purge = through_purge Finishes nothing both at_queue at_lists at_finish

-- a flush, after the numbers of the session that wait have failed
finishes_flush : (w : World) (s t : ℕ) → Finishes (waiting_flushed w s t) (tid_emptied w s t)
finishes_flush = through_flush Finishes nothing both at_queue at_lists at_finish

-- ---- the frames that leave the queues

-- one queue has a frame no more often than before
fewer_set : (all : List (List FrameValue)) (q : ℕ) (frames : List FrameValue) (id : ℕ) →
    on (ids frames) id ≤ on (ids (get_or all q [])) id → (k : ℕ) →
    on (ids (get_or (set all q frames) k [])) id ≤ on (ids (get_or all k [])) id
fewer_set all q frames id less = elim (cases_lt q (length all)) [
  | inl low ↦ each_set (λ (k : ℕ) (l : List FrameValue). on (ids l) id ≤ on (ids (get_or all k [])) id) all []
      q frames low (λ k. omega arith) less
  | inr past ↦ λ k. subst (λ (ls : List (List FrameValue)). on (ids (get_or ls k [])) id
      ≤ on (ids (get_or all k [])) id) (sym (set_past all q frames past)) (omega arith)
]

fewer_drop : (n : ℕ) (frames : List FrameValue) (id : ℕ) →
    on (ids (drop (suc n) frames)) id ≤ on (ids frames) id
fewer_drop n frames id = omega (arith, split_at n frames id)

-- no queue of the second backlog has a frame more often than in the first
abbrev HasFewer : BacklogValue → BacklogValue → Type 0
HasFewer b c = (q id : ℕ) → on (ids (frames_at c q)) id ≤ on (ids (frames_at b q)) id

fewer_within : (v : FlowsValue) → HasFewer v.backlog (after_limit v).backlog
unfolding after_limit
fewer_within v = cond_both (flows_at_limit v) _ v (λ (z : FlowsValue). HasFewer v.backlog z.backlog)
    (λ e q id. fewer_set v.backlog.queues (longest_queue v.backlog)
    (drop 1 (frames_at v.backlog (longest_queue v.backlog))) id
    (fewer_drop 0 (frames_at v.backlog (longest_queue v.backlog)) id) q) (λ e q id. omega arith)

fewer_taken : (v : FlowsValue) (o : Option ℕ) (now : ℕ) (params : Params) →
    HasFewer v.backlog (taken_from_picked v o now params).flows.backlog
fewer_taken v None now params = λ q id. omega arith
fewer_taken v (Some k) now params = λ q id.
    fewer_set v.backlog.queues k (drop (suc (drops_at params now v.backlog k)) (frames_at v.backlog k)) id
    (fewer_drop (drops_at params now v.backlog k) (frames_at v.backlog k) id) q

fewer_take : (v : FlowsValue) (i now : ℕ) (params : Params) →
    HasFewer v.backlog (taken_for_tid v i now params).flows.backlog
unfolding taken_for_tid after_pick
fewer_take v i now params = fewer_taken (after_pick v i) (pick_of_tid v i).winner now params

module _ (cause : Cause) (codel : Codel → Codel) where
  fewer_emptied_queue : (b : BacklogValue) (k : ℕ) → HasFewer b (after_emptying cause codel b k)
  fewer_emptied_queue b k q id = fewer_set b.queues k [] id (omega (arith, on-nil id)) q

  fewer_emptied : (qs : List ℕ) (b : BacklogValue) → HasFewer b (all_emptied cause codel b qs)
  unfolding all_emptied
  fewer_emptied [] b = λ q id. omega arith
  fewer_emptied (k ∷ qs) b = λ q id. omega (
    arith,
    fewer_emptied qs (after_emptying cause codel b k) q id,
    fewer_emptied_queue b k q id,
  )

fewer_purge : (v : FlowsValue) (i : ℕ) → HasFewer v.backlog (after_purge v i).backlog
unfolding after_purge
fewer_purge v i = fewer_emptied Left renewed (queues_of v i) v.backlog

fewer_flush : (v : FlowsValue) (i : ℕ) → HasFewer v.backlog (after_tid_flush v i).backlog
unfolding after_tid_flush
fewer_flush v i = fewer_emptied Flushed unchanged (queues_of v i) v.backlog

listed_same : (v : FlowsValue) (i q : ℕ) → (with_listed_queue v i q).backlog.queues ≡ v.backlog.queues
unfolding with_listed_queue
listed_same v i q = cond_both (is_listed v i q) v _
    (λ (z : FlowsValue). z.backlog.queues ≡ v.backlog.queues) (λ e. refl)
    (λ e. cond_both (v.codel_reset == 1) (with_calmed v.backlog q) v.backlog
    (λ (b : BacklogValue). b.queues ≡ v.backlog.queues) (λ e. refl) (λ e. refl))

-- a put adds no frame except its own
fewer_put : (v : FlowsValue) (i : ℕ) (f : FrameValue) (q id : ℕ) → (f.id ≡ id → ⊥) →
    on (ids (frames_at (after_put v i f).backlog q)) id ≤ on (ids (frames_at v.backlog q)) id
unfolding after_put
fewer_put v i f q id other =
    let u : FlowsValue = after_limit v in
    let k : ℕ = queue_for u i f.flow in
    let frames : List FrameValue = frames_at u.backlog k ++ f ∷ [] in
    let as_many : on (ids frames) id ≤ on (ids (frames_at u.backlog k)) id =
    omega (
      arith,
      on_ids-append (frames_at u.backlog k) (f ∷ []) id,
      on-cons_other f.id id [] other,
      on-nil id,
    ) in
    omega (
      arith,
      ap (λ (all : List (List FrameValue)). on (ids (get_or all q [])) id)
          (listed_same (with_appended u k f) i k),
      fewer_set u.backlog.queues k frames id as_many q,
      fewer_within v q id,
    )

-- ---- the calls

-- a queued frame is in a queue below the number of queues
pub queued_low : (v : FlowsValue) (q id : ℕ) → 0 < on (ids (frames_at v.backlog q)) id →
    q < length v.backlog.queues
queued_low v q id some = elim (cases_lt q (length v.backlog.queues)) [
  | inl low ↦ low
  | inr past ↦ absurd (omega (
    arith,
    some,
    ap (λ (l : List FrameValue). on (ids l) id)
        (get_or_past v.backlog.queues q [] past),
    on-nil id,
  ))
]

pub queued_known : (v : FlowsValue) (w : World) (q id : ℕ) → FlowsStandFor v w →
    0 < on (ids (frames_at v.backlog q)) id → id < accepted_count w
queued_known v w q id st some = st.accepted id
    (omega (arith, some, times_at v.backlog q id (queued_low v q id some)))

-- a queued frame is not finished
queued_only : (v : FlowsValue) (w : World) (q id : ℕ) → FlowsStandFor v w →
    0 < on (ids (frames_at v.backlog q)) id → on w.finished id ≡ 0
queued_only v w q id st some = omega (
  arith,
  some,
  times_set v.backlog q [] id (queued_low v q id some),
  on-nil id,
  st.held_once id,
  ap (λ (l : List ℕ). on l id) st.finished,
)

still_held : (v u : FlowsValue) (w x : World) → FlowsStandFor u x → QueuedAreHeld v w → Finishes w x →
    HasFewer v.backlog u.backlog → QueuedAreHeld u x
still_held v u w x st h fin fewer q id some =
    fin.fates id (queued_only u x q id st some) ∙ h q id (omega (arith, some, fewer q id))

pub held_take : (v : FlowsValue) (w : World) (s t : ℕ) → FlowsStandFor v w → QueuedAreHeld v w →
    is_live w s ≡ true → s < w.config.stations → t < 8
    → QueuedAreHeld (taken_for_tid v (tid_number s t) w.clock (codel_params w s)).flows
    (world_take w s t).world
held_take v w s t st h live high low =
    still_held v (taken_for_tid v (tid_number s t) w.clock (codel_params w s)).flows w
    (world_take w s t).world (stands_take v w s t st live high low) h
    (through_take Finishes nothing both at_queue at_lists at_finish w s t)
    (fewer_take v (tid_number s t) w.clock (codel_params w s))

pub held_left : (v : FlowsValue) (w : World) (s t : ℕ) →
    FlowsStandFor v (with_frames_finished w (Dropped Left) (waiting_ids (session w s t).slots)) →
    QueuedAreHeld v (with_frames_finished w (Dropped Left) (waiting_ids (session w s t).slots))
    → is_live w s ≡ true → s < w.config.stations → t < 8 →
    QueuedAreHeld (after_purge v (tid_number s t)) (after_tid_left w s t)
held_left v w s t st h live high low =
    still_held v (after_purge v (tid_number s t))
    (with_frames_finished w (Dropped Left) (waiting_ids (session w s t).slots)) (after_tid_left w s t)
    (stands_left v w s t st live high low) h
    (finishes_purge w s t) (fewer_purge v (tid_number s t))

pub held_flushed : (v : FlowsValue) (w : World) (s t : ℕ) → FlowsStandFor v (waiting_flushed w s t) →
    QueuedAreHeld v (waiting_flushed w s t) → s < w.config.stations → t < 8 →
    QueuedAreHeld (after_tid_flush v (tid_number s t)) (tid_emptied w s t)
held_flushed v w s t st h high low =
    still_held v (after_tid_flush v (tid_number s t)) (waiting_flushed w s t) (tid_emptied w s t)
    (stands_tid_flushed v w s t st high low) h (finishes_flush w s t) (fewer_flush v (tid_number s t))

pub held_finish : (v : FlowsValue) (w : World) (f : FrameValue) → FlowsStandFor v w → QueuedAreHeld v w →
    f.id < accepted_count w → times_held v.backlog f.id ≡ 0 →
    QueuedAreHeld (with_finished v (v.backlog.finished ++ f ∷ [])) (with_frame_finished w f.fate f.id)
held_finish v w f st h low none =
    still_held v (with_finished v (v.backlog.finished ++ f ∷ [])) w (with_frame_finished w f.fate f.id)
    (stands_finished v w f st low none) h (at_finish w f.fate f.id) (λ q id. omega arith)

reaped_fate : (w : World) (l : List ℕ) (id : ℕ) → (frame (reap_outcome w l).world id).fate ≡ (frame w id).fate
unfolding reap_outcome
reaped_fate w [] id = refl
reaped_fate w (k ∷ l) id = refl

pub held_reap : (v : FlowsValue) (w : World) (behind : List FrameValue) → QueuedAreHeld v w →
    QueuedAreHeld (with_finished v behind) (reap_outcome w w.finished).world
held_reap v w behind h q id some = reaped_fate w w.finished id ∙ h q id some

pub held_put : (v : FlowsValue) (w : World) (s t : ℕ) (f : FrameValue) → FlowsStandFor v w →
    QueuedAreHeld v w → is_live w s ≡ true → s < w.config.stations → t < 8 → f.id ≡ accepted_count w →
    f.stamp ≡ w.clock
    → QueuedAreHeld (after_put v (tid_number s t) f) (enqueue_outcome w s t f.flow (length f.body)).world
unfolding enqueue_outcome with_frame
held_put v w s t f st h live high low next now q id some =
    let u : World = world_after_limit w in
    let b : World = world_put_in u s t (world_queue_for u s t f.flow) (next_item w (length f.body)) in
    let x : Frame = record { note = Enqueue s t f.flow (length f.body); fate = Held } in
    let as_many : accepted_count b ≡ f.id = accepted_put u s t (world_queue_for u s t f.flow)
    (next_item w (length f.body)) ∙ (beside_limit v w st).accepted ∙ sym next in
    elim (cases_eq id f.id) [
      | inl e ↦ ap (λ (k : ℕ). (at no_frame (b.frames ++ x ∷ []) k).fate) (e ∙ sym as_many)
          ∙ ap (λ (z : Frame). z.fate) (end_is b.frames x)
      | inr other ↦
          let fin : Finishes w b = both w u b (through_limit Finishes nothing both at_queue at_lists at_finish
          w) (through_put_in Finishes nothing both at_queue at_lists u s t (world_queue_for u s t f.flow)
          (next_item w (length f.body))) in
          let none : on b.finished id ≡ 0 = queued_only (after_put v (tid_number s t) f)
          (enqueue_outcome w s t f.flow (length f.body)).world q id
          (stands_put v w s t f st live high low next now) some in
          ap (λ (z : Frame). z.fate) (end_other b.frames x id (λ e. other (e ∙ as_many))) ∙ fin.fates id none
          ∙ h q id (omega (arith, some, fewer_put v (tid_number s t) f q id (λ e. other (sym e))))
    ]

-- one queue of a TID that is purged or flushed
pub held_emptied : (cause : Cause) (codel : Codel → Codel) (v : FlowsValue) (w : World) (q : ℕ) →
    FlowsStandFor (record v { backlog = after_emptying cause codel v.backlog q })
    (queue_emptied cause codel w q) →
    QueuedAreHeld v w → QueuedAreHeld (record v { backlog = after_emptying cause codel v.backlog q })
    (queue_emptied cause codel w q)
held_emptied cause codel v w q st h =
    still_held v (record v { backlog = after_emptying cause codel v.backlog q }) w
    (queue_emptied cause codel w q) st h
    (through_emptied_queue Finishes nothing both at_queue at_lists at_finish cause codel w q)
    (fewer_emptied_queue cause codel v.backlog q)
