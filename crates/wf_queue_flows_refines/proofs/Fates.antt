-- Proves how each call of the flow queues changes the number of frames of each fate.
use Rattle.std.proofs.Common.{◌≡◌, refl, ap, sym, ◌∙◌, subst, arith, ℕ, ◌+◌, ◌<◌, ◌≤◌, true, if◌then◌else◌, List, [], ◌∷◌, map, take, length, length-append, Option, Some, None, inl, inr}
use Rattle.std.proofs.lemmas.Bool.{cases_lt, cond_both}
use Rattle.std.proofs.lemmas.List.Sums.{sum_by-append}
use Rattle.wf_frame.specs.declared.classes.Cause.TheVariants.{Overlimit, Codel as By_codel}
use Rattle.wf_frame.specs.declared.classes.Fate.{Fate}
use Rattle.wf_frame.specs.declared.classes.Fate.TheVariants.{Held, Dropped}
use Rattle.wf_frame.specs.declared.notes.Note.TheVariants.{Enqueue}
use Rattle.wf_def_lists.specs.Table.{at}
use Rattle.wf_def_codel.specs.Codel.{Item, Dequeued, dequeue}
use Rattle.wf_def_lists.specs.Lists.{on}
use Rattle.wf_def_rotation.specs.Rotation.{Rotation, in_order}
use Rattle.wf_law_rules.proofs.Lemmas.Counts.{on-first, on-cons_same}
use Rattle.wf_law_rules.proofs.Lemmas.Sums.{sum_put_within}
use Rattle.wf_def_world.specs.World.{World, Queue, Frame, no_frame, is_live, queue, tid_of, frame, accepted_count, codel_params, on_queue, with_queues, with_station, on_station, on_tid, with_fate, with_frame_finished, with_frames_finished}
use Rattle.wf_def_world.specs.FlowQueues.{is_at_limit, longest_queue, without_head, after_limit, queue_for, after_put_in, with_queues_paid, picked_queue, after_dequeue, taken_by_codel, taken_from_picked, taken_for_tid}
use Rattle.wf_def_world.specs.Step.{with_frame, next_item, enqueue_outcome}
use Rattle.wf_def_world.specs.Text.{same_fate, tally}
use Rattle.wf_law_runs.proofs.Deficits.Books.{upd_other}
use Rattle.wf_queue_flows.specs.Backlog.{frames_at, item_of}
use Rattle.wf_frame.specs.Classes.{tid_number}
use Rattle.wf_queue_flows.specs.Flows.{FlowsValue, SettingsValue, after_pick}
use Rattle.wf_queue_flows_refines.specs.Standing.{Part, flows_part, ids, FlowsStandFor}
use Rattle.wf_queue_flows_refines.specs.Frames.{counts_as, HaveSettled, AreHeld, QueuedAreHeld}
use Rattle.wf_queue_flows_refines.proofs.Parts.{part_finish}
use Rattle.wf_queue_flows_refines.proofs.Changes.{times_at}
use Rattle.wf_queue_flows_refines.proofs.Ends.{accepted_finish}
use Rattle.wf_queue_flows_refines.proofs.Held.{queued_low, queued_known}
use Rattle.wf_queue_flows_refines.proofs.Purges.{item_ids}
use Rattle.wf_queue_flows_refines.proofs.Holdings.{split_at}
use Rattle.wf_queue_flows_refines.proofs.Takes.{after_world, stands_after, IsCut, cut_dequeue}
use Rattle.wf_queue_flows_refines.proofs.Through.{stays_paid, stays_put_in}

-- ---- finishing

pub settled_one : (w : World) (fate : Fate) (id : ℕ) → id < accepted_count w → (frame w id).fate ≡ Held →
    HaveSettled w (with_frame_finished w fate id) fate 1
unfolding with_frame_finished with_fate
settled_one w fate id low held x =
    let sums = sum_put_within (λ (f : Frame). if same_fate f.fate x then 1 else 0) no_frame w.frames id
    (record (frame w id) { fate = fate }) low in
    let was : counts_as (frame w id).fate x ≡ counts_as Held x = ap (λ (z : Fate). counts_as z x) held in
    omega (arith, sums, was)

pub settled_all : (l : List ℕ) (w : World) (fate : Fate) → AreHeld w l →
    HaveSettled w (with_frames_finished w fate l) fate (length l)
unfolding with_frames_finished
settled_all [] w fate h x = omega arith
settled_all (id ∷ l) w fate h x =
    let here : 0 < on (id ∷ l) id = omega (arith, on-cons_same id l) in
    let low : id < accepted_count w = h.accepted id here in
    let u : World = with_frame_finished w fate id in
    let later : (k : ℕ) → 0 < on l k → 0 < on (id ∷ l) k = λ k some. omega (arith, some, on-first id k l) in
    let other : (k : ℕ) → 0 < on l k → k ≡ id → ⊥ =
    λ k some e. omega (arith, some, ap (on l) e, h.once id, on-cons_same id l) in
    let rest : AreHeld u l = record {
      accepted = λ k some. omega (arith, h.accepted k (later k some), accepted_finish w fate id low);
      held = λ k some. ap (λ (p : Part). p.fates k) (part_finish w fate id low)
          ∙ upd_other (flows_part w).fates id k fate (other k some) ∙ h.held k (later k some);
      once = λ k. omega (arith, h.once k, on-first id k l);
    } in
    omega (arith, settled_one w fate id low (h.held id here) x, settled_all l u fate rest x)

pub finished_all : (l : List ℕ) (w : World) (fate : Fate) →
    length (with_frames_finished w fate l).finished ≡ length w.finished + length l
unfolding with_frames_finished with_frame_finished with_fate
finished_all [] w fate = omega arith
finished_all (id ∷ l) w fate = omega (
  arith,
  finished_all l (with_frame_finished w fate id) fate,
  length-append w.finished (id ∷ []),
)

-- ---- put

settled_head : (v : FlowsValue) (w : World) (q n : ℕ) (items : List Item) → FlowsStandFor v w →
    QueuedAreHeld v w → (queue w q).items ≡ items →
    n + length w.finished ≡ length (without_head w q items).finished →
    HaveSettled w (without_head w q items) (Dropped Overlimit) n
unfolding without_head on_queue with_frame_finished with_fate
settled_head v w q n [] st h is count x = let none : n ≡ 0 = omega (arith, count) in rw none (omega arith)
settled_head v w q n (y ∷ left) st h is count x =
    let queued : ids (frames_at v.backlog q) ≡ map (λ (z : Item). z.id) (y ∷ left) =
    sym (ap (map (λ (z : Item). z.id)) (st.items q) ∙ item_ids (frames_at v.backlog q))
    ∙ ap (map (λ (z : Item). z.id)) is in
    let some : 0 < on (ids (frames_at v.backlog q)) y.id =
    omega (
      arith,
      ap (λ (l : List ℕ). on l y.id) queued,
      on-cons_same y.id (map (λ (z : Item). z.id) left),
    ) in
    let one : n ≡ 1 = omega (arith, count, length-append w.finished (y.id ∷ [])) in
    rw one (settled_one (on_queue w q (λ z. record z { items = left })) (Dropped Overlimit) y.id
    (queued_known v w q y.id st some) (h q y.id some) x)

pub settled_limit : (v : FlowsValue) (w : World) (n : ℕ) → FlowsStandFor v w → QueuedAreHeld v w →
    n + length w.finished ≡ length (after_limit w).finished →
    HaveSettled w (after_limit w) (Dropped Overlimit) n
unfolding after_limit
settled_limit v w n st h = cond_both (is_at_limit w) _ w
    (λ (u : World). n + length w.finished ≡ length u.finished → HaveSettled w u (Dropped Overlimit) n)
    (λ e. settled_head v w (longest_queue w) n (queue w (longest_queue w)).items st h refl)
    (λ e count x. (let none : n ≡ 0 = omega (arith, count) in rw none (omega arith)))

pub frames_queue : (w : World) (q : ℕ) (f : Queue → Queue) → (on_queue w q f).frames ≡ w.frames
unfolding on_queue
frames_queue w q f = refl

pub finished_queue : (w : World) (q : ℕ) (f : Queue → Queue) → (on_queue w q f).finished ≡ w.finished
unfolding on_queue
finished_queue w q f = refl

pub frames_lists : (w : World) (s t : ℕ) (r : Rotation) → (with_queues w s t r).frames ≡ w.frames
unfolding with_queues on_tid on_station with_station
frames_lists w s t r = refl

pub finished_lists : (w : World) (s t : ℕ) (r : Rotation) → (with_queues w s t r).finished ≡ w.finished
unfolding with_queues on_tid on_station with_station
finished_lists w s t r = refl

pub tally_same : (w u : World) (x : Fate) → u.frames ≡ w.frames → tally u x ≡ tally w x
tally_same w u x e = ap (λ (fs : List Frame). tally (record w { frames = fs }) x) e

pub counted_put : (w : World) (s t flow len : ℕ) (x : Fate) →
    tally (enqueue_outcome w s t flow len).world x ≡ tally (after_limit w) x + counts_as Held x
unfolding enqueue_outcome with_frame
counted_put w s t flow len x =
    let u : World = after_limit w in
    let b : World = after_put_in u s t (queue_for u s t flow) (next_item w len) in
    let same : tally b x ≡ tally u x = tally_same u b x
    (stays_put_in (λ (z : World). z.frames) frames_queue frames_lists u s t (queue_for u s t flow)
    (next_item w len)) in
    omega (
      arith,
      same,
      sum_by-append (λ (f : Frame). if same_fate f.fate x then 1 else 0) b.frames
          (record { note = Enqueue s t flow len; fate = Held } ∷ []),
    )

-- ---- take

settled_dequeued : (u : World) (s n : ℕ) (o : Option ℕ) →
    ((q : ℕ) → o ≡ Some q → AreHeld u (map (λ y. y.id)
    (dequeue (codel_params u s) u.clock (queue u q).codel (queue u q).items).dropped))
    → n + length u.finished ≡ length (taken_from_picked u s o).world.finished →
    HaveSettled u (taken_from_picked u s o).world (Dropped By_codel) n
unfolding taken_from_picked taken_by_codel on_queue
settled_dequeued u s n None held count x = let none : n ≡ 0 = omega (arith, count) in rw none (omega arith)
settled_dequeued u s n (Some q) held count x =
    let d : Dequeued = dequeue (codel_params u s) u.clock (queue u q).codel (queue u q).items in
    let out : List ℕ = map (λ y. y.id) d.dropped in
    let after : World = on_queue u q (after_dequeue d) in
    let many : n ≡ length out = omega (arith, count, finished_all out after (Dropped By_codel)) in
    rw many (settled_all out after (Dropped By_codel)
    (record { accepted = (held q refl).accepted; held = (held q refl).held; once = (held q refl).once })
    x)

-- the first frames of a queue
pub first_held : (v : FlowsValue) (w : World) (q n : ℕ) → FlowsStandFor v w → QueuedAreHeld v w →
    AreHeld w (ids (take n (frames_at v.backlog q)))
first_held v w q n st h = record {
  accepted = λ id some. queued_known v w q id st (omega (arith, some, fewer id));
  held = λ id some. h q id (omega (arith, some, fewer id));
  once = once_at;
}
  where
    fewer : (id : ℕ) → on (ids (take n (frames_at v.backlog q))) id ≤ on (ids (frames_at v.backlog q)) id
    fewer id = omega (arith, split_at n (frames_at v.backlog q) id)

    once_at : (id : ℕ) → on (ids (take n (frames_at v.backlog q))) id ≤ 1
    once_at id = elim (cases_lt 0 (on (ids (take n (frames_at v.backlog q))) id)) [
      | inl some ↦ omega (
        arith,
        fewer id,
        times_at v.backlog q id
            (queued_low v q id (omega (arith, some, fewer id))),
        st.held_once id,
      )
      | inr none ↦ omega (arith, none)
    ]

pub held_same : (w u : World) (l : List ℕ) → u.frames ≡ w.frames → AreHeld w l → AreHeld u l
held_same w u l e h = record {
  accepted = λ id some. omega (arith, h.accepted id some, ap (length {A = Frame}) e);
  held = λ id some. ap (λ (fs : List Frame). (at no_frame fs id).fate) e ∙ h.held id some;
  once = h.once;
}

pub settled_take : (v : FlowsValue) (w : World) (s t n : ℕ) → FlowsStandFor v w → QueuedAreHeld v w →
    is_live w s ≡ true → s < w.config.stations → t < 8
    → n + length w.finished ≡ length (taken_for_tid w s t).world.finished →
    HaveSettled w (taken_for_tid w s t).world (Dropped By_codel) n
unfolding taken_for_tid after_pick
settled_take v w s t n st h live high low_t count x =
    let low_s : s < v.stations = omega (arith, high, ap (λ (c : SettingsValue). c.stations) st.settings) in
    let i : ℕ = tid_number s t in
    let qs : List ℕ = in_order (tid_of w s t).queues in
    let quanta : ℕ → ℕ = (picked_queue w s t).quanta in
    let u : World = after_world w s t in
    let frames : u.frames ≡ w.frames = frames_lists (with_queues_paid w quanta qs) s t
    (picked_queue w s t).lists ∙ stays_paid (λ (z : World). z.frames) frames_queue qs w quanta in
    let finished : u.finished ≡ w.finished = finished_lists (with_queues_paid w quanta qs) s t
    (picked_queue w s t).lists ∙ stays_paid (λ (z : World). z.finished) finished_queue qs w quanta in
    let after : FlowsStandFor (after_pick v i) u = stands_after v w st s t live low_s low_t in
    let held : (q : ℕ) → (picked_queue w s t).winner ≡ Some q →
    AreHeld u (map (λ y. y.id) (dequeue (codel_params u s) u.clock (queue u q).codel
    (queue u q).items).dropped) = λ q e.
    (let d : Dequeued = dequeue (codel_params u s) u.clock (queue u q).codel
    (map item_of (frames_at v.backlog q)) in
    let cut : IsCut (frames_at v.backlog q) d = cut_dequeue (codel_params u s) u.clock (queue u q).codel
    (frames_at v.backlog q) in
    subst (AreHeld u) (sym (ap (λ (l : List Item).
    map (λ y. y.id) (dequeue (codel_params u s) u.clock (queue u q).codel l).dropped) (after.items q)
    ∙ cut.dropped))
    (held_same w u (ids (take (length d.dropped) (frames_at v.backlog q))) frames
    (first_held v w q (length d.dropped) st h)))
    in
    omega (
      arith,
      settled_dequeued u s n (picked_queue w s t).winner held
          (omega (arith, count, ap (length {A = ℕ}) finished)) x,
      tally_same w u x frames,
    )
