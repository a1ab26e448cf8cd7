-- Proves that an enqueue changes its own station's readiness only in the class of its TID, and in a class in
-- which the limit drops a frame. In the latter the station does not become ready.
use Rattle.std.proofs.Common.{◌≡◌, refl, ap, sym, ◌∙◌, subst, arith, ℕ, ◌==◌, nat_lt, Bool, true, false, ◌||◌, List, [], ◌∷◌, ◌++◌, length, Option, Some, None, option_map, inl, inr}
use Rattle.std.proofs.lemmas.Bool.{cases_eq, not-false}
use Rattle.wf_frame.specs.declared.classes.Class.{Class}
use Rattle.wf_frame.specs.declared.classes.Class.TheVariants.{Bk, Be, Vi, Vo}
use Rattle.wf_frame.specs.declared.notes.Note.TheVariants.{Enqueue}
use Rattle.wf_frame.specs.Classes.{lower_tid, upper_tid, class_of}
use Rattle.wf_def_lists.specs.Table.{at}
use Rattle.wf_def_lists.specs.Lengths.{greatest_body}
use Rattle.wf_def_codel.specs.Codel.{Item}
use Rattle.wf_def_rotation.specs.Rotation.{Rotation, has_key, with_new_key}
use Rattle.wf_def_world.specs.World.{World, holds_back, Station, Queue, new_queue, tid_of, queue, is_live, owed, on_queue, with_queues, on_tid, on_station, with_station, with_frame_finished, with_fate}
use Rattle.wf_def_world.specs.FlowQueues.{is_at_limit, longest_queue, without_head, after_limit, queue_for, with_appended, when_listed, with_listed_queue, after_put_in}
use Rattle.wf_def_world.specs.CanSend.{is_below_aql, may_receive, is_ready}
use Rattle.wf_def_world.specs.Refusals.{refusal, refusals}
use Rattle.wf_def_world.specs.Step.{Outcome, outcome_of, step, next_item, with_frame, enqueue_outcome}
use Rattle.wf_law_rules.proofs.Lemmas.Numbers.{on_if}
use Rattle.wf_law_rules.proofs.Lemmas.Counts.{on-cons_same, listed-some}
use Rattle.wf_law_rules.proofs.Lemmas.Tables.{at_put_other}
use Rattle.wf_law_runs.specs.Queues.{HasLength, IsAtMost, KeepsQueues}
use Rattle.wf_law_runs.proofs.Queues.Law.{queue_law}
use Rattle.wf_law_runs.proofs.Frames.Fewer.{less_within_limit}
use Rattle.wf_law_runs.proofs.Releases.Placed.{Any}
use Rattle.wf_law_runs.proofs.Deficits.Books.{upd, upd_same, upd_other}
use Rattle.wf_law_runs.proofs.Deficits.Kept.{added-on}
use Rattle.wf_law_runs.proofs.Deficits.KeptStep.{NoRow, no_row}
use Rattle.wf_law_runs.proofs.Deficits.Mild.{Lists}
use Rattle.wf_queue_flows_refines.specs.Rest.{Rest, rest_of_world, bare}
use Rattle.wf_queue_flows_refines.specs.Standing.{Part, flows_part}
use Rattle.wf_queue_flows_refines.specs.Frames.{loses_next_in}
use Rattle.wf_queue_flows_refines.proofs.Elsewhere.{rest_enqueued, rest_live}
use Rattle.wf_queue_flows_refines.proofs.Parts.{part_with_queues}
use Rattle.wf_queue_flows_refines.proofs.Leaves.{listed_alone}
use Rattle.wf_send_half_model.specs.Standing.{IsReached}
use Rattle.wf_send_half_model.specs.Readiness.{loses_in}
use Rattle.wf_send_half_model.proofs.Reached.{by_law, reached_step, step_done}
use Rattle.wf_send_half_model.proofs.Steady.{asks, receives}
use Rattle.wf_send_half_model.proofs.Spared.{IsSameTid, IsLessTid, ready_same_by, ready_less_by, queued_same, queued_less, ready_stepped, ready_others, neither, long_after_limit, not_the_longest}

-- ---- which queues each TID lists

abbrev lists : World → ℕ → ℕ → Rotation
lists w s t = (tid_of w s t).queues

lists_headless : (items : List Item) (w : World) (q i j : ℕ) →
    lists (without_head w q items) i j ≡ lists w i j
unfolding without_head with_frame_finished with_fate on_queue
lists_headless [] w q i j = refl
lists_headless (x ∷ rest_of_world) w q i j = refl

lists_after_limit : (w : World) (i j : ℕ) → lists (after_limit w) i j ≡ lists w i j
unfolding after_limit
lists_after_limit w i j = on_if (λ (v : World). lists v i j ≡ lists w i j) (is_at_limit w)
    (without_head w (longest_queue w) (queue w (longest_queue w)).items) w
    (λ _. lists_headless (queue w (longest_queue w)).items w (longest_queue w) i j) (λ _. refl)

live_headless : (items : List Item) (w : World) (q s : ℕ) → is_live (without_head w q items) s ≡ is_live w s
unfolding without_head with_frame_finished with_fate on_queue
live_headless [] w q s = refl
live_headless (x ∷ rest_of_world) w q s = refl

-- the queue when it becomes listed
abbrev refreshed : World → ℕ → World
refreshed w q = on_queue w q (when_listed w.config)

live_refreshed : (w : World) (q s : ℕ) → is_live (refreshed w q) s ≡ is_live w s
unfolding on_queue
live_refreshed w q s = refl

lists_refreshed : (w : World) (q i j : ℕ) → lists (refreshed w q) i j ≡ lists w i j
unfolding on_queue
lists_refreshed w q i j = refl

-- another TID lists the same queues as before
lists_listed : (w : World) (s t q j : ℕ) → is_live w s ≡ true → (j ≡ t → ⊥) →
    lists (with_listed_queue w s t q) s j ≡ lists w s j
unfolding with_listed_queue
lists_listed w s t q j live other =
    on_if (λ (v : World). lists v s j ≡ lists w s j) (has_key (lists w s t) q) w
    (with_queues (refreshed w q) s t (with_new_key (lists w s t) q)) (λ _. refl)
    (λ _. ap (λ (p : Part). p.lists s j) (part_with_queues (refreshed w q) s t (with_new_key (lists w s t) q)
    (live_refreshed w q s ∙ live))
    ∙ ap (λ (f : ℕ → Rotation). f j) (upd_same (flows_part (refreshed w q)).lists s
    (upd ((flows_part (refreshed w q)).lists s) t (with_new_key (lists w s t) q)))
    ∙ upd_other ((flows_part (refreshed w q)).lists s) t j (with_new_key (lists w s t) q) other
    ∙ lists_refreshed w q s j)

-- the TID lists the queue
listed_there : (w : World) (s t q : ℕ) → is_live w s ≡ true →
    has_key (lists (with_listed_queue w s t q) s t) q ≡ true
unfolding with_listed_queue
listed_there w s t q live =
    on_if (λ (v : World). has_key (lists v s t) q ≡ true) (has_key (lists w s t) q) w
    (with_queues (refreshed w q) s t (with_new_key (lists w s t) q)) (λ e. e)
    (λ _. ap (λ (p : Part). has_key (p.lists s t) q)
    (part_with_queues (refreshed w q) s t (with_new_key (lists w s t) q) (live_refreshed w q s ∙ live))
    ∙ ap (λ (f : ℕ → Rotation). has_key (f t) q) (upd_same (flows_part (refreshed w q)).lists s
    (upd ((flows_part (refreshed w q)).lists s) t (with_new_key (lists w s t) q)))
    ∙ ap (λ (r : Rotation). has_key r q) (upd_same ((flows_part (refreshed w q)).lists s) t
    (with_new_key (lists w s t) q))
    ∙ listed-some (with_new_key (lists w s t) q) q
    (omega (arith, added-on (lists w s t) q q, on-cons_same q [])))

lists_appended : (w : World) (q : ℕ) (x : Item) (i j : ℕ) → lists (with_appended w q x) i j ≡ lists w i j
unfolding with_appended on_queue
lists_appended w q x i j = refl

live_appended : (w : World) (q : ℕ) (x : Item) (s : ℕ) → is_live (with_appended w q x) s ≡ is_live w s
unfolding with_appended on_queue
live_appended w q x s = refl

-- ---- a queue that gets no frame

other_queue : (w : World) (p q : ℕ) (f : Queue → Queue) → (p ≡ q → ⊥) → queue (on_queue w p f) q ≡ queue w q
unfolding on_queue
other_queue w p q f other = at_put_other new_queue w.queues p q _ other

queue_listed : (w : World) (s t p q : ℕ) → (p ≡ q → ⊥) → queue (with_listed_queue w s t p) q ≡ queue w q
unfolding with_listed_queue with_queues on_tid on_station with_station
queue_listed w s t p q other = on_if (λ (v : World). queue v q ≡ queue w q) (has_key (lists w s t) p) _ _
    (λ _. refl) (λ _. other_queue w p q (when_listed w.config) other)

queue_put_in : (w : World) (s t p q : ℕ) (x : Item) → (p ≡ q → ⊥) →
    queue (after_put_in w s t p x) q ≡ queue w q
unfolding after_put_in with_appended
queue_put_in w s t p q x other = queue_listed
    (on_queue w p (λ y. record y { items = y.items ++ x ∷ [] })) s t p q other
    ∙ other_queue w p q (λ y. record y { items = y.items ++ x ∷ [] }) other

-- ---- the enqueue

module _ (w : World) (s t flow len : ℕ) (live : is_live w s ≡ true) where
  into : ℕ
  into = queue_for (after_limit w) s t flow

  live_limit : is_live (after_limit w) s ≡ true
  unfolding after_limit
  live_limit = on_if (λ (v : World). is_live v s ≡ true) (is_at_limit w)
      (without_head w (longest_queue w) (queue w (longest_queue w)).items) w
      (λ _. live_headless (queue w (longest_queue w)).items w (longest_queue w) s ∙ live) (λ _. live)

  enqueued_lists : (j : ℕ) → (j ≡ t → ⊥) → lists (enqueue_outcome w s t flow len).world s j ≡ lists w s j
  unfolding into enqueue_outcome with_frame after_put_in
  enqueued_lists j other =
      let u : World = after_limit w in
      let q : ℕ = queue_for u s t flow in
      lists_listed (with_appended u q (next_item w len)) s t q j
      (live_appended u q (next_item w len) s ∙ live_limit) other
      ∙ lists_appended u q (next_item w len) s j ∙ lists_after_limit w s j

  enqueued_there : has_key (lists (enqueue_outcome w s t flow len).world s t) into ≡ true
  unfolding into enqueue_outcome with_frame after_put_in
  enqueued_there =
      let u : World = after_limit w in
      let q : ℕ = queue_for u s t flow in
      listed_there (with_appended u q (next_item w len)) s t q
      (live_appended u q (next_item w len) s ∙ live_limit)

  enqueued_elsewhere : (q : ℕ) → (into ≡ q → ⊥) →
      queue (enqueue_outcome w s t flow len).world q ≡ queue (after_limit w) q
  unfolding into enqueue_outcome with_frame
  enqueued_elsewhere q other = queue_put_in (after_limit w) s t (queue_for (after_limit w) s t flow) q
      (next_item w len) other

  -- no other TID lists the queue that gets the frame
  module _ (r : IsReached (step w (Enqueue s t flow len)).world)
      (done : refusal w (Enqueue s t flow len) ≡ None) where
    stepped : flows_part (step w (Enqueue s t flow len)).world
        ≡ flows_part (enqueue_outcome w s t flow len).world
    unfolding outcome_of
    stepped = ap (λ (o : Outcome). flows_part o.world) (step_done w (Enqueue s t flow len) done)
        ∙ listed_alone (outcome_of w (Enqueue s t flow len)).world (Some s)

    not_into : (j q : ℕ) → (j ≡ t → ⊥) → Lists w s j q → into ≡ q → ⊥
    not_into j q other k e =
        let keeps : KeepsQueues (step w (Enqueue s t flow len)).world =
        by_law KeepsQueues _ r (queue_law (step w (Enqueue s t flow len)).world.config r.history
        r.in_range) in
        let mine : has_key (lists (step w (Enqueue s t flow len)).world s j) q ≡ true =
        ap (λ (p : Part). has_key (p.lists s j) q) stepped
        ∙ ap (λ (z : Rotation). has_key z q) (enqueued_lists j other) ∙ listed-some (lists w s j) q k in
        let its : has_key (lists (step w (Enqueue s t flow len)).world s t) q ≡ true =
        ap (λ (p : Part). has_key (p.lists s t) q) stepped
        ∙ subst (λ (z : ℕ). has_key (lists (enqueue_outcome w s t flow len).world s t) z ≡ true) e
        enqueued_there in
        other (keeps.sole s j s t q mine its).1

    enqueued_long : (j q : ℕ) → (j ≡ t → ⊥) → loses_next_in w s j ≡ false → Lists w s j q →
        length (queue (enqueue_outcome w s t flow len).world q).items ≡ length (queue w q).items
    enqueued_long j q other spared k =
        let same : length (queue (enqueue_outcome w s t flow len).world q).items
        ≡ length (queue (after_limit w) q).items =
        ap (λ (y : Queue). length y.items) (enqueued_elsewhere q (not_into j q other k)) in
        omega (
          arith,
          same,
          ((less_within_limit Any w).queues q).short,
          long_after_limit w q (not_the_longest w s j q spared k),
        )

    enqueued_request : (j : ℕ) → asks s j (enqueue_outcome w s t flow len).world.opened ≡ asks s j w.opened
    enqueued_request j = ap (λ (z : Rest). asks s j z.opened) (rest_enqueued w s t flow len)

    enqueued_less : (j : ℕ) → (j ≡ t → ⊥) → IsLessTid w (enqueue_outcome w s t flow len).world s j
    enqueued_less j other = record {
      session = ap (λ (z : Rest). z.sessions s j) (rest_enqueued w s t flow len);
      held = ap (λ (z : Rest). holds_back (z.modes s j)) (rest_enqueued w s t flow len);
      request = enqueued_request j;
      queued = queued_less w (enqueue_outcome w s t flow len).world s j (enqueued_lists j other)
          (λ q k.
          let same : length (queue (enqueue_outcome w s t flow len).world q).items
          ≡ length (queue (after_limit w) q).items =
          ap (λ (y : Queue). length y.items) (enqueued_elsewhere q (not_into j q other k)) in
          omega (arith, same, ((less_within_limit Any w).queues q).short));
    }

    enqueued_tid : (j : ℕ) → (j ≡ t → ⊥) → loses_next_in w s j ≡ false →
        IsSameTid w (enqueue_outcome w s t flow len).world s j
    enqueued_tid j other spared = record {
      session = ap (λ (z : Rest). z.sessions s j) (rest_enqueued w s t flow len);
      held = ap (λ (z : Rest). holds_back (z.modes s j)) (rest_enqueued w s t flow len);
      request = enqueued_request j;
      queued = queued_same w (enqueue_outcome w s t flow len).world s j (enqueued_lists j other)
          (λ q k. enqueued_long j q other spared k);
    }

-- ---- readiness

pub lower_class : (c : Class) → class_of (lower_tid c) ≡ c
lower_class Bk = refl
lower_class Be = refl
lower_class Vi = refl
lower_class Vo = refl

pub upper_class : (c : Class) → class_of (upper_tid c) ≡ c
upper_class Bk = refl
upper_class Be = refl
upper_class Vi = refl
upper_class Vo = refl

receives_bare : (c : Class) (o : Option Station) (below : Bool) →
    receives c o below ≡ receives c (option_map bare o) below
receives_bare c None below = refl
receives_bare c (Some x) below = refl

receives_rest : (w v : World) (s : ℕ) (c : Class) → rest_of_world v ≡ rest_of_world w →
    may_receive v s c ≡ may_receive w s c
receives_rest w v s c e =
    receives_bare c (at None v.stations s) (is_below_aql v s c)
    ∙ ap (λ (z : Rest). receives c (z.stations s)
    ((z.config.aql == 0) || nat_lt (owed s c z.opened) z.config.aql)) e
    ∙ sym (receives_bare c (at None w.stations s) (is_below_aql w s c))

own_enqueued : (w : World) (s t flow len : ℕ) → IsReached (step w (Enqueue s t flow len)).world →
    refusal w (Enqueue s t flow len) ≡ None → NoRow (refusals w (Enqueue s t flow len)) → (c : Class) →
    (class_of t ≡ c → ⊥) → loses_in w (Enqueue s t flow len) s c ≡ false
    → is_ready (outcome_of w (Enqueue s t flow len)).world c s ≡ is_ready w c s
unfolding outcome_of
own_enqueued w s t flow len r done row c other spared =
    let live : is_live w s ≡ true = not-false _ row.1.1.0 in
    let parts : (loses_next_in w s (lower_tid c) ≡ false) ×
    (loses_next_in w s (upper_tid c) ≡ false) = neither _ _ spared in
    let v : World = (enqueue_outcome w s t flow len).world in
    ready_same_by w v c s (rest_live w v s (rest_enqueued w s t flow len))
    (receives_rest w v s c (rest_enqueued w s t flow len))
    (enqueued_tid w s t flow len live r done (lower_tid c)
    (λ e. other (ap class_of (sym e) ∙ lower_class c)) parts.0)
    (enqueued_tid w s t flow len live r done (upper_tid c)
    (λ e. other (ap class_of (sym e) ∙ upper_class c)) parts.1)

-- in a class in which the limit drops a frame, the station does not become ready either
pub own_less : (w : World) (s t flow len : ℕ) → IsReached (step w (Enqueue s t flow len)).world →
    refusal w (Enqueue s t flow len) ≡ None → (c : Class) → (class_of t ≡ c → ⊥) →
    is_ready (outcome_of w (Enqueue s t flow len)).world c s ≡ true → is_ready w c s ≡ true
unfolding outcome_of
own_less w s t flow len r done c other =
    let row : NoRow (refusals w (Enqueue s t flow len)) = no_row (refusals w (Enqueue s t flow len)) done in
    let live : is_live w s ≡ true = not-false _ row.1.1.0 in
    let v : World = (enqueue_outcome w s t flow len).world in
    ready_less_by w v c s (rest_live w v s (rest_enqueued w s t flow len))
    (λ is. sym (receives_rest w v s c (rest_enqueued w s t flow len)) ∙ is)
    (enqueued_less w s t flow len live r done (lower_tid c)
    (λ e. other (ap class_of (sym e) ∙ lower_class c)))
    (enqueued_less w s t flow len live r done (upper_tid c)
    (λ e. other (ap class_of (sym e) ∙ upper_class c)))

pub ready_enqueued : (w : World) (s t flow len : ℕ) → IsReached w → HasLength (Enqueue s t flow len) →
    IsAtMost greatest_body (Enqueue s t flow len) → (i : ℕ) (c : Class) → (i ≡ s → class_of t ≡ c → ⊥) →
    loses_in w (Enqueue s t flow len) i c ≡ false
    → is_ready (step w (Enqueue s t flow len)).world c i ≡ is_ready w c i
ready_enqueued w s t flow len r some most i c other spared = elim (cases_eq i s) [
  | inl same ↦ subst (λ (n : ℕ). is_ready (step w (Enqueue s t flow len)).world c n ≡ is_ready w c n)
      (sym same)
      (ready_stepped w (Enqueue s t flow len) s c (λ e.
      own_enqueued w s t flow len (reached_step w (Enqueue s t flow len) r some most) e
      (no_row (refusals w (Enqueue s t flow len)) e) c (other same)
      (subst (λ (n : ℕ). loses_in w (Enqueue s t flow len) n c ≡ false) same spared)))
  | inr differs ↦ ready_others w (Enqueue s t flow len) r i c (λ e. differs (cc e)) spared
]
