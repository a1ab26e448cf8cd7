-- Proves that the parts represent the world after a frame is taken out of a TID's queues, with the frames
-- that CoDel drops counted.
use Rattle.std.proofs.Common.{◌≡◌, ◌≢◌, refl, ap, ap₂, sym, ◌∙◌, subst, arith, ℕ, suc, ◌+◌, ◌-◌, ◌<◌, ◌==◌, true, List, [], ◌∷◌, length, length-append, Option, Some, None, inl, eq-eqb, add-zero}
use Rattle.std.proofs.lemmas.Bool.{or_left, or_right}
use Rattle.std.proofs.lemmas.List.{length-map}
use Rattle.wf_frame.specs.declared.classes.Cause.{Cause}
use Rattle.wf_frame.specs.declared.classes.Cause.TheVariants.{Overlimit, Codel as By_codel, Retries, Left, Flushed, Ended}
use Rattle.wf_frame.specs.declared.classes.Fate.{Fate}
use Rattle.wf_frame.specs.declared.classes.Fate.TheVariants.{Held, Dropped}
use Rattle.wf_frame.specs.Frames.{FrameValue}
use Rattle.wf_def_codel.specs.Codel.{Dequeued, dequeue}
use Rattle.wf_def_lists.specs.Lists.{IsOnce}
use Rattle.wf_def_rotation.specs.Rotation.{in_order}
use Rattle.wf_def_lists.specs.Table.{has}
use Rattle.wf_def_world.specs.World.{World, queue, tid_of, frame, is_live, accepted_count, codel_params, on_queue, with_queues, with_frame_finished, with_frames_finished}
use Rattle.wf_def_world.specs.FlowQueues.{with_queues_paid, after_dequeue, taken_by_codel, taken_from_picked, picked_queue, taken_for_tid}
use Rattle.wf_law_runs.proofs.Deficits.Books.{upd_other}
use Rattle.wf_law_runs.proofs.Frames.Fates.{Fresh, ids_in, IsDroppedRight, dropped_dequeue, safe_calm}
use Rattle.wf_law_runs.proofs.Frames.Fewer.{less_pay_queues, less_with_queues, then_less}
use Rattle.wf_law_runs.proofs.Frames.Untouched.{untouched_pay_queues, untouched_with_queues, then_untouched}
use Rattle.wf_law_runs.proofs.Releases.Placed.{Any, Placing}
use Rattle.wf_law_runs.proofs.Windows.Sides.{then_same, same_pay_queues, same_with_queues}
use Rattle.wf_send_parts.specs.Tally.{Counts, settled_as, many_settled_as}
use Rattle.wf_frame.specs.Classes.{tid_number}
use Rattle.wf_queue_flows.specs.Flows.{FlowsValue, taken_for_tid as take_out}
use Rattle.wf_queue_flows_refines.specs.Standing.{Part, flows_part, FlowsStandFor as FlowsStandFor}
use Rattle.wf_queue_flows_refines.proofs.Bodies.{frames_take}
use Rattle.wf_queue_flows_refines.proofs.Elsewhere.{rest_take}
use Rattle.wf_queue_flows_refines.proofs.Parts.{part_finish}
use Rattle.wf_queue_flows_refines.proofs.Takes.{stands_take}
use Rattle.wf_sched_refines.proofs.Unchanged.{take_leaves}
use Rattle.wf_send_half_model.specs.Half.{TransmitValue}
use Rattle.wf_send_half_model.specs.Standing.{counts_in, Parts}
use Rattle.wf_send_half_model.specs.Filling.{after_take}
use Rattle.wf_send_half_model.specs.Views.{Roster, roster, Ledger, ledger}
use Rattle.wf_send_half_model.proofs.Views.{agreements_rest, roster_rest, ledger_queue, ledger_queues}
use Rattle.wf_send_half_model.proofs.Stands.{WindowsStand, ModesStand, StationsStand, GroupsStand, LedgerStands, Pieces, to_pieces, of_pieces}
use Rattle.wf_send_half_model.proofs.Ledgers.{ledger_finish}

-- ---- many frames are dropped

none_settled : (cause : Cause) (c : Counts) → many_settled_as (Dropped cause) 0 c ≡ c
none_settled Overlimit c = simp add-zero
none_settled By_codel c = simp add-zero
none_settled Retries c = simp add-zero
none_settled Left c = simp add-zero
none_settled Flushed c = simp add-zero
none_settled Ended c = simp add-zero

one_settled : (cause : Cause) (n : ℕ) (c : Counts) →
    many_settled_as (Dropped cause) n (settled_as (Dropped cause) c)
    ≡ many_settled_as (Dropped cause) (suc n) c
one_settled Overlimit n c = ap (λ (k : ℕ). record c { overlimit = k }) (omega arith)
one_settled By_codel n c = ap (λ (k : ℕ). record c { codel = k }) (omega arith)
one_settled Retries n c = ap (λ (k : ℕ). record c { retries = k }) (omega arith)
one_settled Left n c = ap (λ (k : ℕ). record c { left = k }) (omega arith)
one_settled Flushed n c = ap (λ (k : ℕ). record c { flushed = k }) (omega arith)
one_settled Ended n c = ap (λ (k : ℕ). record c { ended = k }) (omega arith)

-- u is w after `count` held frames were dropped
pub record HasDropped (cause : Cause) (count : ℕ) (w u : World) : Type 0 where
  pub ledger_is : ledger u ≡ record (ledger w) {
    counts =
        many_settled_as (Dropped cause) count (counts_in w);
  }
  pub finished : length u.finished ≡ length w.finished + count

dropped_first : (cause : Cause) (count : ℕ) (w u x : World) →
    ledger u ≡ record (ledger w) { counts = settled_as (Dropped cause) (counts_in w) } →
    length u.finished ≡ length w.finished + 1 → HasDropped cause count u x → HasDropped cause (suc count) w x
dropped_first cause count w u x one more d = record {
  ledger_is =
      d.ledger_is
      ∙ ap (λ (l : Ledger). record l { counts = many_settled_as (Dropped cause) count l.counts }) one
      ∙ ap (λ (c : Counts). record (ledger w) { counts = c }) (one_settled cause count (counts_in w));
  finished = omega (arith, d.finished, more);
}

one_more : (w : World) (fate : Fate) (id : ℕ) →
    length (with_frame_finished w fate id).finished ≡ length w.finished + 1
unfolding with_frame_finished
one_more w fate id = length-append w.finished (id ∷ [])

pub dropped_all : (dropped : List ℕ) (cause : Cause) (w : World) → IsOnce dropped →
    ((k : ℕ) → has dropped k ≡ true → (k < accepted_count w) × ((frame w k).fate ≡ Held)) →
    HasDropped cause (length dropped) w (with_frames_finished w (Dropped cause) dropped)
unfolding with_frames_finished
dropped_all [] cause w once held = record {
  ledger_is =
      ap (λ (c : Counts). record (ledger w) { counts = c }) (sym (none_settled cause (counts_in w)));
  finished =
      omega arith;
}
dropped_all (id ∷ rest) cause w once held =
    let first = held id (or_left (id == id) (has rest id) (eq-eqb id id refl)) in
    let u : World = with_frame_finished w (Dropped cause) id in
    let p = part_finish w (Dropped cause) id first.0 in
    dropped_first cause (length rest) w u (with_frames_finished u (Dropped cause) rest)
    (ledger_finish w (Dropped cause) id first.0 first.1 refl) (one_more w (Dropped cause) id)
    (dropped_all rest cause u once.1 (λ k e.
    let other : k ≢ id = λ same. cc (once.0, e, same) in
    let own = held k (or_right (id == k) (has rest k) e) in (
      omega (arith, own.0, ap (λ (z : Part). z.accepted) p),
      ap (λ (z : Part). z.fates k) p ∙ upd_other (flows_part w).fates id k (Dropped cause) other ∙ own.1,
    )))

-- ---- the frames that CoDel drops

-- the same ledger, and equally many finished frames
dropped_after : (cause : Cause) (count : ℕ) (w u x : World) → ledger u ≡ ledger w →
    length u.finished ≡ length w.finished → HasDropped cause count u x → HasDropped cause count w x
dropped_after cause count w u x same as_many d = record {
  ledger_is = d.ledger_is ∙ ap (λ (l : Ledger).
      record l { counts = many_settled_as (Dropped cause) count l.counts }) same;
  finished = omega (arith, d.finished, as_many);
}

dequeued_drops : (w : World) (q : ℕ) (d : Dequeued) (l : List ℕ) → Placing l w → Fresh w →
    IsDroppedRight (queue w q).items d → HasDropped By_codel (length (ids_in d.dropped)) w
    (taken_by_codel w q d).world
unfolding taken_by_codel on_queue
dequeued_drops w q d l placing fresh right =
    let u : World = on_queue w q (after_dequeue d) in
    dropped_after By_codel (length (ids_in d.dropped)) w u _ (ledger_queue w q (after_dequeue d)) refl
    (dropped_all (ids_in d.dropped) By_codel u right.once (λ k e.
    let there = right.there k e in
    ((placing.queued q k there).old, fresh.held k (inl (record { place = q; there = there })))))

-- how many frames a take drops in the world
record Drops (w u : World) : Type 0 where
  count : ℕ
  dropped : HasDropped By_codel count w u

picked_drops : (w : World) (s : ℕ) (o : Option ℕ) (l : List ℕ) → Placing l w → Fresh w →
    Drops w (taken_from_picked w s o).world
unfolding taken_from_picked
picked_drops w s None l placing fresh = record {
  count = 0;
  dropped =
      record {
        ledger_is = ap (λ (c : Counts). record (ledger w) { counts = c })
            (sym (none_settled By_codel (counts_in w)));
        finished = omega arith;
      };
}
picked_drops w s (Some q) l placing fresh =
    let d : Dequeued = dequeue (codel_params w s) w.clock (queue w q).codel (queue w q).items in
    record {
      count = length (ids_in d.dropped);
      dropped =
          dequeued_drops w q d l placing fresh (dropped_dequeue (queue w q).items (codel_params w s) w.clock
          (queue w q).codel 0 (placing.ordered q));
    }

paid_ledger : (qs : List ℕ) (w : World) (quanta : ℕ → ℕ) → ledger (with_queues_paid w quanta qs) ≡ ledger w
unfolding with_queues_paid
paid_ledger [] w quanta = refl
paid_ledger (q ∷ qs) w quanta = paid_ledger qs _ quanta ∙ ledger_queue w q _

take_drops : (w : World) (s t : ℕ) (l : List ℕ) → Placing l w → Fresh w → Drops w (taken_for_tid w s t).world
unfolding taken_for_tid
take_drops w s t l placing fresh =
    let qs : List ℕ = in_order (tid_of w s t).queues in
    let a : World = with_queues_paid w (picked_queue w s t).quanta qs in
    let u : World = with_queues a s t (picked_queue w s t).lists in
    let less = then_less Any w a u (less_pay_queues Any qs w _) (less_with_queues Any a s t _) in
    let untouched = then_untouched w a u (untouched_pay_queues qs w _) (untouched_with_queues a s t _) in
    let safe = safe_calm l w u less (then_same w a u (same_pay_queues qs w _) (same_with_queues a s t _))
    untouched placing fresh in
    let d : Drops u (taken_from_picked u s (picked_queue w s t).winner).world =
    picked_drops u s (picked_queue w s t).winner l safe.placing safe.fresh in
    record {
      count = d.count;
      dropped = dropped_after By_codel d.count w u _
          (ledger_queues a s t _ ∙ paid_ledger qs w _) (ap (length {A = ℕ}) untouched.finished) d.dropped;
    }

-- ---- in the half

finished_count : (v : FlowsValue) (w : World) → FlowsStandFor v w →
    length w.finished ≡ length v.backlog.finished
finished_count v w h = ap (length {A = ℕ}) h.finished
    ∙ length-map v.backlog.finished (λ (f : FrameValue). f.id)

pub take_parts : (v : TransmitValue) (w : World) (bodies : ℕ → FrameValue) (s t : ℕ) (l : List ℕ) →
    Placing l w → Fresh w → is_live w s ≡ true → t < 8 → Parts v w bodies →
    Parts (after_take v (tid_number s t) (codel_params w s)) (taken_for_tid w s t).world bodies
take_parts v w bodies s t l placing fresh live low h =
    let p : Pieces v w bodies = to_pieces v w bodies h in
    let u : World = (taken_for_tid w s t).world in
    let low_s : s < w.config.stations = h.others.turns.live s live in
    let same : roster w ≡ roster u = sym (roster_rest w u (rest_take w s t)) in
    let now : v.clock ≡ w.clock = p.clock in
    let flows : FlowsStandFor (take_out v.flows (tid_number s t) v.clock (codel_params w s)).flows u =
    subst (λ (n : ℕ). FlowsStandFor (take_out v.flows (tid_number s t) n (codel_params w s)).flows u)
    (sym now) (stands_take v.flows w s t p.flows live low_s low) in
    let d : Drops w u = take_drops w s t l placing fresh in
    let count : length (take_out v.flows (tid_number s t) v.clock (codel_params w s)).flows.backlog.finished -
    length v.flows.backlog.finished ≡ d.count =
    omega (
      arith,
      d.dropped.finished,
      finished_count v.flows w p.flows,
      finished_count (take_out v.flows (tid_number s t) v.clock (codel_params w s)).flows u flows,
    ) in
    of_pieces (after_take v (tid_number s t) (codel_params w s)) u bodies (record {
      config = p.config ∙ ap (λ (r : Roster). r.config) same;
      clock = p.clock ∙ ap (λ (r : Roster). r.clock) same;
      exchanges = p.exchanges ∙ ap (λ (r : Roster). r.exchanges) same;
      opened = p.opened ∙ ap (λ (r : Roster). r.opened) same;
      groups = subst (λ (r : Roster). GroupsStand v.groups r.config r.groups) same p.groups;
      stations = subst (λ (r : Roster). StationsStand v.members v.sleepers r.config.stations r.stations) same
          p.stations;
      windows = subst (WindowsStand v.windows bodies) (sym (agreements_rest w u (rest_take w s t))) p.windows;
      modes = subst (ModesStand v.modes) (sym (agreements_rest w u (rest_take w s t))) p.modes;
      flows = flows;
      turns = take_leaves w s t v.sched p.turns;
      ledger = subst (LedgerStands v.inside (after_take v (tid_number s t) (codel_params w s)).tally bodies)
          (sym d.dropped.ledger_is) (record {
            count = p.ledger.count;
            fates = ap₂ (λ (n : ℕ) (c : Counts). many_settled_as (Dropped By_codel) n c) count p.ledger.fates;
            notes = p.ledger.notes;
          });
      frames = frames_take v.flows w bodies p.flows h.others.notes p.frames (tid_number s t) v.clock
          (codel_params w s);
    })
