-- Proves that flow queues and world still agree after a take: the pick among the TID's queues, then CoDel's
-- dequeue.
use Rattle.std.proofs.Common.{◌≡◌, refl, ap, ap₂, sym, ◌∙◌, subst, arith, ℕ, zero, suc, ◌+◌, ◌*◌, ◌<◌, ◌≤◌, true, if◌then◌else◌, List, [], ◌∷◌, ◌++◌, map, length, take, drop, Option, Some, None, inl, inr}
use Rattle.std.specs.Prelude.{ℤ, pos, ◌+ℤ◌, ◌-ℤ◌, option_map, unwrap_or, slice_get}
use Rattle.std.proofs.lemmas.List.{take-append-drop}
use Rattle.std.proofs.lemmas.List.Elements.{All-drop}
use Rattle.std.proofs.lemmas.Bool.{cases_lt}
use Rattle.wf_frame.specs.declared.classes.Cause.TheVariants.{Codel as By_codel}
use Rattle.wf_frame.specs.declared.classes.Fate.TheVariants.{Dropped}
use Rattle.wf_frame.specs.Frames.{FrameValue}
use Rattle.wf_def_lists.specs.Table.{at, change}
use Rattle.wf_def_air.specs.Airtime.{Rate}
use Rattle.wf_def_codel.specs.Parameters.{is_slow}
use Rattle.wf_def_codel.specs.Codel.{Codel, Params, Dequeued, dequeued_after, drops, state_after, dequeue}
use Rattle.wf_def_rotation.specs.Rotation.{Rotation, has_key, in_order}
use Rattle.wf_def_lists.specs.Lists.{on}
use Rattle.wf_rotation.specs.Rotas.{deficit_at, need_at}
use Rattle.wf_law_rules.proofs.Lemmas.Counts.{on-first}
use Rattle.wf_law_rules.proofs.Lemmas.Counts.{listed-some, listed-none}
use Rattle.wf_law_rules.specs.Renamed.{IsSame}
use Rattle.wf_def_world.specs.World.{World, Station, Queue, no_station, no_tid, is_live, queue, station, tid_of, codel_params, accepted_count, on_queue, with_queues, with_frames_finished, with_station, on_station, on_tid}
use Rattle.wf_def_world.specs.FlowQueues.{with_queues_paid, len_given, picked_queue, Taken as World_taken, taken_by_codel as world_dequeued, taken_from_picked as world_taken_from, taken_for_tid as world_take}
use Rattle.wf_queue_flows.specs.Backlog.{frames_at, codel_at, item_of, frame_with_fate, dequeue_at, drops_at, given_at}
use Rattle.wf_frame.specs.Classes.{tid_number}
use Rattle.wf_queue_flows.specs.Flows.{FlowsValue, SettingsValue, TakenFromFlows, queues as queue_count, tid_rotation, backlog_has_frames, pick_of_tid, with_quanta_paid, after_pick, length_given, taken_from_picked, taken_for_tid as take_out}
use Rattle.wf_queue_flows.proofs.Picks.{on-picked_le}
use Rattle.wf_law_rules.proofs.Lemmas.Tables.{at_put_same}
use Rattle.wf_law_runs.proofs.Queues.Shelves.{paid_queue}
use Rattle.wf_queue_flows_refines.specs.Standing.{Part, flows_part, ids, with_finished, Stands, FlowsStandFor}
use Rattle.wf_queue_flows_refines.proofs.Parts.{accepted_all, part_with_queues, part_pay_queues}
use Rattle.wf_queue_flows_refines.proofs.Changes.{part_with, with_queue, out_known, stands_moved, part_moved, with_list, part_with_list, stands_list}
use Rattle.wf_queue_flows_refines.proofs.Picking.{winner_listed, quanta_unlisted, same_picked}

-- ---- the quanta that a pick pays

length_paid : (quanta : ℕ → ℕ) (quantum k : ℕ) (ds : List ℤ) →
    length (with_quanta_paid quanta quantum k ds) ≡ length ds
length_paid quanta quantum k [] = refl
length_paid quanta quantum k (d ∷ ds) = ap suc (length_paid quanta quantum (suc k) ds)

read_paid : (quanta : ℕ → ℕ) (quantum k : ℕ) (ds : List ℤ) (q : ℕ) → q < length ds →
    deficit_at (with_quanta_paid quanta quantum k ds) q ≡ deficit_at ds q +ℤ pos (quanta (k + q) * quantum)
read_paid quanta quantum k [] q low = absurd (omega arith)
read_paid quanta quantum k (d ∷ ds) zero low = let same : k + 0 ≡ k = omega arith in rw same refl
read_paid quanta quantum k (d ∷ ds) (suc q) low = let same : k + suc q ≡ suc k + q = omega arith in
    rw same (read_paid quanta quantum (suc k) ds q (omega arith))

paid_at : (quanta : ℕ → ℕ) (quantum : ℕ) (ds : List ℤ) (q : ℕ) → q < length ds →
    deficit_at (with_quanta_paid quanta quantum 0 ds) q ≡ deficit_at ds q +ℤ pos (quanta q * quantum)
paid_at quanta quantum ds q low = let same : 0 + q ≡ q = omega arith in
    read_paid quanta quantum 0 ds q low ∙ ap (λ (k : ℕ). deficit_at ds q +ℤ pos (quanta k * quantum)) same

live_paid : (qs : List ℕ) (w : World) (quanta : ℕ → ℕ) (s : ℕ) →
    is_live (with_queues_paid w quanta qs) s ≡ is_live w s
unfolding with_queues_paid on_queue
live_paid [] w quanta s = refl
live_paid (q ∷ qs) w quanta s = live_paid qs (on_queue w q
    (λ y. record y { deficit = y.deficit +ℤ pos (quanta q * w.config.flow_quantum) })) quanta s

clock_paid : (qs : List ℕ) (w : World) (quanta : ℕ → ℕ) → (with_queues_paid w quanta qs).clock ≡ w.clock
unfolding with_queues_paid on_queue
clock_paid [] w quanta = refl
clock_paid (q ∷ qs) w quanta = clock_paid qs (on_queue w q
    (λ y. record y { deficit = y.deficit +ℤ pos (quanta q * w.config.flow_quantum) })) quanta

stations_paid : (qs : List ℕ) (w : World) (quanta : ℕ → ℕ) →
    (with_queues_paid w quanta qs).stations ≡ w.stations
unfolding with_queues_paid on_queue
stations_paid [] w quanta = refl
stations_paid (q ∷ qs) w quanta = stations_paid qs
    (on_queue w q (λ y. record y { deficit = y.deficit +ℤ pos (quanta q * w.config.flow_quantum) })) quanta

-- a station keeps its rate when a TID of it gets other lists
rate_kept : (w : World) (s t : ℕ) (r : Rotation) → (station (with_queues w s t r) s).rate ≡ (station w s).rate
unfolding with_queues on_tid on_station with_station
rate_kept w s t r = ap (λ (o : Option Station). (unwrap_or o no_station).rate)
    (at_put_same None w.stations s _) ∙ go (at None w.stations s)
  where
    go : (o : Option Station) → (unwrap_or (option_map
        (λ (x : Station). record x { tids = change no_tid x.tids t (λ y. record y { queues = r }) }) o)
        no_station).rate ≡ (unwrap_or o no_station).rate
    go None = refl
    go (Some x) = refl

clock_kept : (w : World) (s t : ℕ) (r : Rotation) → (with_queues w s t r).clock ≡ w.clock
unfolding with_queues on_tid on_station with_station
clock_kept w s t r = refl

-- the world after a pick among a TID's queues
abbrev pub after_world : World → ℕ → ℕ → World
after_world w s t = with_queues (with_queues_paid w (picked_queue w s t).quanta
    (in_order (tid_of w s t).queues)) s t (picked_queue w s t).lists

module _ (v : FlowsValue) (w : World) (st : FlowsStandFor v w) (s t : ℕ) (live : is_live w s ≡ true)
    (low_s : s < v.stations) (low_t : t < 8) where
  abbrev own : Rotation
  own = tid_rotation v (tid_number s t)

  abbrev paid_part : Part
  paid_part = record (flows_part w) {
    queues = λ q.
        paid_queue w.config.flow_quantum (on (in_order (tid_of w s t).queues) q * (picked_queue w s t).quanta q)
        (queue w q);
  }

  abbrev paid_value : FlowsValue
  paid_value = record v {
    rotas = record v.rotas {
      deficits =
          with_quanta_paid (pick_of_tid v (tid_number s t)).quanta v.flow_quantum 0 v.rotas.deficits;
    };
  }

  -- the same number of quanta on both sides
  as_many : (q : ℕ) → on (in_order (tid_of w s t).queues) q * (picked_queue w s t).quanta q
      ≡ (pick_of_tid v (tid_number s t)).quanta q
  as_many q =
      ap (λ (r : Rotation). on (in_order r) q * (picked_queue w s t).quanta q) (st.lists s t low_s low_t)
      ∙ ap (λ (n : ℕ). on (in_order own) q * n) ((same_picked v w st s t low_s low_t).quanta q)
      ∙ elim (cases_lt 0 (on (in_order own) q)) [
        | inl some ↦ times_one (on (in_order own) q) ((pick_of_tid v (tid_number s t)).quanta q)
            (omega (arith, some, st.once (tid_number s t) q))
        | inr few ↦ times_none (on (in_order own) q) ((pick_of_tid v (tid_number s t)).quanta q)
            (omega (arith, few)) (quanta_unlisted (need_at v.rotas) (backlog_has_frames v.backlog) own q
            (listed-none own q (omega (arith, few))))
      ]
    where
      times_one : (m n : ℕ) → m ≡ 1 → m * n ≡ n
      times_one m n e = rw e (omega arith)

      times_none : (m n : ℕ) → m ≡ 0 → n ≡ 0 → m * n ≡ n
      times_none m n e z = rw (e, z) refl

  stands_paid : Stands paid_value paid_part
  stands_paid = record {
    sized = record {
      lists = st.sized.lists;
      deficits = length_paid (pick_of_tid v (tid_number s t)).quanta v.flow_quantum 0 v.rotas.deficits
          ∙ st.sized.deficits;
      queues = st.sized.queues;
      codels = st.sized.codels;
      some_flows = st.sized.some_flows;
      quanta = st.sized.quanta;
    };
    settings = st.settings;
    items = st.items;
    codels = st.codels;
    lists = st.lists;
    once = st.once;
    below = st.below;
    deficits = λ j q h.
        let low : q < length v.rotas.deficits = omega (arith, st.below j q h, st.sized.deficits) in
        ap₂ (λ (d : ℤ) (n : ℕ). d +ℤ pos (n * w.config.flow_quantum)) (st.deficits j q h) (as_many q)
        ∙ ap (λ (n : ℕ). deficit_at v.rotas.deficits q +ℤ pos ((pick_of_tid v (tid_number s t)).quanta q * n))
        (ap (λ (x : SettingsValue). x.flow_quantum) (sym st.settings))
        ∙ sym (paid_at (pick_of_tid v (tid_number s t)).quanta v.flow_quantum v.rotas.deficits q low);
    finished = st.finished;
    fates = st.fates;
    accepted = st.accepted;
    held_once = st.held_once;
    flows = st.flows;
  }

  still_listed : (q : ℕ) → has_key (pick_of_tid v (tid_number s t)).lists q ≡ true → has_key own q ≡ true
  still_listed q is = elim (cases_lt 0 (on (in_order own) q)) [
    | inl some ↦ listed-some own q some
    | inr few ↦ absurd (cc (
      is,
      listed-none (pick_of_tid v (tid_number s t)).lists q
          (omega (arith, few, on-picked_le (need_at v.rotas) (backlog_has_frames v.backlog) own q)),
    ))
  ]

  part_after : flows_part (after_world w s t) ≡ part_with_list paid_part s t (picked_queue w s t).lists
  part_after =
      part_with_queues (with_queues_paid w (picked_queue w s t).quanta (in_order (tid_of w s t).queues)) s t
      (picked_queue w s t).lists (live_paid (in_order (tid_of w s t).queues) w
      (picked_queue w s t).quanta s ∙ live)
      ∙ ap (λ (p : Part). part_with_list p s t (picked_queue w s t).lists)
      (part_pay_queues (in_order (tid_of w s t).queues) w (picked_queue w s t).quanta)

  pub stands_after : FlowsStandFor (after_pick v (tid_number s t)) (after_world w s t)
  unfolding after_pick
  stands_after = subst (Stands (with_list paid_value (tid_number s t) (pick_of_tid v (tid_number s t)).lists))
      (ap (λ (r : Rotation). part_with_list paid_part s t r) (sym (same_picked v w st s t low_s low_t).lists)
      ∙ sym part_after)
      (stands_list paid_value paid_part s t (pick_of_tid v (tid_number s t)).lists stands_paid low_s low_t
      (λ q. omega (
        arith,
        on-picked_le (need_at v.rotas) (backlog_has_frames v.backlog) own q,
        st.once (tid_number s t) q,
      ))
      (λ q h. st.below (tid_number s t) q (still_listed q h))
      (λ q h. stands_paid.deficits (tid_number s t) q (still_listed q h)))

in_after : (v : FlowsValue) (i q : ℕ) → q < queue_count v → q < queue_count (after_pick v i)
unfolding after_pick
in_after v i q low = low

-- ---- CoDel's dequeue

-- a dequeue of a queue of items cuts the queue of frames at the same place
pub record IsCut (frames : List FrameValue) (d : Dequeued) : Type 0 where
  pub rest : d.rest ≡ map item_of (drop (suc (length d.dropped)) frames)
  pub dropped : map (λ x. x.id) d.dropped ≡ ids (take (length d.dropped) frames)
  pub given : d.given ≡ option_map item_of (slice_get frames (length d.dropped))

cut_after : (frames : List FrameValue) (n : ℕ) (c : Codel) →
    IsCut frames (dequeued_after (map item_of frames) n c)
cut_after [] zero c = record { rest = refl; dropped = refl; given = refl }
cut_after [] (suc n) c = record { rest = refl; dropped = refl; given = refl }
cut_after (f ∷ fs) zero c = record { rest = refl; dropped = refl; given = refl }
cut_after (f ∷ fs) (suc n) c = let k : IsCut fs (dequeued_after (map item_of fs) n c) = cut_after fs n c in
    record { rest = k.rest; dropped = ap (λ (l : List ℕ). f.id ∷ l) k.dropped; given = k.given }

pub cut_dequeue : (p : Params) (now : ℕ) (c : Codel) (frames : List FrameValue) →
    IsCut frames (dequeue p now c (map item_of frames))
unfolding dequeue
cut_dequeue p now c frames = cut_after frames (drops p now c (map item_of frames))
    (state_after p now c (map item_of frames))

length_is : (o : Option FrameValue) → len_given (option_map item_of o) ≡ length_given o
length_is None = refl
length_is (Some f) = refl

fewer_left : (m : ℕ) (frames : List FrameValue) (id : ℕ) →
    on (ids (drop (suc m) frames)) id ≤ on (ids (drop m frames)) id
fewer_left zero [] id = omega arith
fewer_left (suc m) [] id = omega arith
fewer_left zero (f ∷ fs) id = omega (arith, on-first f.id id (ids fs))
fewer_left (suc m) (f ∷ fs) id = fewer_left m fs id

-- the flow queues agree with the world after a take, and the frame is the world's item
pub record BothGive (after : TakenFromFlows) (world : World_taken) : Type 0 where
  pub stands : FlowsStandFor after.flows world.world
  pub item : world.item ≡ option_map item_of after.frame

module _ (v : FlowsValue) (w : World) (st : FlowsStandFor v w) (s q : ℕ) (low : q < queue_count v) (now : ℕ)
    (p : Params) where
  abbrev cut : Dequeued
  cut = dequeue_at p now v.backlog q

  abbrev frames : List FrameValue
  frames = frames_at v.backlog q

  abbrev count : ℕ
  count = drops_at p now v.backlog q

  -- the queue after it, and the frames that CoDel drops
  abbrev left_queue : Queue → Queue
  left_queue y = record {
    items = cut.rest;
    deficit = y.deficit -ℤ pos (len_given cut.given);
    codel =
        cut.state;
  }

  both_dequeue : BothGive (record {
    flows = with_finished (with_queue v q (drop (suc count) frames) cut.state
        (deficit_at v.rotas.deficits q -ℤ pos (length_given (given_at p now v.backlog q))))
        (v.backlog.finished ++ map (frame_with_fate (Dropped By_codel)) (take count frames));
    frame = given_at p now v.backlog q;
  }) (world_dequeued w q cut)
  unfolding world_dequeued
  both_dequeue =
      let k : IsCut frames cut = cut_dequeue p now (codel_at v.backlog q) frames in
      let split : frames ≡ take count frames ++ drop count frames = sym (take-append-drop count frames) in
      let known : (id : ℕ) → 0 < on (ids (take count frames)) id →
      id < accepted_count w = out_known v (flows_part w) st q low (take count frames) (drop count frames)
      (drop (suc count) frames) split (fewer_left count frames) in
      record {
        stands = subst (Stands _) (sym (part_moved w q left_queue (Dropped By_codel)
            (ids (take count frames)) known) ∙ ap (λ (l : List ℕ).
            flows_part (with_frames_finished (on_queue w q left_queue) (Dropped By_codel) l)) (sym k.dropped))
            (stands_moved v (flows_part w) st q low (take count frames) (drop count frames)
            (drop (suc count) frames) split (fewer_left count frames)
            (All-drop (λ (f : FrameValue). (flows_part w).flows f.id ≡ f.flow) (suc count) frames
            (st.flows q))
            cut.state
            (deficit_at v.rotas.deficits q -ℤ pos (length_given (given_at p now v.backlog q)))
            (left_queue (queue w q)) (Dropped By_codel) k.rest refl
            (λ j h. ap₂ (λ (d : ℤ) (n : ℕ). d -ℤ pos n) (st.deficits j q h)
            (ap len_given k.given ∙ length_is (given_at p now v.backlog q))));
        item = k.given;
      }

  pub accepted_dequeued : accepted_count (world_dequeued w q cut).world ≡ accepted_count w
  unfolding world_dequeued
  accepted_dequeued =
      let k : IsCut frames cut = cut_dequeue p now (codel_at v.backlog q) frames in
      let split : frames ≡ take count frames ++ drop count frames = sym (take-append-drop count frames) in
      let known : (id : ℕ) → 0 < on (ids (take count frames)) id →
      id < accepted_count w = out_known v (flows_part w) st q low (take count frames) (drop count frames)
      (drop (suc count) frames) split (fewer_left count frames) in
      ap (λ (l : List ℕ). accepted_count (with_frames_finished (on_queue w q left_queue)
      (Dropped By_codel) l)) k.dropped
      ∙ ap (λ (x : Part). x.accepted) (part_moved w q left_queue (Dropped By_codel)
      (ids (take count frames)) known)
      ∙ accepted_all (ids (take count frames)) (part_with (flows_part w) q (left_queue (queue w q)))
      (Dropped By_codel)

accepted_taken_from : (v : FlowsValue) (w : World) (s : ℕ) (o : Option ℕ) → FlowsStandFor v w →
    ((q : ℕ) → o ≡ Some q → q < queue_count v) →
    accepted_count (world_taken_from w s o).world ≡ accepted_count w
unfolding world_taken_from
accepted_taken_from v w s None st low = refl
accepted_taken_from v w s (Some q) st low =
    ap (λ (x : Dequeued). accepted_count (world_dequeued w q x).world)
    (ap₂ (dequeue (codel_params w s) w.clock) (st.codels q) (st.items q))
    ∙ accepted_dequeued v w st s q (low q refl) w.clock (codel_params w s)

both_take_from : (v : FlowsValue) (w : World) (s : ℕ) (o : Option ℕ) → FlowsStandFor v w →
    ((q : ℕ) → o ≡ Some q → q < queue_count v) →
    BothGive (taken_from_picked v o w.clock (codel_params w s)) (world_taken_from w s o)
unfolding world_taken_from
both_take_from v w s None st low = record { stands = st; item = refl }
both_take_from v w s (Some q) st low =
    let d : dequeue (codel_params w s) w.clock (queue w q).codel (queue w q).items
    ≡ dequeue_at (codel_params w s) w.clock v.backlog q =
    ap₂ (dequeue (codel_params w s) w.clock) (st.codels q) (st.items q) in
    subst (λ (x : Dequeued). BothGive (taken_from_picked v (Some q) w.clock (codel_params w s))
    (world_dequeued w q x)) (sym d) (both_dequeue v w st s q (low q refl) w.clock (codel_params w s))

-- TID t of station s takes a frame out, by the world's clock and the station's parameters
pub both_take : (v : FlowsValue) (w : World) (s t : ℕ) → FlowsStandFor v w → is_live w s ≡ true →
    s < w.config.stations → t < 8 → BothGive (take_out v (tid_number s t) w.clock (codel_params w s))
    (world_take w s t)
unfolding take_out world_take after_pick
both_take v w s t st live high low_t =
    let stations : v.stations ≡ w.config.stations = ap (λ (x : SettingsValue). x.stations) st.settings in
    let low_s : s < v.stations = omega (arith, high, stations) in
    let i : ℕ = tid_number s t in
    let same : IsSame (pick_of_tid v i) (picked_queue w s t) = same_picked v w st s t low_s low_t in
    let qs : List ℕ = in_order (tid_of w s t).queues in
    let quanta : ℕ → ℕ = (picked_queue w s t).quanta in
    let next : World = after_world w s t in
    let clock : next.clock ≡ w.clock = clock_kept (with_queues_paid w quanta qs) s t
    (picked_queue w s t).lists ∙ clock_paid qs w quanta in
    let rate : (station next s).rate ≡ (station w s).rate =
    rate_kept (with_queues_paid w quanta qs) s t (picked_queue w s t).lists
    ∙ ap (λ (xs : List (Option Station)). (unwrap_or (at None xs s) no_station).rate)
    (stations_paid qs w quanta) in
    let given : codel_params next s ≡ codel_params w s =
    ap (λ (x : Rate). if is_slow x then record { target = 50000; interval = 300000 }
    else record { target = 20000; interval = 100000 }) rate in
    let winner_low : (q : ℕ) → (pick_of_tid v i).winner ≡ Some q →
    q < queue_count v = λ q e. st.below i q (winner_listed (need_at v.rotas)
    (backlog_has_frames v.backlog) (tid_rotation v i) q e) in
    let both : BothGive (taken_from_picked (after_pick v i) (pick_of_tid v i).winner next.clock
    (codel_params next s)) (world_taken_from next s (pick_of_tid v i).winner) =
    both_take_from (after_pick v i) next s (pick_of_tid v i).winner
    (stands_after v w st s t live low_s low_t) winner_low in
    subst (λ (o : Option ℕ). BothGive (taken_from_picked (after_pick v i) (pick_of_tid v i).winner w.clock
    (codel_params w s)) (world_taken_from next s o)) (sym same.winner)
    (subst (λ (c : ℕ). BothGive (taken_from_picked (after_pick v i) (pick_of_tid v i).winner c
    (codel_params w s)) (world_taken_from next s (pick_of_tid v i).winner)) clock
    (subst (λ (x : Params). BothGive (taken_from_picked (after_pick v i)
    (pick_of_tid v i).winner next.clock x) (world_taken_from next s (pick_of_tid v i).winner)) given
    both))

pub stands_take : (v : FlowsValue) (w : World) (s t : ℕ) → FlowsStandFor v w → is_live w s ≡ true →
    s < w.config.stations → t < 8 → FlowsStandFor
    (take_out v (tid_number s t) w.clock (codel_params w s)).flows (world_take w s t).world
stands_take v w s t st live high low = (both_take v w s t st live high low).stands

pub item_take : (v : FlowsValue) (w : World) (s t : ℕ) → FlowsStandFor v w → is_live w s ≡ true →
    s < w.config.stations → t < 8 → (world_take w s t).item
    ≡ option_map item_of (take_out v (tid_number s t) w.clock (codel_params w s)).frame
item_take v w s t st live high low = (both_take v w s t st live high low).item

pub accepted_take : (v : FlowsValue) (w : World) (s t : ℕ) → FlowsStandFor v w → is_live w s ≡ true →
    s < w.config.stations → t < 8 → accepted_count (world_take w s t).world ≡ accepted_count w
unfolding world_take
accepted_take v w s t st live high low_t =
    let low_s : s < v.stations = omega (arith, high, ap (λ (x : SettingsValue). x.stations) st.settings) in
    let i : ℕ = tid_number s t in
    let same : IsSame (pick_of_tid v i) (picked_queue w s t) = same_picked v w st s t low_s low_t in
    accepted_taken_from (after_pick v i) (after_world w s t) s (picked_queue w s t).winner
    (stands_after v w st s t live low_s low_t)
    (λ q e. in_after v i q (st.below i q (winner_listed (need_at v.rotas) (backlog_has_frames v.backlog)
    (tid_rotation v i) q (sym same.winner ∙ e))))
    ∙ ap (λ (x : Part). x.accepted) (part_after v w st s t live low_s low_t)
