-- Proves which TID's frame the limit drops, how many frames a take drops, and that a queued frame is
-- held.
use Rattle.std.proofs.Common.{◌≡◌, refl, ap, ap₂, sym, ◌∙◌, subst, arith, ℕ, suc, ◌+◌, ◌<◌, true, false, ◌&&◌, List, ◌++◌, map, length, get_or, set, take, drop, length-append, length-drop, Option, Some, None, inl, inr}
use Rattle.std.specs.Prelude.{IfSome, nat_le, slice_get, option_map}
use Rattle.std.proofs.lemmas.List.{get_or-set_same, length-map, length-take, set_past}
use Rattle.std.proofs.lemmas.Option.{slice_get_within}
use Rattle.std.proofs.lemmas.Bool.{cases_lt, lt-ltb, cond_both}
use Rattle.wf_frame.specs.declared.classes.Cause.TheVariants.{Codel as By_codel}
use Rattle.wf_frame.specs.declared.classes.Fate.TheVariants.{Dropped}
use Rattle.wf_frame.specs.Frames.{FrameValue}
use Rattle.wf_def_lists.specs.Table.{has}
use Rattle.wf_def_codel.specs.Codel.{Item, Params}
use Rattle.wf_def_lists.specs.Lists.{on}
use Rattle.wf_def_rotation.specs.Rotation.{Rotation, no_keys, has_key, in_order, Picked}
use Rattle.wf_rotation.specs.Rotas.{need_at}
use Rattle.wf_law_rules.proofs.Lemmas.Counts.{on-has, on_order-none}
use Rattle.wf_def_world.specs.World.{World, is_live, queue, codel_params}
use Rattle.wf_def_world.specs.FlowQueues.{frames_queued as world_queued, is_at_limit as world_at_limit, after_limit as world_after_limit, taken_for_tid as world_take}
use Rattle.wf_law_runs.specs.Places.{Queued, KeepsPlaces}
use Rattle.wf_queue_flows.specs.Backlog.{frames_at, item_of, frame_with_fate, drops_at}
use Rattle.wf_frame.specs.Classes.{tid_number}
use Rattle.wf_queue_flows.specs.Flows.{FlowsValue, SettingsValue, tid_rotation, is_listed, backlog_has_frames, frames_waiting, frames_of_tid, longest_queue, flows_at_limit, loses_next, after_limit, pick_of_tid, after_pick, taken_from_picked, taken_for_tid}
use Rattle.wf_queue_flows.proofs.Owners.{on-listed}
use Rattle.wf_queue_flows.proofs.Picks.{on-picked}
use Rattle.wf_queue_flows.proofs.Waiting.{waiting-set, waiting_same}
use Rattle.wf_queue_flows_refines.specs.Standing.{Part, flows_part, ids, Stands, FlowsStandFor}
use Rattle.wf_queue_flows_refines.specs.Frames.{loses_next_in, QueuedAreHeld}
use Rattle.wf_queue_flows_refines.specs.Rest.{Rest}
use Rattle.wf_queue_flows_refines.proofs.Elsewhere.{rest_take}
use Rattle.wf_queue_flows_refines.proofs.Limits.{beside_limit}
use Rattle.wf_queue_flows_refines.proofs.Picking.{winner_listed}
use Rattle.wf_queue_flows_refines.proofs.Purges.{item_ids}
use Rattle.wf_queue_flows_refines.proofs.Takes.{stands_take, item_take}
use Rattle.wf_queue_flows_refines.proofs.Readers.{same_queued, same_total, same_limit, same_longest}

-- ---- a queued frame

pub queued_is_held : (v : FlowsValue) (w : World) → FlowsStandFor v w → KeepsPlaces w → QueuedAreHeld v w
queued_is_held v w st k q id some =
    let same : map (λ (x : Item). x.id) (queue w q).items ≡ ids (frames_at v.backlog q) =
    ap (map (λ (x : Item). x.id)) (st.items q) ∙ item_ids (frames_at v.backlog q) in
    (k.only_held id (Queued q) (ap (λ (l : List ℕ). has l id) same
    ∙ on-has (ids (frames_at v.backlog q)) id some)).1

-- ---- a take

module _ (v : FlowsValue) (p : Part) (st : Stands v p) (i : ℕ) (low : i < length v.rotas.lists) where
  abbrev chosen : Picked
  chosen = pick_of_tid v i

  stays : (q : ℕ) → 0 < length (frames_at v.backlog q) →
      on (in_order chosen.lists) q ≡ on (in_order (tid_rotation v i)) q
  stays q some = on-picked (need_at v.rotas) (backlog_has_frames v.backlog) (tid_rotation v i) q
      (lt-ltb 0 (length (frames_at v.backlog q)) some)

  -- the frames that are left in the queue that was picked
  left_in : (q n : ℕ) → chosen.winner ≡ Some q → n < length (frames_at v.backlog q)
      → frames_waiting (set v.backlog.queues q (drop (suc n) (frames_at v.backlog q)))
      (in_order chosen.lists) + n + 1 ≡ frames_of_tid v i
  left_in q n won more =
      let listed : is_listed v i q ≡ true = winner_listed (need_at v.rotas) (backlog_has_frames v.backlog)
      (tid_rotation v i) q won in
      let one : on (in_order chosen.lists) q ≡ 1 = omega
      (arith, stays q (omega (arith, more)), st.once i q, on-listed v i q listed) in
      let all : frames_waiting v.backlog.queues (in_order chosen.lists) ≡ frames_of_tid v i =
      waiting_same v.backlog.queues (in_order chosen.lists) (in_order (tid_rotation v i)) stays in
      let changed = rw one at (waiting-set v.backlog.queues q (drop (suc n) (frames_at v.backlog q))
      (in_order chosen.lists) (omega (arith, st.below i q listed, st.sized.queues))) in
      omega (arith, changed, all, more, length-drop (suc n) (frames_at v.backlog q))

  pub drops_counted : (now : ℕ) (params : Params) →
      IfSome (taken_for_tid v i now params).frame
      (λ f. length (taken_for_tid v i now params).flows.backlog.finished + frames_of_tid
      (taken_for_tid v i now params).flows i + 1 ≡ length v.backlog.finished + frames_of_tid v i)
  unfolding taken_for_tid after_pick
  drops_counted now params = from chosen.winner refl
    where
      from : (o : Option ℕ) → chosen.winner ≡ o
          → IfSome (taken_from_picked (after_pick v i) o now params).frame
          (λ f. length (taken_from_picked (after_pick v i) o now params).flows.backlog.finished +
          frames_of_tid (taken_from_picked (after_pick v i) o now params).flows i + 1
          ≡ length v.backlog.finished + frames_of_tid v i)
      from None won = tt
      from (Some q) won = given (slice_get (frames_at v.backlog q) n) refl
        where
          n : ℕ
          n = drops_at params now v.backlog q

          out : List FrameValue
          out = map (frame_with_fate (Dropped By_codel)) (take n (frames_at v.backlog q))

          given : (g : Option FrameValue) → slice_get (frames_at v.backlog q) n ≡ g
              → IfSome g (λ f. length (v.backlog.finished ++ out) + frames_waiting
              (set v.backlog.queues q (drop (suc n) (frames_at v.backlog q)))
              (in_order (get_or (set v.rotas.lists i chosen.lists) i no_keys)) + 1
              ≡ length v.backlog.finished + frames_of_tid v i)
          given None is = tt
          given (Some f) is =
              let more : n < length (frames_at v.backlog q) =
              slice_get_within (frames_at v.backlog q) n f is in
              let finished : length (v.backlog.finished ++ out) ≡ length v.backlog.finished + n =
              omega (
                arith,
                more,
                length-append v.backlog.finished out,
                length-map (take n (frames_at v.backlog q)) (frame_with_fate (Dropped By_codel)),
                length-take n (frames_at v.backlog q),
              )
              in
              let lists : get_or (set v.rotas.lists i chosen.lists) i no_keys ≡ chosen.lists =
              get_or-set_same v.rotas.lists i chosen.lists no_keys low in
              let rest = ap (λ (r : Rotation). frames_waiting
              (set v.backlog.queues q (drop (suc n) (frames_at v.backlog q))) (in_order r)) lists in
              omega (arith, finished, rest, left_in q n won more)

-- ---- the limit

pub same_loses : (v : FlowsValue) (w : World) (s t : ℕ) → FlowsStandFor v w → s < v.stations → t < 8 →
    loses_next v s t ≡ loses_next_in w s t
same_loses v w s t st low_s low_t =
    ap₂ (λ (a b : ℕ). nat_le b a && has_key (tid_rotation v (tid_number s t)) (longest_queue v.backlog))
    (same_total v w st) (same_limit v w st)
    ∙ ap₂ (λ (q : ℕ) (r : Rotation). world_at_limit w && has_key r q) (same_longest v w st)
    (sym (st.lists s t low_s low_t))

pub others_keep : (v : FlowsValue) (s t : ℕ) → loses_next v s t ≡ false →
    frames_of_tid (after_limit v) (tid_number s t) ≡ frames_of_tid v (tid_number s t)
unfolding after_limit
others_keep v s t spared = cond_both (flows_at_limit v) _ v
    (λ (z : FlowsValue). frames_of_tid z i ≡ frames_of_tid v i) at_limit (λ e. refl)
  where
    i : ℕ
    i = tid_number s t

    q : ℕ
    q = longest_queue v.backlog

    left : List FrameValue
    left = drop 1 (frames_at v.backlog q)

    at_limit : flows_at_limit v ≡ true → frames_waiting (set v.backlog.queues q left)
        (in_order (tid_rotation v i)) ≡ frames_of_tid v i
    at_limit e =
        let unlisted : is_listed v i q ≡ false = rw e at spared in
        let none : on (in_order (tid_rotation v i)) q ≡ 0 = on_order-none (tid_rotation v i) q unlisted in
        elim (cases_lt q (length v.backlog.queues)) [
          | inl low ↦ omega (
            arith,
            rw none at (waiting-set v.backlog.queues q left
                (in_order (tid_rotation v i)) low),
          )
          | inr past ↦ ap (λ (all : List (List FrameValue)). frames_waiting all (in_order (tid_rotation v i)))
              (set_past v.backlog.queues q left past)
        ]

pub others_keep_in : (v : FlowsValue) (w : World) (s t : ℕ) → FlowsStandFor v w → s < v.stations → t < 8 →
    loses_next_in w s t ≡ false → world_queued (world_after_limit w) s t ≡ world_queued w s t
others_keep_in v w s t st low_s low_t spared =
    let after = beside_limit v w st in
    let stations : (after_limit v).stations ≡ v.stations =
    ap (λ (x : SettingsValue). x.stations) after.stands.settings ∙ after.stations
    ∙ sym (ap (λ (x : SettingsValue). x.stations) st.settings) in
    sym (same_queued (after_limit v) (world_after_limit w) s t after.stands
    (omega (arith, low_s, stations)) low_t) ∙ others_keep v s t
    (same_loses v w s t st low_s low_t ∙ spared) ∙ same_queued v w s t st low_s low_t

pub drops_counted_in : (v : FlowsValue) (w : World) (s t : ℕ) → FlowsStandFor v w → is_live w s ≡ true →
    s < w.config.stations → t < 8
    → IfSome (world_take w s t).item (λ y. length (world_take w s t).world.finished + world_queued
    (world_take w s t).world s t + 1 ≡ length w.finished + world_queued w s t)
drops_counted_in v w s t st live high low_t =
    subst (λ (o : Option Item). IfSome o (λ y. length (world_take w s t).world.finished + world_queued
    (world_take w s t).world s t + 1 ≡ length w.finished + world_queued w s t))
    (sym (item_take v w s t st live high low_t))
    (same_of (taken_for_tid v i w.clock (codel_params w s)).frame
    (drops_counted v (flows_part w) st i (omega (arith, low_s, low_t, st.sized.lists)) w.clock
    (codel_params w s)))
  where
    i : ℕ
    i = tid_number s t

    low_s : s < v.stations
    low_s = omega (arith, high, ap (λ (x : SettingsValue). x.stations) st.settings)

    u : FlowsValue
    u = (taken_for_tid v i w.clock (codel_params w s)).flows

    after : FlowsStandFor u (world_take w s t).world
    after = stands_take v w s t st live high low_t

    same_of : (o : Option FrameValue) → IfSome o (λ f. length u.backlog.finished + frames_of_tid u i + 1
        ≡ length v.backlog.finished + frames_of_tid v i)
        → IfSome (option_map item_of o) (λ y. length (world_take w s t).world.finished + world_queued
        (world_take w s t).world s t + 1 ≡ length w.finished + world_queued w s t)
    same_of None h = tt
    same_of (Some f) h =
        let stays : (world_take w s t).world.config.stations ≡ w.config.stations =
        ap (λ (r : Rest). r.config.stations) (rest_take w s t) in
        let low : s < u.stations = omega (
          arith,
          high,
          stays,
          ap (λ (x : SettingsValue). x.stations) after.settings,
        ) in
        omega (
          arith,
          h,
          same_queued v w s t st low_s low_t,
          same_queued u (world_take w s t).world s t after low low_t,
          ap (length {A = ℕ}) st.finished,
          length-map v.backlog.finished (λ f. f.id),
          ap (length {A = ℕ}) after.finished,
          length-map u.backlog.finished (λ f. f.id),
        )
