-- Proves that flow queues and world still agree after the frames of a TID are dropped because its station
-- leaves.
use Rattle.std.proofs.Common.{◌≡◌, refl, ap, sym, ◌∙◌, subst, arith, ℕ, ◌<◌, true, List, [], ◌∷◌, ◌++◌, map, Option, None, is_some, unwrap_or}
use Rattle.std.specs.Prelude.{ℤ, pos}
use Rattle.std.proofs.lemmas.List.Elements.{All-nil}
use Rattle.std.proofs.lemmas.List.{append-nil, set-get_or, get_or-set_same, get_or-set_other}
use Rattle.wf_frame.specs.declared.classes.Cause.{Cause}
use Rattle.wf_frame.specs.declared.classes.Cause.TheVariants.{Left}
use Rattle.wf_frame.specs.declared.classes.Fate.{Fate}
use Rattle.wf_frame.specs.declared.classes.Fate.TheVariants.{Dropped}
use Rattle.wf_frame.specs.Frames.{FrameValue}
use Rattle.wf_def_lists.specs.Table.{at, has, upto}
use Rattle.wf_def_codel.specs.Codel.{Item, Codel, renewed}
use Rattle.wf_def_rotation.specs.Rotation.{Rotation, no_keys, has_key, in_order}
use Rattle.wf_def_lists.specs.Lists.{on}
use Rattle.wf_rotation.specs.Rotas.{deficit_at}
use Rattle.wf_law_rules.proofs.Lemmas.Counts.{on-nil}
use Rattle.wf_law_rules.proofs.Lemmas.Members.{has_head, has_tail, has_filter}
use Rattle.wf_def_world.specs.World.{World, Station, Queue, with_station, on_station, on_tid, no_station, no_tid, is_live, queue, tid_of, session, accepted_count, on_queue, with_queues, with_fate, with_frame_finished, with_frames_finished}
use Rattle.wf_def_world.specs.FlowQueues.{after_queues_left}
use Rattle.wf_def_world.specs.Step.{waiting_ids, in_rising_order, after_tid_left}
use Rattle.wf_queue_flows.specs.Backlog.{frames_at, item_of, codel_at, frame_with_fate, after_emptying}
use Rattle.wf_frame.specs.Classes.{tid_number}
use Rattle.wf_queue_flows.specs.Flows.{FlowsValue, SettingsValue, queues as queue_count, tid_rotation, queues_of, all_emptied, after_purge}
use Rattle.wf_queue_flows_refines.specs.Standing.{Part, flows_part, ids, with_finished, queue_emptied, queues_emptied, Stands, FlowsStandFor}
use Rattle.wf_queue_flows_refines.proofs.Parts.{all_finished, accepted_all, part_with_queues}
use Rattle.wf_queue_flows_refines.proofs.Changes.{with_queue, part_with, out_known, stands_moved, part_moved, stands_list}
use Rattle.wf_queue_flows_refines.proofs.Emptied.{queues_left}
use Rattle.wf_queue_flows_refines.proofs.Readers.{count_below}
use Rattle.wf_queue_flows_refines.proofs.Rising.{rising_listed}

-- ---- one queue

pub item_ids : (frames : List FrameValue) → map (λ (x : Item). x.id) (map item_of frames) ≡ ids frames
item_ids [] = refl
item_ids (f ∷ fs) = ap (λ (l : List ℕ). f.id ∷ l) (item_ids fs)

module _ (cause : Cause) (codel : Codel → Codel) where
  abbrev pub change : Queue → Queue
  change y = record y { items = []; codel = codel y.codel }

  pub stands_emptied : (v : FlowsValue) (w : World) (q : ℕ) → FlowsStandFor v w → q < queue_count v →
      FlowsStandFor (record v { backlog = after_emptying cause codel v.backlog q })
      (queue_emptied cause codel w q)
  unfolding queue_emptied
  stands_emptied v w q st low =
      let frames : List FrameValue = frames_at v.backlog q in
      let d : ℤ = deficit_at v.rotas.deficits q in
      let after : Codel = codel (codel_at v.backlog q) in
      let split : frames ≡ frames ++ [] = sym (append-nil frames) in
      let known : (id : ℕ) → 0 < on (ids frames) id →
      id < accepted_count w = out_known v (flows_part w) st q low frames [] [] split (λ id. omega arith) in
      let moved : Stands (with_finished (with_queue v q [] after d)
      (v.backlog.finished ++ map (frame_with_fate (Dropped cause)) frames))
      (all_finished (part_with (flows_part w) q (change (queue w q))) (Dropped cause) (ids frames)) =
      stands_moved v (flows_part w) st q low frames [] [] split (λ id. omega arith)
      (All-nil (λ (f : FrameValue). (flows_part w).flows f.id ≡ f.flow)) after d
      (change (queue w q)) (Dropped cause) refl (ap codel (st.codels q)) (λ i h. st.deficits i q h) in
      subst (λ (ds : List ℤ). Stands (record v {
        backlog = after_emptying cause codel v.backlog q;
        rotas =
            record v.rotas { deficits = ds };
      }) (flows_part
      (with_frames_finished (on_queue w q change) (Dropped cause) (map (λ x. x.id) (queue w q).items))))
      (set-get_or v.rotas.deficits q (pos 0))
      (subst (λ (p : Part). Stands (with_finished (with_queue v q [] after d)
      (v.backlog.finished ++ map (frame_with_fate (Dropped cause)) frames)) p)
      (sym (part_moved w q change (Dropped cause) (ids frames) known)
      ∙ ap (λ (l : List ℕ). flows_part (with_frames_finished (on_queue w q change) (Dropped cause) l))
      (sym (ap (map (λ (x : Item). x.id)) (st.items q) ∙ item_ids frames)))
      moved)

  accepted_emptied_queue : (v : FlowsValue) (w : World) (q : ℕ) → FlowsStandFor v w → q < queue_count v →
      accepted_count (queue_emptied cause codel w q) ≡ accepted_count w
  unfolding queue_emptied
  accepted_emptied_queue v w q st low =
      let frames : List FrameValue = frames_at v.backlog q in
      let known : (id : ℕ) → 0 < on (ids frames) id →
      id < accepted_count w = out_known v (flows_part w) st q low frames [] [] (sym (append-nil frames))
      (λ id. omega arith) in
      ap (λ (l : List ℕ). accepted_count (with_frames_finished (on_queue w q change) (Dropped cause) l))
      (ap (map (λ (x : Item). x.id)) (st.items q) ∙ item_ids frames)
      ∙ ap (λ (x : Part). x.accepted) (part_moved w q change (Dropped cause) (ids frames) known)
      ∙ accepted_all (ids frames) (part_with (flows_part w) q (change (queue w q))) (Dropped cause)

  -- ---- all queues of a TID

  pub stands_emptied_all : (qs : List ℕ) (v : FlowsValue) (w : World) → FlowsStandFor v w →
      ((q : ℕ) → has qs q ≡ true → q < queue_count v) →
      FlowsStandFor (record v { backlog = all_emptied cause codel v.backlog qs })
      (queues_emptied cause codel w qs)
  unfolding all_emptied queues_emptied
  stands_emptied_all [] v w st low = st
  stands_emptied_all (q ∷ qs) v w st low =
      stands_emptied_all qs (record v { backlog = after_emptying cause codel v.backlog q })
      (queue_emptied cause codel w q)
      (stands_emptied v w q st (low q (has_head q qs))) (λ k h. low k (has_tail q qs k h))

  pub accepted_emptied : (qs : List ℕ) (v : FlowsValue) (w : World) → FlowsStandFor v w →
      ((q : ℕ) → has qs q ≡ true → q < queue_count v) →
      accepted_count (queues_emptied cause codel w qs) ≡ accepted_count w
  unfolding queues_emptied
  accepted_emptied [] v w st low = refl
  accepted_emptied (q ∷ qs) v w st low =
      accepted_emptied qs (record v { backlog = after_emptying cause codel v.backlog q })
      (queue_emptied cause codel w q)
      (stands_emptied v w q st (low q (has_head q qs))) (λ k h. low k (has_tail q qs k h))
      ∙ accepted_emptied_queue v w q st (low q (has_head q qs))

-- the queues that a TID lists exist
pub listed_low : (v : FlowsValue) (i q : ℕ) → has (queues_of v i) q ≡ true → q < queue_count v
listed_low v i q h = omega (
  arith,
  count_below (queue_count v) 0 q
      (has_filter (has_key (tid_rotation v i)) (upto (queue_count v)) q h),
)

-- the world's TID lists the same queues
pub listed_same : (v : FlowsValue) (w : World) (s t : ℕ) → FlowsStandFor v w → s < v.stations → t < 8 →
    in_rising_order (in_order (tid_of w s t).queues) ≡ queues_of v (tid_number s t)
listed_same v w s t st low_s low_t =
    ap (λ (r : Rotation). in_rising_order (in_order r)) (st.lists s t low_s low_t)
    ∙ rising_listed (tid_rotation v (tid_number s t)) (queue_count v) (st.below (tid_number s t))

pub stations_finish_all : (l : List ℕ) (w : World) (fate : Fate) →
    (with_frames_finished w fate l).stations ≡ w.stations
unfolding with_frames_finished with_frame_finished with_fate
stations_finish_all [] w fate = refl
stations_finish_all (id ∷ l) w fate = stations_finish_all l (with_frame_finished w fate id) fate

pub stations_config : (l : List ℕ) (w : World) (fate : Fate) →
    (with_frames_finished w fate l).config.stations ≡ w.config.stations
unfolding with_frames_finished with_frame_finished with_fate
stations_config [] w fate = refl
stations_config (id ∷ l) w fate = stations_config l (with_frame_finished w fate id) fate

stations_emptied : (cause : Cause) (codel : Codel → Codel) (qs : List ℕ) (w : World) →
    (queues_emptied cause codel w qs).stations ≡ w.stations
unfolding queues_emptied queue_emptied on_queue
stations_emptied cause codel [] w = refl
stations_emptied cause codel (q ∷ qs) w = stations_emptied cause codel qs (queue_emptied cause codel w q)
    ∙ stations_finish_all (map (λ x. x.id) (queue w q).items)
    (on_queue w q (change cause codel)) (Dropped cause)

stations_purged : (qs : List ℕ) (w : World) → (after_queues_left w qs).stations ≡ w.stations
stations_purged qs w = ap (λ (x : World). x.stations) (sym (queues_left qs w))
    ∙ stations_emptied Left renewed qs w

pub stands_purged : (v : FlowsValue) (w : World) (s t : ℕ) → FlowsStandFor v w → is_live w s ≡ true →
    s < w.config.stations → t < 8
    → FlowsStandFor (after_purge v (tid_number s t))
    (with_queues (after_queues_left w (in_rising_order (in_order (tid_of w s t).queues))) s t no_keys)
unfolding after_purge
stands_purged v w s t st live high low_t =
    let low_s : s < v.stations = omega (arith, high, ap (λ (x : SettingsValue). x.stations) st.settings) in
    let i : ℕ = tid_number s t in
    let qs : List ℕ = queues_of v i in
    let same : in_rising_order (in_order (tid_of w s t).queues) ≡ qs =
    listed_same v w s t st low_s low_t in
    let u : FlowsValue = record v { backlog = all_emptied Left renewed v.backlog qs } in
    let w' : World = after_queues_left w qs in
    let all_left : FlowsStandFor u w' = subst (FlowsStandFor u) (queues_left qs w)
    (stands_emptied_all Left renewed qs v w st (listed_low v i)) in
    let live' : is_live w' s ≡ true = ap (λ (xs : List (Option Station)). is_some (at None xs s))
    (stations_purged qs w) ∙ live in
    subst (λ (l : List ℕ). FlowsStandFor (after_purge v i) (with_queues (after_queues_left w l) s t no_keys))
    (sym same)
    (subst (Stands (after_purge v i)) (sym (part_with_queues w' s t no_keys live'))
    (stands_list u (flows_part w') s t no_keys all_left low_s low_t (λ q. omega (arith, on-nil q))
    (λ q h. absurd (cc h)) (λ q h. absurd (cc h))))

-- if v agrees with the world after the waiting frames of the session are finished, then the purged v
-- agrees with the world after the TID has left
pub stands_left : (v : FlowsValue) (w : World) (s t : ℕ) →
    FlowsStandFor v (with_frames_finished w (Dropped Left) (waiting_ids (session w s t).slots)) →
    is_live w s ≡ true → s < w.config.stations → t < 8
    → FlowsStandFor (after_purge v (tid_number s t)) (after_tid_left w s t)
unfolding after_tid_left
stands_left v w s t st live high low_t =
    let w' : World = with_frames_finished w (Dropped Left) (waiting_ids (session w s t).slots) in
    let same : w'.stations ≡ w.stations = stations_finish_all (waiting_ids (session w s t).slots) w
    (Dropped Left) in
    let config : w'.config.stations ≡ w.config.stations =
    stations_config (waiting_ids (session w s t).slots) w (Dropped Left) in
    subst (λ (xs : List (Option Station)). FlowsStandFor (after_purge v (tid_number s t))
    (with_queues (after_queues_left w' (in_rising_order
    (in_order (at no_tid (unwrap_or (at None xs s) no_station).tids t).queues))) s t no_keys)) same
    (stands_purged v w' s t st (ap (λ (xs : List (Option Station)). is_some (at None xs s)) same ∙ live)
    (omega (arith, high, config)) low_t)

accepted_with_queues : (w : World) (s t : ℕ) (r : Rotation) →
    accepted_count (with_queues w s t r) ≡ accepted_count w
unfolding with_queues on_tid on_station with_station
accepted_with_queues w s t r = refl

pub accepted_left : (v : FlowsValue) (w : World) (s t : ℕ) →
    FlowsStandFor v (with_frames_finished w (Dropped Left) (waiting_ids (session w s t).slots)) →
    s < v.stations → t < 8
    → accepted_count (after_tid_left w s t) ≡ accepted_count
    (with_frames_finished w (Dropped Left) (waiting_ids (session w s t).slots))
unfolding after_tid_left
accepted_left v w s t st low_s low_t =
    let w' : World = with_frames_finished w (Dropped Left) (waiting_ids (session w s t).slots) in
    let same : w'.stations ≡ w.stations = stations_finish_all (waiting_ids (session w s t).slots) w
    (Dropped Left) in
    let i : ℕ = tid_number s t in
    let own : (tid_of w s t).queues ≡ tid_rotation v i =
    ap (λ (xs : List (Option Station)). (at no_tid (unwrap_or (at None xs s) no_station).tids t).queues)
    (sym same) ∙ st.lists s t low_s low_t in
    accepted_with_queues (after_queues_left w' (in_rising_order (in_order (tid_of w s t).queues))) s t no_keys
    ∙ ap (λ (l : List ℕ). accepted_count (after_queues_left w' l))
    (ap (λ (r : Rotation). in_rising_order (in_order r)) own
    ∙ rising_listed (tid_rotation v i) (queue_count v) (st.below i))
    ∙ ap accepted_count (sym (queues_left (queues_of v i) w'))
    ∙ accepted_emptied Left renewed (queues_of v i) v w' st (listed_low v i)

-- a purge empties the lists of the TID and does not change those of other TIDs
pub purged_lists : (v : FlowsValue) (w : World) (s t : ℕ) → FlowsStandFor v w → s < v.stations → t < 8 →
    tid_rotation (after_purge v (tid_number s t)) (tid_number s t) ≡ no_keys
unfolding after_purge
purged_lists v w s t st low_s low_t = get_or-set_same v.rotas.lists (tid_number s t) no_keys no_keys
    (omega (arith, low_s, low_t, st.sized.lists))

pub purged_others : (v : FlowsValue) (i j : ℕ) → (j ≡ i → ⊥) →
    tid_rotation (after_purge v i) j ≡ tid_rotation v j
unfolding after_purge
purged_others v i j other = get_or-set_other v.rotas.lists i j no_keys no_keys other
