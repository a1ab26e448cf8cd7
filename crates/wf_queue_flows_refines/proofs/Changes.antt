-- Proves that flow queues and world still agree after a change of one queue, or of the lists of one TID.
use Rattle.std.proofs.Common.{◌≡◌, ap, ap₂, sym, ◌∙◌, subst, arith, ℕ, zero, suc, ◌+◌, ◌<◌, ◌≤◌, true, List, [], ◌++◌, map, length, get_or, set, length-set, inl, inr, ◌⊎◌}
use Rattle.std.specs.Prelude.{ℤ, pos, All}
use Rattle.std.proofs.lemmas.List.{get_or-set_same, get_or-set_other}
use Rattle.std.proofs.lemmas.List.Sums.{sum_by-set}
use Rattle.std.proofs.lemmas.Bool.{cases_eq}
use Rattle.wf_frame.specs.declared.classes.Fate.{Fate}
use Rattle.wf_frame.specs.Frames.{FrameValue}
use Rattle.wf_def_codel.specs.Codel.{Codel, new_codel}
use Rattle.wf_def_rotation.specs.Rotation.{Rotation, no_keys, has_key, in_order}
use Rattle.wf_def_lists.specs.Lists.{on}
use Rattle.wf_rotation.specs.Rotas.{deficit_at}
use Rattle.wf_law_rules.proofs.Lemmas.Counts.{on-nil}
use Rattle.wf_def_world.specs.World.{World, Queue, queue, accepted_count, on_queue, with_frames_finished}
use Rattle.wf_queue_flows.specs.Backlog.{BacklogValue, frames_at, item_of, frame_with_fate}
use Rattle.wf_frame.specs.Classes.{tid_number}
use Rattle.wf_queue_flows.specs.Flows.{FlowsValue, queues as queue_count, tid_rotation}
use Rattle.wf_law_runs.proofs.Deficits.Books.{upd, upd_same, upd_other}
use Rattle.wf_queue_flows_refines.specs.Standing.{Part, flows_part, ids, with_finished, times_held, Stands}
use Rattle.wf_queue_flows_refines.proofs.Parts.{all_finished, part_on_queue, part_finish_all}
use Rattle.wf_queue_flows_refines.proofs.Ends.{on_ids-append, stands_finish_all}

-- ---- one entry of a list

-- a property of a function and a list at each number holds after both are changed at the same number
pub each_changed : {X Y : Type 0} (P : ℕ → X → Y → Type 0) (f : ℕ → X) (xs : List Y) (d : Y) (k : ℕ) (x : X)
    (y : Y) → k < length xs → ((i : ℕ) → P i (f i) (get_or xs i d)) → P k x y → (i : ℕ) →
    P i (upd f k x i) (get_or (set xs k y) i d)
each_changed P f xs d k x y low h here i = elim (cases_eq i k) [
  | inl e ↦ subst (λ (n : ℕ). P n (upd f k x n) (get_or (set xs k y) n d)) (sym e)
      (subst (λ z. P k z (get_or (set xs k y) k d)) (sym (upd_same f k x))
      (subst (λ z. P k x z) (sym (get_or-set_same xs k y d low)) here))
  | inr other ↦ subst (λ z. P i z (get_or (set xs k y) i d)) (sym (upd_other f k i x other))
      (subst (λ z. P i (f i) z) (sym (get_or-set_other xs k i y d other)) (h i))
]

-- a property of a list at each place holds after one entry is changed
pub each_set : {Y : Type 0} (P : ℕ → Y → Type 0) (xs : List Y) (d : Y) (k : ℕ) (y : Y) → k < length xs →
    ((i : ℕ) → P i (get_or xs i d)) → P k y → (i : ℕ) → P i (get_or (set xs k y) i d)
each_set P xs d k y low h here i = elim (cases_eq i k) [
  | inl e ↦ subst (λ (n : ℕ). P n (get_or (set xs k y) n d)) (sym e)
      (subst (λ z. P k z) (sym (get_or-set_same xs k y d low)) here)
  | inr other ↦ subst (λ z. P i z) (sym (get_or-set_other xs k i y d other)) (h i)
]

-- ---- one queue

-- the queue gets these frames, this CoDel state and this deficit
abbrev pub with_queue : FlowsValue → ℕ → List FrameValue → Codel → ℤ → FlowsValue
with_queue v q frames c d = record v {
  backlog = record v.backlog { queues = set v.backlog.queues q frames; codels = set v.backlog.codels q c };
  rotas = record v.rotas { deficits = set v.rotas.deficits q d };
}

abbrev pub part_with : Part → ℕ → Queue → Part
part_with p q y = record p { queues = upd p.queues q y }

pub times_set : (b : BacklogValue) (q : ℕ) (frames : List FrameValue) (id : ℕ) → q < length b.queues →
    times_held (record b { queues = set b.queues q frames }) id + on (ids (frames_at b q)) id
    ≡ times_held b id + on (ids frames) id
times_set b q frames id low = omega (
  arith,
  sum_by-set
      (λ (fs : List FrameValue). on (ids fs) id) b.queues q frames [] low,
)

-- an id is queued or finished at least as often as it is in one queue
pub times_at : (b : BacklogValue) (q : ℕ) (id : ℕ) → q < length b.queues →
    on (ids (frames_at b q)) id ≤ times_held b id
times_at b q id low = omega (arith, times_set b q [] id low, on-nil id)

pub stands_queue : (v : FlowsValue) (p : Part) (q : ℕ) (frames : List FrameValue) (c : Codel) (d : ℤ)
    (y : Queue) → Stands v p → q < queue_count v → y.items ≡ map item_of frames → y.codel ≡ c
    → All (λ f. p.flows f.id ≡ f.flow) frames → ((i : ℕ) → has_key (tid_rotation v i) q ≡ true →
    y.deficit ≡ d) →
    ((id : ℕ) → 0 < on (ids frames) id → id < p.accepted)
    → ((id : ℕ) → times_held v.backlog id + on (ids frames) id ≤ 1 + on (ids (frames_at v.backlog q)) id) →
    Stands (with_queue v q frames c d) (part_with p q y)
stands_queue v p q frames c d y st low items codel flows deficit known once = record {
  sized = record {
    lists = st.sized.lists;
    deficits = length-set v.rotas.deficits q d ∙ st.sized.deficits;
    queues = length-set v.backlog.queues q frames ∙ st.sized.queues;
    codels = length-set v.backlog.codels q c ∙ st.sized.codels;
    some_flows = st.sized.some_flows;
    quanta = st.sized.quanta;
  };
  settings = st.settings;
  items = each_changed (λ (k : ℕ) (x : Queue) (fs : List FrameValue). x.items ≡ map item_of fs) p.queues
      v.backlog.queues [] q y frames low_queue st.items items;
  codels = each_changed (λ (k : ℕ) (x : Queue) (z : Codel). x.codel ≡ z) p.queues v.backlog.codels new_codel q
      y c (omega (arith, low, st.sized.codels)) st.codels codel;
  lists = st.lists;
  once = st.once;
  below = st.below;
  deficits = λ i. each_changed (λ (k : ℕ) (x : Queue) (z : ℤ). has_key (tid_rotation v i) k ≡ true →
      x.deficit ≡ z) p.queues v.rotas.deficits (pos 0) q y d (omega (arith, low, st.sized.deficits))
      (st.deficits i) (deficit i);
  finished = st.finished;
  fates = st.fates;
  accepted = λ id h. elim (some_of (on (ids frames) id) (times_held v.backlog id)
      (omega (arith, h, times_set v.backlog q frames id low_queue))) [
        | inl here ↦ known id here
        | inr there ↦ st.accepted id there
      ];
  held_once = λ id. omega (arith, once id, times_set v.backlog q frames id low_queue);
  flows = each_set (λ (k : ℕ) (fs : List FrameValue). All (λ (f : FrameValue). p.flows f.id ≡ f.flow) fs)
      v.backlog.queues [] q frames low_queue st.flows flows;
}
  where
    low_queue : q < length v.backlog.queues
    low_queue = omega (arith, low, st.sized.queues)

    some_of : (a b : ℕ) → 0 < b + a → (0 < a) ⊎ (0 < b)
    some_of zero b h = inr (omega (arith, h))
    some_of (suc a) b h = inl (omega arith)

-- The first frames of a queue are finished, and some of the others are left.
module _ (v : FlowsValue) (p : Part) (st : Stands v p) (q : ℕ) (low : q < queue_count v)
    (out rest left : List FrameValue) (split : frames_at v.backlog q ≡ out ++ rest)
    (fewer : (id : ℕ) → on (ids left) id ≤ on (ids rest) id) where
  low_all : q < length v.backlog.queues
  low_all = omega (arith, low, st.sized.queues)

  both_parts : (id : ℕ) → on (ids (frames_at v.backlog q)) id ≡ on (ids out) id + on (ids rest) id
  both_parts id = ap (λ (l : List FrameValue). on (ids l) id) split ∙ on_ids-append out rest id

  -- all of them were accepted
  pub out_known : (id : ℕ) → 0 < on (ids out) id → id < p.accepted
  out_known id h = st.accepted id (omega (arith, h, both_parts id, times_at v.backlog q id low_all))

  pub stands_moved : All (λ f. p.flows f.id ≡ f.flow) left → (c : Codel) (d : ℤ) (y : Queue) (fate : Fate) →
      y.items ≡ map item_of left →
      y.codel ≡ c → ((i : ℕ) → has_key (tid_rotation v i) q ≡ true → y.deficit ≡ d)
      → Stands (with_finished (with_queue v q left c d)
      (v.backlog.finished ++ map (frame_with_fate fate) out))
      (all_finished (part_with p q y) fate (ids out))
  stands_moved kept c d y fate items codel deficit =
      stands_finish_all out (with_queue v q left c d) (part_with p q y) fate
      (stands_queue v p q left c d y st low items codel kept deficit
      (λ id h. st.accepted id (omega (arith, h, fewer id, both_parts id, times_at v.backlog q id low_all)))
      (λ id. omega (arith, fewer id, both_parts id, st.held_once id)))
      out_known
      (λ id. omega (arith, fewer id, both_parts id, st.held_once id, times_set v.backlog q left id low_all))

-- the same change of a world
pub part_moved : (w : World) (q : ℕ) (f : Queue → Queue) (fate : Fate) (out : List ℕ) →
    ((id : ℕ) → 0 < on out id → id < accepted_count w) →
    flows_part (with_frames_finished (on_queue w q f) fate out)
    ≡ all_finished (part_with (flows_part w) q (f (queue w q))) fate out
part_moved w q f fate out known =
    let one : flows_part (on_queue w q f) ≡ part_with (flows_part w) q (f (queue w q)) =
    part_on_queue w q f in
    let as_many : accepted_count (on_queue w q f) ≡ accepted_count w = ap (λ (x : Part). x.accepted) one in
    part_finish_all out (on_queue w q f) fate (λ id h. omega (arith, as_many, known id h))
    ∙ ap (λ (x : Part). all_finished x fate out) one

-- ---- the lists of one TID

abbrev pub with_list : FlowsValue → ℕ → Rotation → FlowsValue
with_list v i r = record v { rotas = record v.rotas { lists = set v.rotas.lists i r } }

abbrev pub part_with_list : Part → ℕ → ℕ → Rotation → Part
part_with_list p s t r = record p { lists = upd p.lists s (upd (p.lists s) t r) }

pub stands_list : (v : FlowsValue) (p : Part) (s t : ℕ) (r : Rotation) → Stands v p → s < v.stations → t < 8 →
    ((q : ℕ) → on (in_order r) q ≤ 1)
    → ((q : ℕ) → has_key r q ≡ true → q < queue_count v) →
    ((q : ℕ) → has_key r q ≡ true → (p.queues q).deficit ≡ deficit_at v.rotas.deficits q) →
    Stands (with_list v (tid_number s t) r) (part_with_list p s t r)
stands_list v p s t r st low_s low_t once below deficits = record {
  sized = record {
    lists = length-set v.rotas.lists (tid_number s t) r ∙ st.sized.lists;
    deficits = st.sized.deficits;
    queues = st.sized.queues;
    codels = st.sized.codels;
    some_flows = st.sized.some_flows;
    quanta = st.sized.quanta;
  };
  settings = st.settings;
  items = st.items;
  codels = st.codels;
  lists = λ a b low_a low_b. elim (cases_eq a s) [
    | inl ea ↦ elim (cases_eq b t) [
      | inl eb ↦ ap₂ (upd p.lists s (upd (p.lists s) t r)) ea eb
          ∙ ap (λ (f : ℕ → Rotation). f t) (upd_same p.lists s (upd (p.lists s) t r))
          ∙ upd_same (p.lists s) t r
          ∙ sym (get_or-set_same v.rotas.lists (tid_number s t) r no_keys low)
          ∙ sym (ap₂ (λ (m n : ℕ). get_or (set v.rotas.lists (tid_number s t) r) (tid_number m n) no_keys)
          ea eb)
      | inr other ↦ ap (λ (n : ℕ). upd p.lists s (upd (p.lists s) t r) n b) ea
          ∙ ap (λ (f : ℕ → Rotation). f b) (upd_same p.lists s (upd (p.lists s) t r))
          ∙ upd_other (p.lists s) t b r other
          ∙ ap (λ (n : ℕ). p.lists n b) (sym ea) ∙ elsewhere a b low_a low_b
          (λ e. other (omega (arith, e, ea, low_b, low_t)))
    ]
    | inr other ↦ ap (λ (f : ℕ → Rotation). f b) (upd_other p.lists s a (upd (p.lists s) t r) other)
        ∙ elsewhere a b low_a low_b (λ e. other (omega (arith, e, low_b, low_t)))
  ];
  once = each_set (λ (i : ℕ) (x : Rotation). (q : ℕ) → on (in_order x) q ≤ 1) v.rotas.lists no_keys
      (tid_number s t) r low st.once once;
  below = each_set (λ (i : ℕ) (x : Rotation). (q : ℕ) → has_key x q ≡ true → q < queue_count v) v.rotas.lists
      no_keys (tid_number s t) r low st.below below;
  deficits = each_set (λ (i : ℕ) (x : Rotation). (q : ℕ) → has_key x q ≡ true →
      (p.queues q).deficit ≡ deficit_at v.rotas.deficits q) v.rotas.lists no_keys
      (tid_number s t) r low st.deficits deficits;
  finished = st.finished;
  fates = st.fates;
  accepted = st.accepted;
  held_once = st.held_once;
  flows = st.flows;
}
  where
    low : tid_number s t < length v.rotas.lists
    low = omega (arith, low_s, low_t, st.sized.lists)

    elsewhere : (a b : ℕ) → a < v.stations → b < 8 → (tid_number a b ≡ tid_number s t → ⊥) →
        p.lists a b ≡ get_or (set v.rotas.lists (tid_number s t) r) (tid_number a b) no_keys
    elsewhere a b low_a low_b other = st.lists a b low_a low_b
        ∙ sym (get_or-set_other v.rotas.lists (tid_number s t) (tid_number a b) r no_keys other)
