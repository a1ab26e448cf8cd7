-- Proves that flow queues and world still agree after a put: the limit, the accepted frame, its queue and the
-- listing compose.
use Rattle.std.proofs.Common.{◌≡◌, refl, ap, ap₂, sym, ◌∙◌, subst, arith, ℕ, ◌+◌, ◌%◌, ◌==◌, ◌<◌, ◌≤◌, Bool, true, false, if◌then◌else◌, List, [], ◌∷◌, ◌++◌, length, set, inl, inr}
use Rattle.std.specs.Prelude.{ℤ, pos, All}
use Rattle.std.proofs.lemmas.List.{map-append, get_or-set_same, get_or_past, set-get_or}
use Rattle.std.proofs.lemmas.List.Elements.{All-nil, All-cons, All-head, All-tail, All-push}
use Rattle.std.proofs.lemmas.Bool.{cases_eq, cases_lt, cond_both}
use Rattle.std.proofs.Math.Nat.{mod-lt}
use Rattle.wf_frame.specs.declared.classes.Fate.TheVariants.{Held}
use Rattle.wf_frame.specs.declared.notes.Note.{Note}
use Rattle.wf_frame.specs.declared.notes.Note.TheVariants.{Enqueue}
use Rattle.wf_frame.specs.declared.notes.ReplyNote.TheVariants.{Accepted}
use Rattle.wf_frame.specs.Frames.{FrameValue}
use Rattle.wf_def_codel.specs.Codel.{Item, Codel, new_codel}
use Rattle.wf_def_rotation.specs.Rotation.{Rotation, has_key, in_order, with_new_key}
use Rattle.wf_def_lists.specs.Lists.{on}
use Rattle.wf_rotation.specs.Rotas.{deficit_at}
use Rattle.wf_law_rules.proofs.Lemmas.Counts.{on-nil, on-first, on-cons_same, on-cons_other, on-append}
use Rattle.wf_law_rules.proofs.Lemmas.Counts.{listed-some, listed-none, on_order-none}
use Rattle.wf_def_world.specs.World.{World, Queue, flow_of, is_live, tid_of, accepted_count, on_queue, with_queues}
use Rattle.wf_def_world.specs.FlowQueues.{calmed, when_listed, after_limit as world_within_limit, queue_for as world_queue_for, with_listed_queue as world_listed_queue, with_appended as world_appended, after_put_in as world_put_in}
use Rattle.wf_def_world.specs.Step.{with_frame, enqueue_outcome}
use Rattle.wf_queue_flows.specs.Backlog.{BacklogValue, frames_at, codel_at, item_of, with_calmed, backlog_when_listed}
use Rattle.wf_frame.specs.Classes.{tid_number}
use Rattle.wf_queue_flows.specs.Flows.{FlowsValue, SettingsValue, queues as queue_count, tid_rotation, is_listed, goes_to_overflow, after_limit, dropped_for_limit, queue_for, with_listed_queue, with_appended, after_put_in, after_put}
use Rattle.wf_law_runs.proofs.Deficits.Books.{upd, upd_same, upd_other}
use Rattle.wf_law_runs.proofs.Queues.ShelvedStep.{accepted_put}
use Rattle.wf_queue_flows_refines.specs.Standing.{Part, flows_part, ids, times_held, Stands, FlowsStandFor}
use Rattle.wf_queue_flows_refines.proofs.Parts.{accepted_part, part_with_frame, part_on_queue, part_with_queues}
use Rattle.wf_queue_flows_refines.proofs.Ends.{on_ids-append, other_fates}
use Rattle.wf_queue_flows_refines.proofs.Changes.{with_queue, part_with, times_at, stands_queue, with_list, part_with_list, stands_list}
use Rattle.wf_queue_flows_refines.proofs.Limits.{IsBeside, same_queue, beside_limit}
use Rattle.wf_queue_flows_refines.proofs.Readers.{same_queue_for, same_dropped}

-- ---- one more frame is accepted

-- the next id is neither queued nor finished
pub next_nowhere : (v : FlowsValue) (p : Part) → Stands v p → times_held v.backlog p.accepted ≡ 0
next_nowhere v p st = elim (cases_lt 0 (times_held v.backlog p.accepted)) [
  | inl some ↦ absurd (omega (arith, st.accepted p.accepted some))
  | inr few ↦ omega (arith, few)
]

-- the flow numbers of frames with other ids stay
other_flows : (frames : List FrameValue) (flows : ℕ → ℕ) (id flow : ℕ) → on (ids frames) id ≡ 0 →
    All (λ f. flows f.id ≡ f.flow) frames → All (λ f. upd flows id flow f.id ≡ f.flow) frames
other_flows [] flows id flow none h = All-nil (λ f. upd flows id flow f.id ≡ f.flow)
other_flows (f ∷ fs) flows id flow none h = elim (cases_eq f.id id) [
  | inl e ↦ absurd (omega (arith, none, ap (λ (n : ℕ). on (n ∷ ids fs) id) e, on-cons_same id (ids fs)))
  | inr other ↦ All-cons (λ g. upd flows id flow g.id ≡ g.flow) f fs
      (upd_other flows id f.id flow other ∙ All-head (λ g. flows g.id ≡ g.flow) f fs h)
      (other_flows fs flows id flow (omega (arith, none, on-first f.id id (ids fs)))
      (All-tail (λ g. flows g.id ≡ g.flow) f fs h))
]

pub stands_accepted : (v : FlowsValue) (p : Part) (flow : ℕ) → Stands v p → Stands v (accepted_part p flow)
stands_accepted v p flow st = record {
  sized = st.sized;
  settings = st.settings;
  items = st.items;
  codels = st.codels;
  lists = st.lists;
  once = st.once;
  below = st.below;
  deficits = st.deficits;
  finished = st.finished;
  fates = other_fates v.backlog.finished p.fates p.accepted Held (omega (arith, next_nowhere v p st))
      ∙ st.fates;
  accepted = λ id h. omega (arith, st.accepted id h);
  held_once = st.held_once;
  flows = λ q. elim (cases_lt q (length v.backlog.queues)) [
    | inl low ↦ other_flows (frames_at v.backlog q) p.flows p.accepted flow
        (omega (arith, next_nowhere v p st, times_at v.backlog q p.accepted low)) (st.flows q)
    | inr past ↦ subst (All (λ (f : FrameValue). upd p.flows p.accepted flow f.id ≡ f.flow))
        (sym (get_or_past v.backlog.queues q [] past))
        (All-nil (λ (f : FrameValue). upd p.flows p.accepted flow f.id ≡ f.flow))
  ];
}

-- ---- it goes last into a queue

abbrev pub appended_part : Part → ℕ → Item → Part
appended_part p q x = part_with p q (record (p.queues q) { items = (p.queues q).items ++ x ∷ [] })

pub stands_appended : (v : FlowsValue) (p : Part) (q : ℕ) (f : FrameValue) → Stands v p → q < queue_count v →
    f.id < p.accepted → times_held v.backlog f.id ≡ 0 → p.flows f.id ≡ f.flow →
    Stands (with_appended v q f) (appended_part p q (item_of f))
stands_appended v p q f st low known none flow =
    let frames : List FrameValue = frames_at v.backlog q ++ f ∷ [] in
    subst (λ (z : FlowsValue). Stands z (appended_part p q (item_of f))) (same_queue v q frames)
    (stands_queue v p q frames (codel_at v.backlog q) (deficit_at v.rotas.deficits q)
    (record (p.queues q) { items = (p.queues q).items ++ item_of f ∷ [] }) st low
    (ap (λ (l : List Item). l ++ item_of f ∷ []) (st.items q)
    ∙ sym (map-append item_of (frames_at v.backlog q) (f ∷ []))) (st.codels q)
    (All-push (λ (g : FrameValue). p.flows g.id ≡ g.flow) (frames_at v.backlog q) f (st.flows q) flow)
    (λ i. st.deficits i q)
    (λ id h. elim (cases_eq id f.id) [
      | inl e ↦ subst (λ (n : ℕ). n < p.accepted) (sym e) known
      | inr other ↦ st.accepted id (omega (
        arith,
        h,
        on_ids-append (frames_at v.backlog q) (f ∷ []) id,
        one_other id other,
        times_at v.backlog q id (omega (arith, low, st.sized.queues)),
      ))
    ])
    (λ id. elim (cases_eq id f.id) [
      | inl e ↦ subst (λ (n : ℕ). times_held v.backlog n + on (ids frames) n
          ≤ 1 + on (ids (frames_at v.backlog q)) n) (sym e)
          (omega (
            arith,
            none,
            on_ids-append (frames_at v.backlog q) (f ∷ []) f.id,
            on-cons_same f.id [],
            on-nil f.id,
          ))
      | inr other ↦ omega (
        arith,
        st.held_once id,
        on_ids-append (frames_at v.backlog q) (f ∷ []) id,
        one_other id other,
      )
    ]))
  where
    one_other : (id : ℕ) → (id ≡ f.id → ⊥) → on (f.id ∷ []) id ≡ 0
    one_other id other = omega (arith, on-cons_other f.id id [] (λ e. other (sym e)), on-nil id)

pub part_appended : (w : World) (q : ℕ) (x : Item) →
    flows_part (world_appended w q x) ≡ appended_part (flows_part w) q x
unfolding world_appended
part_appended w q x = part_on_queue w q (λ y. record y { items = y.items ++ x ∷ [] })

-- ---- the queue is listed

on_added : (r : Rotation) (q k : ℕ) → on (in_order (with_new_key r q)) k ≡ on (in_order r) k + on (q ∷ []) k
on_added r q k = omega (
  arith,
  on-append r.old (r.new ++ q ∷ []) k,
  on-append r.new (q ∷ []) k,
  on-append r.old r.new k,
)

once_added : (r : Rotation) (q : ℕ) → ((k : ℕ) → on (in_order r) k ≤ 1) → has_key r q ≡ false → (k : ℕ) →
    on (in_order (with_new_key r q)) k ≤ 1
once_added r q once off k = elim (cases_eq k q) [
  | inl e ↦ subst (λ (n : ℕ). on (in_order (with_new_key r q)) n ≤ 1) (sym e)
      (omega (arith, on_added r q q, on_order-none r q off, on-cons_same q [], on-nil q))
  | inr other ↦ omega (arith, on_added r q k, once k, on-cons_other q k [] (λ e. other (sym e)), on-nil k)
]

listed_before : (r : Rotation) (q k : ℕ) → (k ≡ q → ⊥) → has_key (with_new_key r q) k ≡ true →
    has_key r k ≡ true
listed_before r q k other is = elim (cases_lt 0 (on (in_order r) k)) [
  | inl some ↦ listed-some r k some
  | inr few ↦ absurd (cc (
    is,
    listed-none (with_new_key r q) k
        (omega (arith, few, on_added r q k, on-cons_other q k [] (λ e. other (sym e)), on-nil k)),
  ))
]

-- a queue that is not listed
abbrev fresh_part : Part → ℕ → ℕ → ℕ → Part
fresh_part p s t q = part_with_list (part_with p q
    (when_listed p.config (p.queues q))) s t (with_new_key (p.lists s t) q)

abbrev pub listed_part : Part → ℕ → ℕ → ℕ → Part
listed_part p s t q = if has_key (p.lists s t) q then p else fresh_part p s t q

abbrev fresh_queue : FlowsValue → ℕ → ℕ → FlowsValue
fresh_queue v i q = record v {
  backlog = backlog_when_listed v.codel_reset v.backlog q;
  rotas = record
      v.rotas {
        lists = set v.rotas.lists i (with_new_key (tid_rotation v i) q);
        deficits =
            set v.rotas.deficits q (pos v.flow_quantum);
      };
}

module _ (v : FlowsValue) (p : Part) (s t q : ℕ) (st : Stands v p) (low_s : s < v.stations) (low_t : t < 8)
    (low : q < queue_count v) where
  i : ℕ
  i = tid_number s t

  stands_fresh : has_key (tid_rotation v (tid_number s t)) q ≡ false →
      Stands (fresh_queue v (tid_number s t) q) (fresh_part p s t q)
  stands_fresh off =
      let d : ℤ = pos v.flow_quantum in
      let same : pos p.config.flow_quantum ≡ d = ap (λ (x : SettingsValue). pos x.flow_quantum)
      (sym st.settings) in
      let y : Queue = when_listed p.config (p.queues q) in
      let r : Rotation = with_new_key (tid_rotation v (tid_number s t)) q in
      let paid : Stands (with_queue v q (frames_at v.backlog q) state d) (part_with p q y) =
      stands_queue v p q (frames_at v.backlog q) state d y st low (st.items q) same_state (st.flows q)
      (λ j h. same)
      (λ id h. st.accepted id (omega (
        arith,
        h,
        times_at v.backlog q id
            (omega (arith, low, st.sized.queues)),
      ))) (λ id. omega (arith, st.held_once id)) in
      let u : FlowsValue = with_queue v q (frames_at v.backlog q) state d in
      let fresh : deficit_at u.rotas.deficits q ≡ d =
      get_or-set_same v.rotas.deficits q d (pos 0) (omega (arith, low, st.sized.deficits)) in
      let listed : Stands (with_list u (tid_number s t) r) (part_with_list (part_with p q y) s t r) =
      stands_list u (part_with p q y) s t r paid low_s low_t
      (once_added (tid_rotation v (tid_number s t)) q (st.once (tid_number s t)) off)
      (λ k h. elim (cases_eq k q) [
        | inl e ↦ subst (λ (n : ℕ). n < queue_count v) (sym e) low
        | inr other ↦ st.below (tid_number s t) k (listed_before
            (tid_rotation v (tid_number s t)) q k other h)
      ])
      (λ k h. elim (cases_eq k q) [
        | inl e ↦ subst (λ (n : ℕ). (upd p.queues q y n).deficit ≡ deficit_at u.rotas.deficits n) (sym e)
            (ap (λ (z : Queue). z.deficit) (upd_same p.queues q y) ∙ same ∙ sym fresh)
        | inr other ↦ paid.deficits (tid_number s t) k
            (listed_before (tid_rotation v (tid_number s t)) q k other h)
      ]) in
      subst (λ (z : Rotation). Stands (fresh_queue v (tid_number s t) q)
      (part_with_list (part_with p q y) s t (with_new_key z q))) (sym (st.lists s t low_s low_t))
      (subst (λ (b : BacklogValue). Stands (record (fresh_queue v (tid_number s t) q) { backlog = b })
      (part_with_list (part_with p q y) s t r)) same_backlog listed)
    where
      state : Codel
      state = if v.codel_reset == 1 then calmed (codel_at v.backlog q) else codel_at v.backlog q

      same_state : (when_listed p.config (p.queues q)).codel ≡ state
      same_state = ap (λ (x : SettingsValue). if x.codel_reset == 1 then calmed (p.queues q).codel
          else (p.queues q).codel) (sym st.settings)
          ∙ ap (λ (c : Codel). if v.codel_reset == 1 then calmed c else c) (st.codels q)

      same_backlog : record v.backlog {
        queues = set v.backlog.queues q (frames_at v.backlog q);
        codels = set v.backlog.codels q state;
      } ≡ backlog_when_listed v.codel_reset v.backlog q
      same_backlog = ap (λ (all : List (List FrameValue)).
          record v.backlog { queues = all; codels = set v.backlog.codels q state })
          (set-get_or v.backlog.queues q []) ∙ go (v.codel_reset == 1)
        where
          go : (b : Bool) → record v.backlog {
            codels =
                set v.backlog.codels q (if b then calmed (codel_at v.backlog q) else codel_at v.backlog q);
          } ≡ (if b then with_calmed v.backlog q else v.backlog)
          go true = refl
          go false = ap (λ (cs : List Codel). record v.backlog { codels = cs })
              (set-get_or v.backlog.codels q new_codel)

  pub stands_listed : Stands (with_listed_queue v (tid_number s t) q) (listed_part p s t q)
  unfolding with_listed_queue
  stands_listed = subst (λ (b : Bool). Stands (with_listed_queue v (tid_number s t) q)
      (if b then p else fresh_part p s t q)) (sym
      (ap (λ (r : Rotation). has_key r q) (st.lists s t low_s low_t)))
      (go (is_listed v (tid_number s t) q) refl)
    where
      go : (b : Bool) → is_listed v (tid_number s t) q ≡ b →
          Stands (if b then v else fresh_queue v (tid_number s t) q) (if b then p else fresh_part p s t q)
      go true is = st
      go false off = stands_fresh off

live_on : (w : World) (q : ℕ) (f : Queue → Queue) (s : ℕ) → is_live (on_queue w q f) s ≡ is_live w s
unfolding on_queue
live_on w q f s = refl

pub part_listed : (w : World) (s t q : ℕ) → is_live w s ≡ true →
    flows_part (world_listed_queue w s t q) ≡ listed_part (flows_part w) s t q
unfolding world_listed_queue
part_listed w s t q live = go (has_key (tid_of w s t).queues q)
  where
    go : (b : Bool) → flows_part (if b then w else with_queues
        (on_queue w q (when_listed w.config)) s t
        (with_new_key (tid_of w s t).queues q)) ≡
        (if b then flows_part w else fresh_part (flows_part w) s t q)
    go true = refl
    go false =
        part_with_queues (on_queue w q (when_listed w.config)) s t
        (with_new_key (tid_of w s t).queues q) (live_on w q
        (when_listed w.config) s ∙ live)
        ∙ ap (λ (p : Part). part_with_list p s t (with_new_key (tid_of w s t).queues q))
        (part_on_queue w q (when_listed w.config))

-- ---- the whole put

-- the queue for a frame has a number below the number of queues
pub queue_below : (v : FlowsValue) (s t flow : ℕ) → 1 ≤ v.flows → s < v.stations → t < 8 →
    queue_for v (tid_number s t) flow < queue_count v
unfolding queue_for
queue_below v s t flow some low_s low_t = cond_both (goes_to_overflow v (tid_number s t) (flow % v.flows))
    (v.flows + tid_number s t) (flow % v.flows) (λ (n : ℕ). n < queue_count v)
    (λ e. omega arith) (λ e. let m : flow % v.flows < v.flows = mod-lt flow some in omega arith)

-- the frame may be accepted before it is put in
accepted_listed : (p : Part) (s t q flow : ℕ) (x : Item) →
    accepted_part (listed_part (appended_part p q x) s t q) flow
    ≡ listed_part (appended_part (accepted_part p flow) q x) s t q
accepted_listed p s t q flow x = go (has_key (p.lists s t) q)
  where
    go : (b : Bool) → accepted_part (if b then appended_part p q x
        else fresh_part (appended_part p q x) s t q) flow
        ≡ (if b then appended_part (accepted_part p flow) q x
        else fresh_part (appended_part (accepted_part p flow) q x) s t q)
    go true = refl
    go false = refl

live_appended : (w : World) (q : ℕ) (x : Item) (s : ℕ) → is_live (world_appended w q x) s ≡ is_live w s
unfolding world_appended on_queue
live_appended w q x s = refl

part_put : (w : World) (s t q : ℕ) (x : Item) (note : Note) → is_live w s ≡ true →
    flows_part (with_frame (world_put_in w s t q x) note)
    ≡ listed_part (appended_part (accepted_part (flows_part w) (flow_of note)) q x) s t q
unfolding world_put_in
part_put w s t q x note live =
    part_with_frame (world_listed_queue (world_appended w q x) s t q) note
    ∙ ap (λ (p : Part). accepted_part p (flow_of note)) (part_listed (world_appended w q x) s t q
    (live_appended w q x s ∙ live)
    ∙ ap (λ (p : Part). listed_part p s t q) (part_appended w q x))
    ∙ accepted_listed (flows_part w) s t q (flow_of note) x

pub stands_put : (v : FlowsValue) (w : World) (s t : ℕ) (f : FrameValue) → FlowsStandFor v w →
    is_live w s ≡ true → s < w.config.stations → t < 8 → f.id ≡ accepted_count w → f.stamp ≡ w.clock
    → FlowsStandFor (after_put v (tid_number s t) f) (enqueue_outcome w s t f.flow (length f.body)).world
unfolding after_put enqueue_outcome
stands_put v w s t f st live high_s low_t next now =
    let b : IsBeside (after_limit v) w (world_within_limit w) = beside_limit v w st in
    let u : FlowsValue = after_limit v in
    let w' : World = world_within_limit w in
    let st' : Stands u (flows_part w') = b.stands in
    let stations : u.stations ≡ w'.config.stations = ap (λ (x : SettingsValue). x.stations) st'.settings in
    let low_s : s < u.stations = omega (arith, high_s, stations, b.stations) in
    let q : ℕ = queue_for u (tid_number s t) f.flow in
    let low : q < queue_count u = queue_below u s t f.flow st'.sized.some_flows low_s low_t in
    let id_is : f.id ≡ accepted_count w' = next ∙ sym b.accepted in
    let joined : Stands u (accepted_part (flows_part w') f.flow) = stands_accepted u (flows_part w')
    f.flow st' in
    let none : times_held u.backlog f.id ≡ 0 = ap (times_held u.backlog) id_is
    ∙ next_nowhere u (flows_part w') st' in
    let added : Stands (with_appended u q f) (appended_part (accepted_part (flows_part w') f.flow) q
    (item_of f)) =
    stands_appended u (accepted_part (flows_part w') f.flow) q f joined low (omega (arith, id_is)) none
    (ap (upd (flows_part w').flows (accepted_count w') f.flow) id_is
    ∙ upd_same (flows_part w').flows (accepted_count w') f.flow) in
    let all : Stands (after_put_in u (tid_number s t) q f)
    (listed_part (appended_part (accepted_part (flows_part w') f.flow) q (item_of f)) s t q) =
    stands_listed (with_appended u q f) (appended_part (accepted_part (flows_part w') f.flow) q (item_of
    f)) s t
    q added low_s low_t low in
    let x : Item = record { id = accepted_count w; stamp = w.clock; len = length f.body } in
    let item : item_of f ≡ x = ap₂ (λ (a c : ℕ). let y : Item =
    record { id = a; stamp = c; len = length f.body } in y) next now in
    let q_is : q ≡ world_queue_for w' s t f.flow = same_queue_for u w' s t f.flow st' low_s low_t in
    subst (λ (p : Part). Stands (after_put_in u (tid_number s t) q f) p)
    (ap (λ (y : Item). listed_part (appended_part (accepted_part (flows_part w') f.flow) q y) s t q) item
    ∙ ap (λ (n : ℕ). listed_part (appended_part (accepted_part (flows_part w') f.flow) n x) s t n) q_is
    ∙ sym (part_put w' s t (world_queue_for w' s t f.flow) x (Enqueue s t f.flow (length f.body))
    (b.live s ∙ live)))
    all

-- both sides drop the same frame for the limit
pub reply_put : (v : FlowsValue) (w : World) (s t : ℕ) (f : FrameValue) → FlowsStandFor v w →
    f.id ≡ accepted_count w → (enqueue_outcome w s t f.flow (length f.body)).reply
    ≡ Accepted f.id (dropped_for_limit v)
unfolding enqueue_outcome
reply_put v w s t f st next = ap₂ Accepted (sym next) (sym (same_dropped v w st))

pub accepted_enqueued : (v : FlowsValue) (w : World) (s t flow len : ℕ) → FlowsStandFor v w →
    accepted_count (enqueue_outcome w s t flow len).world ≡ accepted_count w + 1
unfolding enqueue_outcome
accepted_enqueued v w s t flow len st =
    let w' : World = world_within_limit w in
    let x : Item = record { id = accepted_count w; stamp = w.clock; len = len } in
    let q : ℕ = world_queue_for w' s t flow in
    let note : Note = Enqueue s t flow len in
    ap (λ (p : Part). p.accepted) (part_with_frame (world_put_in w' s t q x) note)
    ∙ ap (λ (n : ℕ). n + 1) (accepted_put w' s t q x ∙ (beside_limit v w st).accepted)
