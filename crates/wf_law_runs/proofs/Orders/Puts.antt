-- Proves that an enqueue keeps the frames of one flow in line, if flows keep their order.
use Rattle.std.proofs.Common.{◌≡◌, refl, ap, sym, ◌∙◌, subst, arith, ℕ, ◌%◌, ◌<◌, ◌≤◌, Bool, true, false, not, ◌&&◌, ◌==◌, ◌⊎◌, inl, inr, List, [], ◌∷◌, ◌++◌, length, if◌then◌else◌}
use Rattle.std.specs.List.{list_any}
use Rattle.std.proofs.lemmas.Bool.{cases_Bool, cases_lt, and_left, and_right, or_from}
use Rattle.wf_frame.specs.declared.settings.Config.{Config}
use Rattle.wf_frame.specs.declared.notes.Note.{Note}
use Rattle.wf_frame.specs.declared.notes.Note.TheVariants.{Enqueue, Asked}
use Rattle.wf_frame.specs.declared.classes.Fate.TheVariants.{Held}
use Rattle.wf_def_lists.specs.Table.{at, has, upto}
use Rattle.wf_def_codel.specs.Codel.{Item}
use Rattle.wf_def_rotation.specs.Rotation.{has_key, in_order}
use Rattle.wf_def_lists.specs.Lists.{on}
use Rattle.wf_def_agreement.specs.Session.{next_number, slot}
use Rattle.wf_def_world.specs.World.{World, Frame, no_frame, frame, flow_of, queue, tid_of, accepted_count, live_stations, on_queue, with_fate, with_frame_finished}
use Rattle.wf_def_world.specs.FlowQueues.{is_at_limit, longest_queue, without_head, after_limit, is_listed_elsewhere, overflow_queue, flow_queue, stays_over, goes_over, queue_for, with_appended, after_put_in}
use Rattle.wf_def_world.specs.Step.{with_frame, enqueue_outcome}
use Rattle.wf_law_rules.proofs.Lemmas.Counts.{listed-none}
use Rattle.wf_law_rules.proofs.Lemmas.Numbers.{on_if, eq_yes, yes_eq, not_eq, either, or_left, or_right}
use Rattle.wf_law_runs.specs.Queues.{EachItem, IsFor}
use Rattle.wf_law_runs.proofs.Windows.Sides.{side, same_within_limit, same_put_in}
use Rattle.wf_law_runs.proofs.Frames.Fewer.{carries, Less, then_less, less_within_limit}
use Rattle.wf_law_runs.proofs.Queues.Shelves.{shelves}
use Rattle.wf_law_runs.proofs.Queues.Shelved.{IsFound, IsOf, IsShelved}
use Rattle.wf_law_runs.proofs.Queues.ShelvedStep.{shelved_within_limit, accepted_limit, accepted_put}
use Rattle.wf_law_runs.proofs.Releases.Placed.{Placing, Any, queue_appended, less_put_in, less_with_frame, accepted_appended, side_with_frame, placed_enqueued}
use Rattle.wf_law_runs.proofs.Orders.Lines.{Lane, lane_of, Before, Agrees, AreLined, Lines, InLine, line_less}

-- ---- a frame of a queue

-- A property of each frame of a queue holds for a frame that it carries, under its id.
item_of_queue : (P : Item → Type 0) (xs : List Item) (k : ℕ) → EachItem P xs → carries xs k ≡ true →
    (x : Item) × (x.id ≡ k) × P x
item_of_queue P [] k h c = absurd (cc c)
item_of_queue P (x ∷ xs) k h c = elim (either (x.id == k) (carries xs k) c) [
  | inl e ↦ (x, eq_yes x.id k e, h.0)
  | inr e ↦ item_of_queue P xs k h.1 e
]

some_items : (xs : List Item) (k : ℕ) → carries xs k ≡ true → 0 < length xs
some_items [] k c = absurd (cc c)
some_items (x ∷ xs) k c = omega arith

-- One of the frames passes a test of its id.
any_carried : (p : ℕ → Bool) (xs : List Item) (k : ℕ) → carries xs k ≡ true → p k ≡ true →
    list_any (λ (x : Item). p x.id) xs ≡ true
any_carried p [] k c is = absurd (cc c)
any_carried p (x ∷ xs) k c is = elim (either (x.id == k) (carries xs k) c) [
  | inl e ↦ or_left (p x.id) _ (ap p (eq_yes x.id k e) ∙ is)
  | inr e ↦ or_right (p x.id) _ (any_carried p xs k e is)
]

carried_any : (p : ℕ → Bool) (xs : List Item) → list_any (λ (x : Item). p x.id) xs ≡ true →
    (k : ℕ) × (carries xs k ≡ true) × (p k ≡ true)
carried_any p [] e = absurd (cc e)
carried_any p (x ∷ xs) e = elim (either (p x.id) (list_any (λ (y : Item). p y.id) xs) e) [
  | inl is ↦ (x.id, or_left (x.id == x.id) (carries xs x.id) (yes_eq x.id x.id refl), is)
  | inr later ↦
      let k = carried_any p xs later in
      (k.0, or_right (x.id == k.0) (carries xs k.0) k.1, k.2)
]

note_appended : (u : World) (q : ℕ) (x : Item) (k : ℕ) →
    (frame (with_appended u q x) k).note ≡ (frame u k).note
unfolding with_appended on_queue
note_appended u q x k = refl

-- the queue for a frame is below the number of flow queues only if it is the queue of its flow
shared_if : (b : Bool) (over shared flows : ℕ) → flows ≤ over → (if b then over else shared) < flows →
    (if b then over else shared) ≡ shared
shared_if true over shared flows past low = absurd (omega (arith, past, low))
shared_if false over shared flows past low = refl

any_none : (p : ℕ → Bool) (xs : List ℕ) → ((k : ℕ) → p k ≡ false) → list_any p xs ≡ false
any_none p [] h = refl
any_none p (x ∷ xs) h = or_from (p x) (list_any p xs) (h x) (any_none p xs h)

-- ---- the queue for a frame has the queued frames of its lane

same_lane : (x y : Lane) → x.station ≡ y.station → x.tid ≡ y.tid → x.queue ≡ y.queue → x ≡ y
same_lane x y a b c =
    ap (λ (n : ℕ). let z : Lane = record { station = n; tid = x.tid; queue = x.queue } in z) a
    ∙ ap (λ (n : ℕ). let z : Lane = record { station = y.station; tid = n; queue = x.queue } in z) b
    ∙ ap (λ (n : ℕ). let z : Lane = record { station = y.station; tid = y.tid; queue = n } in z) c

-- The station and the TID of a lane equal the station and the TID of the call.
lane_for : (flows : ℕ) (note : Note) (s t : ℕ) → IsFor s t note → ((lane_of flows note).station ≡ s) ×
    ((lane_of flows note).tid ≡ t) × ((lane_of flows note).queue ≡ (flow_of note % flows))
lane_for flows (Enqueue i j flow len) s t h = (h.0, h.1, refl)
lane_for flows (Asked ask) s t h = absurd h

-- A queue that carries a frame of a TID is listed by this TID alone.
pub record IsHeldBy (w : World) (s t q : ℕ) : Type 0 where
  pub listed : 0 < on (in_order (tid_of w s t).queues) q
  pub own : (q < w.config.flows) ⊎ (q ≡ overflow_queue w s t)
  pub sole : (i j : ℕ) → 0 < on (in_order (tid_of w i j).queues) q → (i ≡ s) × (j ≡ t)

module _ (most : ℕ) (w : World) (i : IsShelved most (shelves w)) (lane : ℕ → Lane)
    (known : (q a : ℕ) → carries (queue w q).items a ≡ true → Agrees w.config.flows lane w a) where
  held_by : (q a s t : ℕ) → carries (queue w q).items a ≡ true → (lane a).station ≡ s → (lane a).tid ≡ t →
      IsHeldBy w s t q
  held_by q a s t c is_s is_t =
      let f : IsFound (shelves w) q = i.found q (some_items (queue w q).items a c) in
      let x = item_of_queue (IsOf (shelves w).notes most f.station f.tid) (queue w q).items a
      (i.mine f.station f.tid q f.listed) c in
      let for : IsFor f.station f.tid (frame w a).note =
      subst (λ (k : ℕ). IsFor f.station f.tid (frame w k).note) x.1 x.2.0 in
      let l = lane_for w.config.flows (frame w a).note f.station f.tid for in
      let es : f.station ≡ s = sym l.0 ∙ ap (λ (z : Lane). z.station) (sym (known q a c)) ∙ is_s in
      let et : f.tid ≡ t = sym l.1 ∙ ap (λ (z : Lane). z.tid) (sym (known q a c)) ∙ is_t in
      let here : 0 < on (in_order (tid_of w s t).queues) q =
      subst (λ (n : ℕ). 0 < on (in_order (tid_of w n t).queues) q) es
      (subst (λ (n : ℕ). 0 < on (in_order (tid_of w f.station n).queues) q) et f.listed) in
      record {
        listed = here;
        own = i.owned s t q here;
        sole = λ a b there. i.sole a b s t q there here;
      }

  -- the flow queue of a queued frame, by its flow number
  flow_is : (q a : ℕ) → carries (queue w q).items a ≡ true →
      (flow_of (frame w a).note % w.config.flows) ≡ (lane a).queue
  flow_is q a c =
      let f : IsFound (shelves w) q = i.found q (some_items (queue w q).items a c) in
      let x = item_of_queue (IsOf (shelves w).notes most f.station f.tid) (queue w q).items a
      (i.mine f.station f.tid q f.listed) c in
      let for : IsFor f.station f.tid (frame w a).note =
      subst (λ (k : ℕ). IsFor f.station f.tid (frame w k).note) x.1 x.2.0 in
      sym (lane_for w.config.flows (frame w a).note f.station f.tid for).2
      ∙ ap (λ (z : Lane). z.queue) (sym (known q a c))

  module _ (one : (q r a b : ℕ) → carries (queue w q).items a ≡ true → carries (queue w r).items b ≡ true →
      lane a ≡ lane b → q ≡ r)
      (home : (q a : ℕ) → q < w.config.flows → carries (queue w q).items a ≡ true → (lane a).queue ≡ q)
      (keeps : w.config.keep_order ≡ 1) (s t flow : ℕ) (below : t < 8) where
    abbrev own_lane : Lane
    own_lane = record { station = s; tid = t; queue = flow % w.config.flows }

    abbrev shared : ℕ
    shared = flow % w.config.flows

    -- the overflow queue has a frame of the lane
    over : (a : ℕ) → carries (queue w (overflow_queue w s t)).items a ≡ true → lane a ≡ own_lane →
        overflow_queue w s t ≡ queue_for w s t flow
    over a c e =
        let test : ℕ → Bool = λ k. flow_queue w (flow_of (frame w k).note) == shared in
        let stays : stays_over w s t shared ≡ true = any_carried test (queue w (overflow_queue w s
        t)).items a c
        (yes_eq (flow_of (frame w a).note % w.config.flows) shared
        (flow_is (overflow_queue w s t) a c ∙ ap (λ (z : Lane). z.queue) e)) in
        let goes : goes_over w s t shared ≡ true = or_right (is_listed_elsewhere w s t shared) _
        (ap (λ (n : ℕ). (n == 1) && stays_over w s t shared) keeps ∙ stays) in
        sym (ap (λ (b : Bool). if b then overflow_queue w s t else shared) goes)

    -- the flow queue has a frame of the lane
    within : (a : ℕ) → shared < w.config.flows → carries (queue w shared).items a ≡ true → lane a ≡ own_lane →
        shared ≡ queue_for w s t flow
    within a low c e =
        let h : IsHeldBy w s t shared = held_by shared a s t c (ap (λ (z : Lane). z.station) e)
        (ap (λ (z : Lane). z.tid) e) in
        let free : is_listed_elsewhere w s t shared ≡ false =
        any_none (λ i. list_any (λ j. not ((i == s) && (j == t)) && has_key (tid_of w i j).queues shared)
        (upto 8)) (live_stations w) (λ i. any_none
        (λ j. not ((i == s) && (j == t)) && has_key (tid_of w i j).queues shared) (upto 8) (λ j.
        elim (cases_lt 0 (on (in_order (tid_of w i j).queues) shared)) [
          | inl some ↦
              let same = h.sole i j some in
              and_left (not ((i == s) && (j == t))) _
              (ap not (yes_both (i == s) (j == t) (yes_eq i s same.0) (yes_eq j t same.1)))
          | inr few ↦ and_right (not ((i == s) && (j == t))) _
              (listed-none (tid_of w i j).queues shared (omega (arith, few)))
        ])) in
        let test : ℕ → Bool = λ k. flow_queue w (flow_of (frame w k).note) == shared in
        let none : stays_over w s t shared ≡ false = elim (cases_Bool (stays_over w s t shared)) [
          | inl stays ↦
              let k = carried_any test (queue w (overflow_queue w s t)).items stays in
              let lane_is : lane k.0 ≡ own_lane = over_lane k.0 k.1 (eq_yes _ _ k.2) in
              absurd (let same : shared ≡ overflow_queue w s t =
              one shared (overflow_queue w s t) a k.0 c k.1 (e ∙ sym lane_is) in omega (arith, same, low))
          | inr fails ↦ fails
        ] in
        let stays : goes_over w s t shared ≡ false = or_from (is_listed_elsewhere w s t shared) _ free
        (and_right (w.config.keep_order == 1) _ none) in
        sym (ap (λ (b : Bool). if b then overflow_queue w s t else shared) stays)
      where
        yes_both : (a b : Bool) → a ≡ true → b ≡ true → (a && b) ≡ true
        yes_both true true _ _ = refl
        yes_both true false _ h = absurd (cc h)
        yes_both false b h _ = absurd (cc h)

        -- a frame of the overflow queue is of its TID
        over_lane : (k : ℕ) → carries (queue w (overflow_queue w s t)).items k ≡ true →
            (flow_of (frame w k).note % w.config.flows) ≡ shared → lane k ≡ own_lane
        over_lane k c e =
            let q : ℕ = overflow_queue w s t in
            let f : IsFound (shelves w) q = i.found q (some_items (queue w q).items k c) in
            let x = item_of_queue (IsOf (shelves w).notes most f.station f.tid) (queue w q).items k
            (i.mine f.station f.tid q f.listed) c in
            let for : IsFor f.station f.tid (frame w k).note =
            subst (λ (n : ℕ). IsFor f.station f.tid (frame w n).note) x.1 x.2.0 in
            let l = lane_for w.config.flows (frame w k).note f.station f.tid for in
            let low_tid : f.tid < 8 = i.below f.station f.tid q f.listed in
            let mine : (f.station ≡ s) × (f.tid ≡ t) = elim (i.owned f.station f.tid q f.listed) [
              | inl low' ↦ absurd (omega (arith, low'))
              | inr own ↦ (omega (arith, own, low_tid, below), omega (arith, own, low_tid, below))
            ] in
            known q k c ∙ same_lane (lane_of w.config.flows (frame w k).note) own_lane (l.0 ∙ mine.0)
            (l.1 ∙ mine.1) (l.2 ∙ e)

    -- each queue with a frame of the lane is the queue for the next frame of it
    pub together : (q a : ℕ) → carries (queue w q).items a ≡ true → lane a ≡ own_lane →
        q ≡ queue_for w s t flow
    together q a c e =
        let h : IsHeldBy w s t q = held_by q a s t c (ap (λ (z : Lane). z.station) e)
        (ap (λ (z : Lane). z.tid) e) in
        elim h.own [
          | inl low ↦
              let here : q ≡ shared = sym (home q a low c) ∙ ap (λ (z : Lane). z.queue) e in
              here ∙ within a (subst (λ (n : ℕ). n < w.config.flows) here low)
              (subst (λ (n : ℕ). carries (queue w n).items a ≡ true) here c) e
          | inr own ↦ own ∙ over a (subst (λ (n : ℕ). carries (queue w n).items a ≡ true) own c) e
        ]

-- ---- the enqueue

module _ (most : ℕ) (l : List ℕ) (u v : World) (s t flow len q c : ℕ) (x : Item)
    (i : IsShelved most (shelves u)) (keeps : u.config.keep_order ≡ 1) (below : t < 8)
    (p : InLine u.config.flows l u) (into : q ≡ queue_for u s t flow) (id : x.id ≡ c)
    (next : accepted_count u ≡ c) (more : Less Any (with_appended u q x) v)
    (sides : (a b : ℕ) → side v a b ≡ side u a b) (note : (frame v c).note ≡ Enqueue s t flow len) where
  abbrev flows : ℕ
  flows = u.config.flows

  abbrev lane : ℕ → Lane
  lane k = if k == c then lane_of flows (Enqueue s t flow len) else p.lane k

  old : (k : ℕ) → k < c → lane k ≡ p.lane k
  old k low = ap (λ (b : Bool). if b then lane_of flows (Enqueue s t flow len) else p.lane k)
      (not_eq k c (λ e. omega (arith, e, low)))

  new : lane c ≡ lane_of flows (Enqueue s t flow len)
  new = ap (λ (b : Bool). if b then lane_of flows (Enqueue s t flow len) else p.lane c) (yes_eq c c refl)

  both_old : (a b : ℕ) → a < c → b < c → Before p.lane a b → Before lane a b
  both_old a b low_a low_b h e = h (sym (old a low_a) ∙ e ∙ old b low_b)

  queued_old : (r k : ℕ) → carries (queue u r).items k ≡ true → k < c
  queued_old r k e = omega (arith, (p.placing.queued r k e).old, next)

  listed_old : (k : ℕ) → has l k ≡ true → k < c
  listed_old k e = omega (arith, p.placing.old k e, next)

  number_old : (a b n : ℕ) → (side u a b).session.first ≤ n → n < next_number (side u a b).session →
      (slot (side u a b).session n).id < c
  number_old a b n from low = omega (arith, (p.placing.numbered a b n from low).old, next)

  note_old : (k : ℕ) → k < c → (frame v k).note ≡ (frame u k).note
  note_old k low = more.notes k (omega (arith, low, next, accepted_appended u q x)) ∙ note_appended u q x k

  agrees_old : (k : ℕ) → k < c → Agrees flows p.lane u k → Agrees flows lane v k
  agrees_old k low e = old k low ∙ e ∙ ap (lane_of flows) (sym (note_old k low))

  was : (r k : ℕ) → carries (queue v r).items k ≡ true → (carries (queue u r).items k ≡ true) ⊎
      ((r ≡ q) × (k ≡ c))
  was r k e = elim (queue_appended u q x r k ((more.queues r).has k e)) [
    | inl there ↦ inl there
    | inr last ↦ inr (last.0, last.1 ∙ id)
  ]

  -- the queue of an older frame of the lane is the one for the new frame
  joins : (r a : ℕ) → carries (queue u r).items a ≡ true → lane a ≡ lane c → r ≡ q
  joins r a e same = together most u i p.lane p.known p.one p.home keeps s t flow below r a e
      (sym (old a (queued_old r a e)) ∙ same ∙ new) ∙ sym into

  lines_put : (a b : ℕ) → Lines flows lane l v (side u a b)
  lines_put a b =
      let h : Lines flows p.lane l u (side u a b) = p.sides a b in
      record {
        known = λ n from low. agrees_old _ (number_old a b n from low) (h.known n from low);
        rising = λ n m from less low. both_old _ _ (number_old a b n from (omega (arith, less, low)))
            (number_old a b m (omega (arith, from, less)) low) (h.rising n m from less low);
        queued = λ n r k from low e. elim (was r k e) [
          | inl there ↦ both_old _ k (number_old a b n from low) (queued_old r k there)
              (h.queued n r k from low there)
          | inr last ↦ (λ _. omega (arith, number_old a b n from low, last.1))
        ];
        passed = λ n k from low start e. both_old k _ (listed_old k e) (number_old a b n from low)
            (h.passed n k from low start e);
      }

  lined_put : (ks : List ℕ) → ((k : ℕ) → has ks k ≡ true → k < c) → AreLined p.lane ks → AreLined lane ks
  lined_put [] low h = tt
  lined_put (k ∷ ks) low h = (
    λ j e. both_old k j (low k (or_left (k == k) (has ks k) (yes_eq k k refl)))
        (low j (or_right (k == j) (has ks j) e)) (h.0 j e),
    lined_put ks (λ j e. low j (or_right (k == j) (has ks j) e)) h.1,
  )

  pub line_put : Placing l v → InLine flows l v
  line_put placing = record {
    placing = placing;
    lane = lane;
    one = λ r r' a b e d same. elim (was r a e) [
      | inl there ↦ elim (was r' b d) [
        | inl there' ↦ p.one r r' a b there there'
            (sym (old a (queued_old r a there)) ∙ same ∙ old b (queued_old r' b there'))
        | inr last ↦ joins r a there (same ∙ ap lane last.1) ∙ sym last.0
      ]
      | inr first ↦ elim (was r' b d) [
        | inl there' ↦ first.0 ∙ sym (joins r' b there' (sym same ∙ ap lane first.1))
        | inr last ↦ first.0 ∙ sym last.0
      ]
    ];
    home = λ r a low e. elim (was r a e) [
      | inl there ↦ ap (λ (z : Lane). z.queue) (old a (queued_old r a there)) ∙ p.home r a low there
      | inr last ↦ ap (λ (z : Lane). z.queue) (ap lane last.1 ∙ new)
          ∙ sym (shared_if (goes_over u s t (flow % flows)) (overflow_queue u s t) (flow % flows) flows
          (omega arith) (omega (arith, low, last.0, into)))
          ∙ sym into ∙ sym last.0
    ];
    known = λ r a e. elim (was r a e) [
      | inl there ↦ agrees_old a (queued_old r a there) (p.known r a there)
      | inr last ↦ ap lane last.1 ∙ new ∙ ap (lane_of flows) (sym note)
          ∙ ap (λ (k : ℕ). lane_of flows (frame v k).note) (sym last.1)
    ];
    sides = λ a b. subst (Lines flows lane l v) (sym (sides a b)) (lines_put a b);
    released = λ k r j e d. elim (was r j d) [
      | inl there ↦ both_old k j (listed_old k e) (queued_old r j there) (p.released k r j e there)
      | inr last ↦ (λ _. omega (arith, listed_old k e, last.1))
    ];
    listed = λ k e. agrees_old k (listed_old k e) (p.listed k e);
    lined = lined_put l listed_old p.lined;
  }

config_head : (items : List Item) (w : World) (q : ℕ) → (without_head w q items).config ≡ w.config
unfolding without_head with_frame_finished with_fate on_queue
config_head [] w q = refl
config_head (x ∷ rest) w q = refl

config_limit : (w : World) → (after_limit w).config ≡ w.config
unfolding after_limit
config_limit w = on_if (λ (v : World). v.config ≡ w.config) (is_at_limit w)
    (without_head w (longest_queue w) (queue w (longest_queue w)).items) w
    (λ _. config_head (queue w (longest_queue w)).items w (longest_queue w)) (λ _. refl)

last_note : (fs : List Frame) (x : Frame) (k : ℕ) → k ≡ length fs → at no_frame (fs ++ x ∷ []) k ≡ x
last_note [] x k e = ap (at no_frame (x ∷ [])) e
last_note (y ∷ fs) x k e = ap (at no_frame (y ∷ (fs ++ x ∷ []))) e ∙ last_note fs x (length fs) refl

note_with_frame : (w : World) (note : Note) (k : ℕ) → k ≡ accepted_count w →
    (frame (with_frame w note) k).note ≡ note
unfolding with_frame
note_with_frame w note k e = ap (λ (f : Frame). f.note)
    (last_note w.frames (record { note = note; fate = Held }) k e)

pub line_enqueued : (most flows : ℕ) (l : List ℕ) (w : World) (s t flow len : ℕ) →
    IsShelved most (shelves w) → w.config.flows ≡ flows → w.config.keep_order ≡ 1 → t < 8 → InLine flows l w →
    InLine flows l (enqueue_outcome w s t flow len).world
unfolding enqueue_outcome
line_enqueued most flows l w s t flow len i same keeps below p =
    let u : World = after_limit w in
    let q : ℕ = queue_for u s t flow in
    let x : Item = record { id = accepted_count w; stamp = w.clock; len = len } in
    let a : World = after_put_in u s t q x in
    let note : Note = Enqueue s t flow len in
    let config : Config = u.config in
    let is_flows : u.config.flows ≡ flows = ap (λ (z : Config). z.flows) (config_limit w) ∙ same in
    let h : Less Any w u = less_within_limit Any w in
    let k : Less Any (with_appended u q x) a = less_put_in u s t q x in
    let as_many : accepted_count u ≡ accepted_count w = accepted_limit l w p.placing in
    subst (λ (n : ℕ). InLine n l (with_frame a note)) is_flows
    (line_put most l u (with_frame a note) s t flow len q (accepted_count w) x (shelved_within_limit most w i)
    (ap (λ (z : Config). z.keep_order) (config_limit w) ∙ keeps) below
    (subst (λ (n : ℕ). InLine n l u) (sym is_flows) (line_less flows l w u h (same_within_limit w).sides p))
    refl refl as_many (then_less Any _ a _ k (less_with_frame a note))
    (λ b d. side_with_frame a note b d ∙ (same_put_in u s t q x).sides b d)
    (note_with_frame a note (accepted_count w) (sym (accepted_put u s t q x ∙ as_many)))
    (placed_enqueued l w s t flow len p.placing))
