-- Proves that each call keeps the invariant of the shelves, by cases of the call.
use Rattle.wf_law_runs.proofs.Queues.Shelved.{part_none, restated, each_item, IsWithin, IsOf, Owned, IsShelved, IsPart, part_tail, IsLeft, left_dequeue, if_longer, keep_queue, CanList, relisted, appended_to, noted, paid}
use Rattle.wf_law_runs.specs.Ranges.{CountsRight}
use Rattle.wf_law_runs.proofs.Queues.Drops.{counts_renewed, counts_listed, counts_dequeue}
use Rattle.wf_law_rules.proofs.Lemmas.Sums.{length_put}
use Rattle.wf_def_rotation.specs.Rotation.{no_keys, Rotation, has_key, in_order, with_new_key}
use Rattle.wf_law_rules.proofs.Lemmas.Counts.{on-has, on-nil, on-cons_same, on-cons_other, on-append, on-filter, has-on}
use Rattle.std.proofs.Common.{map, nat_lt, ◌-◌, ◌≡◌, refl, ap, sym, ◌∙◌, subst, arith, ℕ, zero, suc, ◌*◌, ◌%◌, ◌<◌, ◌≤◌, ℤ, pos, ◌+ℤ◌, ◌-ℤ◌, ◌≤ℤ◌, Bool, true, false, not, ◌&&◌, ◌||◌, ◌==◌, if◌then◌else◌, List, [], ◌∷◌, ◌++◌, length, Option, Some, None, IfSome, inl, inr, ◌⊎◌}
use Rattle.wf_def_codel.specs.Codel.{renewed, Item, Dequeued, dequeue}
use Rattle.wf_law_runs.proofs.Windows.Sides.{Same, same_take, on_live, same_after_turn, same_within_limit, same_picked}
use Rattle.wf_frame.specs.declared.classes.Cause.TheVariants.{Left, Overlimit}
use Rattle.wf_def_world.specs.World.{on_session, with_frames_finished, Mpdu, Mode, Plain, Agreed, new_tid, session, rotation, World, Queue, no_frame, queue, tid_of, is_live, accepted_count, live_stations, codel_params, on_queue, with_queues, with_frame_finished, with_fate, on_tid, on_station, with_station}
use Rattle.wf_def_world.specs.FlowQueues.{after_queues_left, after_queue_left, after_queues_flushed, after_queue_flushed, longest_queue, without_head, after_limit, is_listed_elsewhere, goes_over, overflow_queue, queue_for, when_listed, with_listed_queue, with_appended, after_put_in, queue_need, has_frames, with_queues_paid, len_given, taken_by_codel, taken_from_picked, picked_queue, taken_for_tid, is_at_limit}
use Rattle.wf_law_runs.proofs.Queues.Shelves.{spot, shelves_with_station, shelves_on_session, shelves_sent, shelves_after_turn, shelves_off_lists, Spot, Shelves, shelves, with_listed, with_queue, with_note, all_paid, shelves_with_queues, shelves_on_queue, shelves_finish, shelves_finish_all, shelves_pay_queues, shelves_with_frame, shelves_picked, shelves_caught_up}
use Rattle.wf_law_rules.proofs.Lemmas.Numbers.{on_bool, lt_yes, lt_no, has_with, has_old, on_if, yes_lt, yes_eq, or_left, or_right, either, eq_yes}
use Rattle.wf_frame.specs.declared.classes.Class.{Class}
use Rattle.wf_frame.specs.declared.notes.Limits.{Limits}
use Rattle.wf_def_agreement.specs.Session.{request_due}
use Rattle.wf_frame.specs.Classes.{all_classes}
use Rattle.wf_def_world.specs.CanSend.{is_ready}
use Rattle.wf_def_world.specs.Exchanges.{Prepared, with_number, with_fresh, aggregate_of, longest_fitting, waiting_mpdus, most_frames, prepared_data, prepared_exchange, sending_tid, after_tid_turn, picked_station, station_need, Aggregate}
use Rattle.wf_def_world.specs.Step.{pull_outcome_for, pull_outcome, waiting_ids, in_rising_order, after_tid_left, after_tids_left, without_listings, leave_outcome, after_tid_flushed, flush_outcome, join_outcome, enqueue_outcome, offload_outcome, plain_outcome, plain_window, new_station}
use Rattle.wf_law_runs.proofs.Windows.Opened.{eight, some_along, left_true, pick_ready}
use Rattle.wf_law_runs.proofs.Deficits.Books.{each_upd, upd, upd_same, upd_other}
use Rattle.std.proofs.Math.Path.{fun_ext}
use Rattle.std.proofs.lemmas.Int.{ints}
use Rattle.std.proofs.lemmas.Nat.{mod_below}
use Rattle.std.proofs.lemmas.Bool.{cases_eq, or_parts}
use Rattle.std.specs.List.{list_any}
use Rattle.wf_frame.specs.declared.classes.Fate.TheVariants.{Dropped}
use Rattle.wf_frame.specs.declared.notes.Note.{Note}
use Rattle.wf_frame.specs.declared.notes.Note.TheVariants.{Enqueue}
use Rattle.wf_def_lists.specs.Table.{has, upto}
use Rattle.wf_law_runs.specs.Queues.{EachItem, IsFor}
use Rattle.wf_def_lists.specs.Lists.{on}
use Rattle.wf_def_lists.specs.Bounds.{greatest_window}
use Rattle.wf_law_runs.proofs.Frames.Fewer.{carries, queue_on, less_within_limit}
use Rattle.wf_law_runs.proofs.Releases.Placed.{Placing, Any}
use Rattle.wf_law_rules.proofs.Lemmas.Rotations.{pick_on, pick_keeps, pick_need, IsWinner, pick_winner}
use Rattle.wf_law_runs.proofs.Common.Picked.{picked_world}
use Rattle.wf_law_runs.proofs.Deficits.Bounds.{paid_least}
use Rattle.wf_law_runs.proofs.Deficits.Kept.{added-on, unlisted-on}
use Rattle.wf_law_runs.proofs.Deficits.MildStep.{lists-on, on_upto}

-- ---- a queue loses its head because of the limit

shelved_without_head : (items : List Item) (most : ℕ) (w : World) (q : ℕ) → (queue w q).items ≡ items →
    IsShelved most (shelves w) → IsShelved most (shelves (without_head w q items))
unfolding without_head
shelved_without_head [] most w q e i = i
shelved_without_head (x ∷ rest) most w q e i =
    subst (IsShelved most) (sym (shelves_finish _ (Dropped Overlimit) x.id ∙ shelves_on_queue w q _))
    (keep_queue most (shelves w) q (record (queue w q) { items = rest })
    (subst (λ (ys : List Item). IsPart ys rest) (sym e) (part_tail x rest)) (λ s t l. i.deficits s t q l)
    (i.counts q) i)

pub shelved_within_limit : (most : ℕ) (w : World) → IsShelved most (shelves w) →
    IsShelved most (shelves (after_limit w))
unfolding after_limit
shelved_within_limit most w i =
    on_if (λ (v : World). IsShelved most (shelves v)) (is_at_limit w)
    (without_head w (longest_queue w) (queue w (longest_queue w)).items) w
    (λ _. shelved_without_head (queue w (longest_queue w)).items most w (longest_queue w) refl i) (λ _. i)

-- ---- a frame is added

pub on_listed : (r : Rotation) (q : ℕ) → has_key r q ≡ true → 0 < on (in_order r) q
on_listed r q e = elim (either (has r.new q) (has r.old q) e) [
  | inl h ↦ omega (arith, on-append r.old r.new q, has-on r.new q h)
  | inr h ↦ omega (arith, on-append r.old r.new q, has-on r.old q h)
]

upd_twice : {X : Type 0} (f : ℕ → X) (k : ℕ) (x y : X) → upd (upd f k x) k y ≡ upd f k y
upd_twice {X} f k x y = fun_ext (λ i. elim (cases_eq i k) [
  | inl e ↦ subst (λ (n : ℕ). upd (upd f k x) k y n ≡ upd f k y n) (sym e)
      (upd_same (upd f k x) k y ∙ sym (upd_same f k y))
  | inr other ↦ upd_other (upd f k x) k i y other ∙ (upd_other f k i x other ∙ sym (upd_other f k i y other))
])

whole : (xs : List Item) → IsPart xs xs
whole xs = record { each = λ notes most s t h. h; aged = λ hi a. a; some = λ h. h }

fresh_within : (quantum most : ℕ) → 0 < quantum → IsWithin quantum most (pos quantum)
fresh_within quantum most h = record { highest = omega (arith, ints); lowest = omega (arith, ints, h) }

-- After q is added to the queues of a TID, no queue is listed twice.
added_few : (r : Rotation) (q : ℕ) → ((p : ℕ) → on (in_order r) p ≤ 1) → on (in_order r) q ≡ 0 → (p : ℕ) →
    on (in_order (with_new_key r q)) p ≤ 1
added_few r q h none p = elim (cases_eq q p) [
  | inl e ↦ subst (λ (z : ℕ). on (in_order (with_new_key r q)) z ≤ 1) e
      (omega (arith, added-on r q q, none, on-cons_same q [], on-nil q))
  | inr other ↦ omega (arith, added-on r q p, h p, on-cons_other q p [] other, on-nil p)
]

added_from : (r : Rotation) (q p : ℕ) → 0 < on (in_order (with_new_key r q)) p → (0 < on (in_order r) p) ⊎
    (q ≡ p)
added_from r q p l = elim (cases_eq q p) [
  | inl e ↦ inr e
  | inr other ↦ inl (omega (arith, l, added-on r q p, on-cons_other q p [] other, on-nil p))
]

-- TID t of station s may list queue q.
record CanTake (b : Shelves) (s t q : ℕ) : Type 0 where
  live : (b.spots s).live ≡ true
  below : t < 8
  owned : Owned b.config s t q
  apart : (i j : ℕ) → 0 < (b.spots i).listed j q → (i ≡ s) × (j ≡ t)

-- A frame is added to a queue that TID t of s does not list yet.
put_new : (most : ℕ) (b : Shelves) (s t q : ℕ) (x : Item) (r : Rotation) →
    (b.spots s).listed t ≡ (λ p. on (in_order r) p) → has_key r q ≡ false → CanTake b s t q →
    IsOf b.notes most s t x → x.stamp ≡ b.clock → IsShelved most b →
    IsShelved most (with_listed (with_queue b q (when_listed b.config (record
    (b.queues q) { items = (b.queues q).items ++ x ∷ [] }))) s t
    (λ p. on (in_order (with_new_key r q)) p))
put_new most b s t q x r same unlisted c own now i =
    subst (λ (f : ℕ → Queue). IsShelved most (record (with_listed b s t g) { queues = f }))
    (upd_twice b.queues q y z) put
  where
    g : ℕ → ℕ
    g = λ p. on (in_order (with_new_key r q)) p

    y : Queue
    y = when_listed b.config (b.queues q)

    z : Queue
    z = when_listed b.config (record (b.queues q) { items = (b.queues q).items ++ x ∷ [] })

    calm : CountsRight y.codel
    calm = counts_listed b.config (b.queues q) (i.counts q)

    was : (p : ℕ) → (b.spots s).listed t p ≡ on (in_order r) p
    was p = ap (λ (f : ℕ → ℕ). f p) same

    first : IsShelved most (with_queue b q y)
    first = keep_queue most b q y (whole (b.queues q).items)
        (λ j k l. fresh_within b.config.flow_quantum most i.quantum) calm i

    fresh : (with_queue b q y).queues q ≡ y
    fresh = upd_same b.queues q y

    can : CanList most (with_queue b q y) s t q
    can = record {
      live = c.live;
      below = c.below;
      owned = c.owned;
      apart = c.apart;
      deficit = subst (λ (u : Queue). IsWithin b.config.flow_quantum most u.deficit) (sym fresh)
          (fresh_within b.config.flow_quantum most i.quantum);
    }

    second : IsShelved most (with_listed (with_queue b q y) s t g)
    second = relisted most (with_queue b q y) s t g
        (added_few r q (λ p. omega (arith, was p, i.once s t p)) (unlisted-on r q unlisted))
        (λ p l. elim (added_from r q p l) [
          | inl o ↦ inl (omega (arith, was p, o))
          | inr e ↦ inr (subst (CanList most (with_queue b q y) s t) e can)
        ])
        (λ p h l. omega (arith, added-on r q p, was p, l)) first

    here : 0 < ((with_listed (with_queue b q y) s t g).spots s).listed t q
    here =
        subst (λ (u : Spot). 0 < u.listed t q) (sym (upd_same b.spots s
        (record (b.spots s) { listed = upd (b.spots s).listed t g })))
        (subst (λ (f : ℕ → ℕ). 0 < f q) (sym (upd_same (b.spots s).listed t g))
        (omega (arith, added-on r q q, on-cons_same q [], on-nil q)))

    put : IsShelved most (with_queue (with_listed (with_queue b q y) s t g) q z)
    put = appended_to most (with_listed (with_queue b q y) s t g) s t q x z here own now
        (ap (λ (u : Queue). u.items ++ x ∷ []) (sym fresh)) (ap (λ (u : Queue). u.deficit) (sym fresh))
        calm second

any_false : (p : ℕ → Bool) (xs : List ℕ) (y : ℕ) → list_any p xs ≡ false → 0 < on xs y → p y ≡ false
any_false p [] y h k = absurd (let none : on [] y ≡ 0 = on-nil y in omega arith)
any_false p (x ∷ xs) y h k =
    let both : (p x ≡ false) × (list_any p xs ≡ false) = neither (p x) (list_any p xs) h in
    elim (cases_eq x y) [
      | inl e ↦ sym (ap p e) ∙ both.0
      | inr other ↦ any_false p xs y both.1 (omega (arith, on-cons_other x y xs other))
    ]
  where
    neither : (a b : Bool) → (a || b) ≡ false → (a ≡ false) × (b ≡ false)
    neither true b h = absurd (cc h)
    neither false b h = (refl, h)

-- No other TID lists the queue for a frame.
alone : (most : ℕ) (w : World) (s t flow i j : ℕ) → IsShelved most (shelves w) → t < 8 →
    0 < on (in_order (tid_of w i j).queues) (queue_for w s t flow) → (i ≡ s) × (j ≡ t)
alone most w s t flow i j k below h = go (goes_over w s t (flow % w.config.flows)) refl h
  where
    same_pair : (a b : Bool) → not (a && b) ≡ false → (a ≡ true) × (b ≡ true)
    same_pair true true e = (refl, refl)
    same_pair true false e = absurd (cc e)
    same_pair false b e = absurd (cc e)

    last_false : (a b : Bool) → (a && b) ≡ false → b ≡ true → a ≡ false
    last_false true b e f = absurd (cc (e, f))
    last_false false b e f = refl

    go : (b : Bool) → goes_over w s t (flow % w.config.flows) ≡ b →
        0 < on (in_order (tid_of w i j).queues) (if b then overflow_queue w s t else flow % w.config.flows) →
        (i ≡ s) × (j ≡ t)
    go true e l =
        let low : j < 8 = k.below i j (overflow_queue w s t) l in
        elim (k.owned i j (overflow_queue w s t) l) [
          | inl less ↦ absurd (omega (arith, less))
          | inr own ↦ (omega (arith, own, low, below), omega (arith, own, low, below))
        ]
    go false e l =
        let q : ℕ = flow % w.config.flows in
        let live : is_live w i ≡ true = k.live i j q l in
        let here : 0 < on (live_stations w) i = omega (
          arith,
          on-filter (is_live w) (upto w.config.stations) i live,
          on_upto w.config.stations i (k.range i live),
        ) in
        let none : list_any (λ m. not ((i == s) && (m == t)) && has_key (tid_of w i m).queues q) (upto 8)
        ≡ false =
        any_false (λ x. list_any (λ m. not ((x == s) && (m == t)) && has_key (tid_of w x m).queues q)
        (upto 8)) (live_stations w) i (or_parts (is_listed_elsewhere w s t q) _ e).0 here in
        let not_here : (not ((i == s) && (j == t)) && has_key (tid_of w i j).queues q) ≡ false =
        any_false (λ m. not ((i == s) && (m == t)) && has_key (tid_of w i m).queues q) (upto 8) j none
        (on_upto 8 j (k.below i j q l)) in
        let d = same_pair (i == s) (j == t) (last_false (not ((i == s) && (j == t)))
        (has_key (tid_of w i j).queues q) not_here (lists-on (tid_of w i j).queues q l)) in
        (eq_yes i s d.0, eq_yes j t d.1)

owned_for : (w : World) (s t flow : ℕ) → 0 < w.config.flows → Owned w.config s t (queue_for w s t flow)
owned_for w s t flow some = go (goes_over w s t (flow % w.config.flows))
  where
    go : (b : Bool) → Owned w.config s t (if b then overflow_queue w s t else flow % w.config.flows)
    go true = inr refl
    go false = inl (mod_below flow w.config.flows some)

put_made : (w : World) (s t q : ℕ) (x : Item) (r : Rotation) → is_live w s ≡ true →
    shelves (with_queues (on_queue (with_appended w q x) q
    (when_listed w.config)) s t r)
    ≡ with_listed (with_queue (shelves w) q (when_listed w.config (record
    (queue w q) { items = (queue w q).items ++ x ∷ [] }))) s t
    (λ p. on (in_order r) p)
unfolding with_appended on_queue
put_made w s t q x r live =
    let f : Queue → Queue = λ y. record y { items = y.items ++ x ∷ [] } in
    let h : Queue → Queue = when_listed w.config in
    let v : World = on_queue w q f in
    shelves_with_queues (on_queue v q h) s t r live
    ∙ ap (λ (u : Shelves). with_listed u s t (λ p. on (in_order r) p))
    (shelves_on_queue v q h ∙ (ap (λ (u : Shelves). with_queue u q (h (queue v q))) (shelves_on_queue w q f)
    ∙ (ap (λ (k : ℕ → Queue). record (shelves w) { queues = k })
    (upd_twice (shelves w).queues q (f (queue w q)) (h (queue v q)))
    ∙ ap (λ (y : Queue). with_queue (shelves w) q (h y)) (queue_on w q f))))

put_listed : (w : World) (q : ℕ) (x : Item) →
    shelves (with_appended w q x) ≡ with_queue (shelves w) q
    (record (queue w q) { items = (queue w q).items ++ x ∷ [] })
unfolding with_appended
put_listed w q x = shelves_on_queue w q _

-- The world after a frame is added. Its note is added first.
shelved_put : (b : Bool) (most : ℕ) (w : World) (s t q : ℕ) (x : Item) (note : Note) →
    has_key (tid_of w s t).queues q ≡ b → is_live w s ≡ true → CanTake (shelves w) s t q → IsFor s t note →
    x.len ≤ most → x.stamp ≡ w.clock
    → ((p : ℕ) → EachItem (λ y. y.id ≡ x.id → ⊥) (queue w p).items) → IsShelved most (shelves w)
    → IsShelved most (with_note (shelves (if b then with_appended w q x
    else with_queues (on_queue (with_appended w q x) q
    (when_listed w.config)) s t (with_new_key (tid_of w s t).queues q)))
    x.id note)
shelved_put true most w s t q x note listed live c for short now apart i =
    let b : Shelves = with_note (shelves w) x.id note in
    let own : IsOf b.notes most s t x = (
      subst (IsFor s t) (sym (upd_same (shelves w).notes x.id note)) for,
      short,
    ) in
    subst (λ (u : Shelves). IsShelved most (with_note u x.id note)) (sym (put_listed w q x))
    (appended_to most b s t q x (record (queue w q) { items = (queue w q).items ++ x ∷ [] })
    (on_listed (tid_of w s t).queues q listed) own now refl refl (i.counts q)
    (noted most (shelves w) x.id note apart i))
shelved_put false most w s t q x note listed live c for short now apart i =
    let b : Shelves = with_note (shelves w) x.id note in
    let own : IsOf b.notes most s t x = (
      subst (IsFor s t) (sym (upd_same (shelves w).notes x.id note)) for,
      short,
    ) in
    subst (λ (u : Shelves). IsShelved most (with_note u x.id note))
    (sym (put_made w s t q x (with_new_key (tid_of w s t).queues q) live))
    (put_new most b s t q x (tid_of w s t).queues refl listed
    (record { live = c.live; below = c.below; owned = c.owned; apart = c.apart }) own now
    (noted most (shelves w) x.id note apart i))

accepted_head : (items : List Item) (w : World) (q : ℕ) →
    ((k : ℕ) → carries items k ≡ true → k < accepted_count w) →
    accepted_count (without_head w q items) ≡ accepted_count w
unfolding without_head with_frame_finished with_fate on_queue
accepted_head [] w q h = refl
accepted_head (x ∷ rest) w q h = length_put no_frame w.frames x.id _
    (h x.id (or_left (x.id == x.id) (carries rest x.id) (yes_eq x.id x.id refl)))

pub accepted_limit : (l : List ℕ) (w : World) → Placing l w →
    accepted_count (after_limit w) ≡ accepted_count w
unfolding after_limit
accepted_limit l w p =
    on_if (λ (v : World). accepted_count v ≡ accepted_count w) (is_at_limit w)
    (without_head w (longest_queue w) (queue w (longest_queue w)).items) w
    (λ _. accepted_head (queue w (longest_queue w)).items w (longest_queue w)
    (λ k e. (p.queued (longest_queue w) k e).old)) (λ _. refl)

pub accepted_put : (w : World) (s t q : ℕ) (x : Item) →
    accepted_count (after_put_in w s t q x) ≡ accepted_count w
unfolding after_put_in with_appended with_listed_queue on_queue with_queues on_tid on_station with_station
accepted_put w s t q x = on_if (λ (v : World). accepted_count v ≡ accepted_count w) _ _ _ (λ _. refl)
    (λ _. refl)

-- No queued frame has the new id.
none_new : (xs : List Item) (c : ℕ) → ((k : ℕ) → carries xs k ≡ true → k < c) →
    EachItem (λ y. y.id ≡ c → ⊥) xs
none_new [] c h = tt
none_new (x ∷ xs) c h = (
  (λ e. let l : x.id < c = h x.id (or_left (x.id == x.id) (carries xs x.id) (yes_eq x.id x.id refl)) in
      omega (arith, e, l)),
  none_new xs c (λ k e. h k (or_right (x.id == k) (carries xs k) e)),
)

clock_head : (items : List Item) (w : World) (q : ℕ) → (without_head w q items).clock ≡ w.clock
unfolding without_head with_frame_finished with_fate on_queue
clock_head [] w q = refl
clock_head (x ∷ rest) w q = refl

clock_limit : (w : World) → (after_limit w).clock ≡ w.clock
unfolding after_limit
clock_limit w = on_if (λ (v : World). v.clock ≡ w.clock) (is_at_limit w)
    (without_head w (longest_queue w) (queue w (longest_queue w)).items) w
    (λ _. clock_head (queue w (longest_queue w)).items w (longest_queue w)) (λ _. refl)

shelved_put_in : (most : ℕ) (w : World) (s t q : ℕ) (x : Item) (note : Note) → is_live w s ≡ true →
    CanTake (shelves w) s t q → IsFor s t note → x.len ≤ most → x.stamp ≡ w.clock
    → ((p : ℕ) → EachItem (λ y. y.id ≡ x.id → ⊥) (queue w p).items) → IsShelved most (shelves w) →
    IsShelved most (with_note (shelves (after_put_in w s t q x)) x.id note)
unfolding after_put_in with_listed_queue with_appended on_queue
shelved_put_in most w s t q x note live c for short now apart i =
    shelved_put (has_key (tid_of w s t).queues q) most w s t q x note refl live c for short now apart i

pub shelved_enqueued : (l : List ℕ) (most : ℕ) (w : World) (s t flow len : ℕ) → Placing l w →
    is_live w s ≡ true → t < 8 → len ≤ most → IsShelved most (shelves w) →
    IsShelved most (shelves (enqueue_outcome w s t flow len).world)
unfolding enqueue_outcome
shelved_enqueued l most w s t flow len p live below short i =
    let u : World = after_limit w in
    let q : ℕ = queue_for u s t flow in
    let x : Item = record { id = accepted_count w; stamp = w.clock; len = len } in
    let a : World = after_put_in u s t q x in
    let note : Note = Enqueue s t flow len in
    let k : IsShelved most (shelves u) = shelved_within_limit most w i in
    let live_u : is_live u s ≡ true = (same_within_limit w).live s ∙ live in
    let same_id : accepted_count a ≡ accepted_count w = accepted_put u s t q x ∙ accepted_limit l w p in
    subst (IsShelved most) (sym (shelves_with_frame a note
    ∙ ap (λ (n : ℕ). with_note (shelves a) n note) same_id))
    (shelved_put_in most u s t q x note live_u (record {
      live = live_u;
      below = below;
      owned =
          owned_for u s t flow k.flows;
      apart = λ i j h. alone most u s t flow i j k below h;
    })
    (refl, refl) short (sym (clock_limit w))
    (λ r. none_new (queue u r).items (accepted_count w)
    (λ j e. (p.queued r j (((less_within_limit Any w).queues r).has j e)).old)) k)

-- ---- a frame is taken

shelved_dequeued : (most : ℕ) (w : World) (q : ℕ) (d : Dequeued) → IsPart (queue w q).items d.rest →
    len_given d.given ≤ most → pos 1 ≤ℤ (queue w q).deficit → CountsRight d.state →
    IsShelved most (shelves w) → IsShelved most (shelves (taken_by_codel w q d).world)
unfolding taken_by_codel
shelved_dequeued most w q d part short above right i =
    subst (IsShelved most) (sym (shelves_finish_all _ _ _ ∙ shelves_on_queue w q _))
    (keep_queue most (shelves w) q (record {
      items = d.rest;
      deficit =
          (queue w q).deficit -ℤ pos (len_given d.given);
      codel = d.state;
    }) part
    (λ s t l. let k : IsWithin w.config.flow_quantum most (queue w q).deficit = i.deficits s t q l in
    record { highest = omega (arith, ints, k.highest); lowest = omega (arith, ints, short, above) }) right
    i)

shelved_taken : (o : Option ℕ) (most : ℕ) (w : World) (s : ℕ) →
    IfSome o (λ q. pos 1 ≤ℤ (queue w q).deficit × EachItem (λ x. x.len ≤ most) (queue w q).items) →
    IsShelved most (shelves w) → IsShelved most (shelves (taken_from_picked w s o).world)
unfolding taken_from_picked
shelved_taken None most w s h i = i
shelved_taken (Some q) most w s h i =
    let d : Dequeued = dequeue (codel_params w s) w.clock (queue w q).codel (queue w q).items in
    let k : IsLeft (queue w q).items d = left_dequeue (queue w q).items (codel_params w s) w.clock
    (queue w q).codel in
    shelved_dequeued most w q d k.part (if_longer d.given most (k.given most h.1)) h.0
    (counts_dequeue (codel_params w s) w.clock (queue w q).codel (queue w q).items (i.counts q)) i

all_once : (m n k : ℕ) → m ≤ 1 → 0 < m → n ≡ k → m * n ≡ k
all_once m n k h some e = let one : m ≡ 1 = omega (arith, h, some) in rw (one, e) (omega arith)

pub shelved_take : (most : ℕ) (w : World) (s t : ℕ) → is_live w s ≡ true → IsShelved most (shelves w) →
    IsShelved most (shelves (taken_for_tid w s t).world)
unfolding taken_for_tid
shelved_take most w s t live i = go (picked_queue w s t).winner refl
  where
    r : Rotation
    r = (tid_of w s t).queues

    quanta : ℕ → ℕ
    quanta = (picked_queue w s t).quanta

    u : World
    u = with_queues_paid w (picked_queue w s t).quanta (in_order (tid_of w s t).queues)

    paid_is : shelves u ≡ all_paid (shelves w) (picked_queue w s t).quanta (in_order (tid_of w s t).queues)
    paid_is = shelves_pay_queues (in_order (tid_of w s t).queues) w (picked_queue w s t).quanta

    first : IsShelved most (shelves u)
    first = subst (IsShelved most) (sym paid_is)
        (paid most (shelves w) (picked_queue w s t).quanta (λ q. on (in_order (tid_of w s t).queues) q)
        (i.once s t) (λ q. pick_need (queue_need w) (has_frames w) (tid_of w s t).queues q) i)

    live_u : is_live u s ≡ true
    live_u = ap (λ (b : Shelves). (b.spots s).live) paid_is ∙ live

    listed_is : (q : ℕ) → ((shelves u).spots s).listed t q ≡ on (in_order (tid_of w s t).queues) q
    listed_is q = ap (λ (b : Shelves). (b.spots s).listed t q) paid_is

    items_are : (q : ℕ) → (queue u q).items ≡ (queue w q).items
    items_are q = ap (λ (b : Shelves). (b.queues q).items) paid_is

    v : World
    v = with_queues u s t (picked_queue w s t).lists

    listing : shelves v ≡ with_listed (shelves u) s t (λ q. on (in_order (picked_queue w s t).lists) q)
    listing = shelves_with_queues u s t (picked_queue w s t).lists live_u

    second : IsShelved most (shelves v)
    second = subst (IsShelved most) (sym listing)
        (relisted most (shelves u) s t (λ q. on (in_order (picked_queue w s t).lists) q)
        (λ q. omega (arith, pick_on (queue_need w) (has_frames w) (tid_of w s t).queues q, i.once s t q))
        (λ q l. inl (omega (
          arith,
          l,
          listed_is q,
          pick_on (queue_need w) (has_frames w)
              (tid_of w s t).queues q,
        )))
        (λ q h l.
        let is : has_frames w q ≡ true = yes_lt 0 (length (queue w q).items)
        (subst (λ (xs : List Item). 0 < length xs) (items_are q) h) in
        omega (arith, l, listed_is q, pick_keeps (queue_need w) (has_frames w) (tid_of w s t).queues q is))
        first)

    won : (q : ℕ) → (picked_queue w s t).winner ≡ Some q → pos 1 ≤ℤ (queue v q).deficit ×
        EachItem (λ x. x.len ≤ most) (queue v q).items
    won q e =
        let k : IsWinner (queue_need w) (has_frames w) (tid_of w s t).queues (picked_queue w s t) q =
        pick_winner (queue_need w) (has_frames w) (tid_of w s t).queues q e in
        let same : queue v q ≡ queue u q = ap (λ (b : Shelves). b.queues q) listing in
        let times : on (in_order (tid_of w s t).queues) q * (picked_queue w s t).quanta q ≡ queue_need w q =
        all_once _ _ _ (i.once s t q) k.listed k.given in
        let sum : (queue v q).deficit ≡ (queue w q).deficit +ℤ pos (queue_need w q * w.config.flow_quantum) =
        ap (λ (y : Queue). y.deficit) same ∙ (ap (λ (b : Shelves). (b.queues q).deficit) paid_is
        ∙ ap (λ (n : ℕ). (queue w q).deficit +ℤ pos (n * w.config.flow_quantum)) times) in
        let l : 0 < ((shelves u).spots s).listed t q = omega (arith, listed_is q, k.listed) in (
          subst (λ (d : ℤ). pos 1 ≤ℤ d) (sym sum) (paid_least w.config.flow_quantum
              (queue w q).deficit i.quantum),
          (subst (λ (y : Queue). EachItem (λ x. x.len ≤ most) y.items) (sym same)
              (each_item (IsOf (shelves u).notes most s t) (λ x. x.len ≤ most) (λ x h. h.1) (queue u q).items
              (first.mine s t q l))),
        )

    go : (o : Option ℕ) → (picked_queue w s t).winner ≡ o →
        IsShelved most (shelves (taken_from_picked v s (picked_queue w s t).winner).world)
    go o e = shelved_taken (picked_queue w s t).winner most v s
        (winners (picked_queue w s t).winner refl) second
      where
        winners : (o : Option ℕ) → (picked_queue w s t).winner ≡ o →
            IfSome o (λ q. pos 1 ≤ℤ (queue v q).deficit × EachItem (λ x. x.len ≤ most) (queue v q).items)
        winners None e = tt
        winners (Some q) e = won q e

-- ---- a pull

pub live_number : (o : Option Item) (w : World) (s t : ℕ) → is_live (with_number w s t o) s ≡ is_live w s
unfolding with_number on_session
live_number None w s t = refl
live_number (Some x) w s t = on_live w s t _ s

pub shelves_number : (o : Option Item) (w : World) (s t : ℕ) → shelves (with_number w s t o) ≡ shelves w
unfolding with_number
shelves_number None w s t = refl
shelves_number (Some x) w s t = shelves_on_session w s t _

shelved_if : (b : Bool) (most : ℕ) (x y : Aggregate) → IsShelved most (shelves x.world) →
    IsShelved most (shelves y.world) → IsShelved most (shelves (if b then x else y).world)
shelved_if true most x y h k = h
shelved_if false most x y h k = k

shelved_fresh : (n most : ℕ) (w : World) (s t : ℕ) (ms : List Mpdu) → is_live w s ≡ true →
    IsShelved most (shelves w) → IsShelved most (shelves (with_fresh n w s t ms).world)
unfolding with_fresh
shelved_fresh zero most w s t ms live i = i
shelved_fresh (suc n) most w s t ms live i =
    let v : World = (taken_for_tid w s t).world in
    let u : World = with_number v s t (taken_for_tid w s t).item in
    let k : IsShelved most (shelves u) = subst (IsShelved most)
    (sym (shelves_number (taken_for_tid w s t).item v s t)) (shelved_take most w s t live i) in
    shelved_if _ most _ _ i (shelved_if _ most _ _
    (shelved_fresh n most u s t _ (live_number (taken_for_tid w s t).item v s t
    ∙ ((same_take w s t).live s ∙ live)) k) k)

shelved_filled : (most : ℕ) (w : World) (s t : ℕ) → is_live w s ≡ true → IsShelved most (shelves w) →
    IsShelved most (shelves (aggregate_of w s t).world)
unfolding aggregate_of
shelved_filled most w s t live i =
    let chosen : List Mpdu = longest_fitting w s (waiting_mpdus w s t) in
    shelved_if (length chosen == length (waiting_mpdus w s t)) most
    (with_fresh (most_frames w s - length chosen) w s t chosen) (record { world = w; mpdus = chosen })
    (shelved_fresh (most_frames w s - length chosen) most w s t chosen live i) i

shelved_frames : (most : ℕ) (s t : ℕ) (f : Aggregate) → IsShelved most (shelves f.world) →
    IsShelved most (shelves (prepared_data s t f).world)
unfolding prepared_data
shelved_frames most s t f i = subst (IsShelved most) (sym (shelves_on_session f.world s t _)) i

shelved_prepared_if : (b : Bool) (most : ℕ) (x y : Prepared) → IsShelved most (shelves x.world) →
    IsShelved most (shelves y.world) → IsShelved most (shelves (if b then x else y).world)
shelved_prepared_if true most x y h k = h
shelved_prepared_if false most x y h k = k

shelved_prepared : (most : ℕ) (w : World) (s t : ℕ) → is_live w s ≡ true → IsShelved most (shelves w) →
    IsShelved most (shelves (prepared_exchange w s t).world)
unfolding prepared_exchange
shelved_prepared most w s t live i = shelved_prepared_if (request_due (session w s t)) most _ _ i
    (shelved_frames most s t (aggregate_of w s t) (shelved_filled most w s t live i))

shelved_pulled_by : (o : Option ℕ) (most : ℕ) (w : World) (c : Class) → IfSome o (λ s. is_live w s ≡ true) →
    IsShelved most (shelves w) → IsShelved most (shelves (pull_outcome_for w c o).world)
unfolding pull_outcome_for
shelved_pulled_by None most w c live i = i
shelved_pulled_by (Some s) most w c live i =
    let t : ℕ = sending_tid w s c in
    subst (IsShelved most) (sym (shelves_sent s t c _))
    (shelved_prepared most (after_tid_turn w s c t) s t ((same_after_turn w s c t).live s ∙ live)
    (subst (IsShelved most) (sym (shelves_after_turn w s c t)) i))

pub shelved_pulled : (most : ℕ) (w : World) (c : Class) (l : Limits) → IsShelved most (shelves w) →
    IsShelved most (shelves (pull_outcome w c l).world)
unfolding pull_outcome
shelved_pulled most w c l i =
    let k : Same w (picked_world w c l) = same_picked w c l in
    shelved_pulled_by (picked_station w c).winner most (picked_world w c l) c
    (some_along (λ s. is_ready w c s ≡ true) (λ s. is_live (picked_world w c l) s ≡ true)
    (picked_station w c).winner (λ s h. k.live s ∙ left_true (is_live w s) _ h)
    (pick_ready (station_need w c) (is_ready w c) (rotation w c)))
    (subst (IsShelved most) (sym (shelves_picked w c l)) i)

-- ---- a station leaves

-- The effect of a purge: the invariant is kept, no queue has more frames, and the purged queues have none.
record Purged (most : ℕ) (qs : List ℕ) (w v : World) : Type 0 where
  shelved : IsShelved most (shelves v)
  spots : (shelves v).spots ≡ (shelves w).spots
  fewer : (p : ℕ) → length (queue v p).items ≤ length (queue w p).items
  none : (p : ℕ) → has qs p ≡ true → length (queue v p).items ≡ 0

purged_one : (most : ℕ) (w : World) (q : ℕ) → IsShelved most (shelves w) →
    Purged most (q ∷ []) w (after_queue_left w q)
unfolding after_queue_left
purged_one most w q i =
    let y : Queue = record (queue w q) { items = []; codel = renewed (queue w q).codel } in
    let is : shelves (with_frames_finished
    (on_queue w q (λ y. record y { items = []; codel = renewed y.codel }))
    (Dropped Left) (map (λ x. x.id) (queue w q).items)) ≡ with_queue (shelves w) q y =
    shelves_finish_all _ _ _ ∙ shelves_on_queue w q _ in
    record {
      shelved = subst (IsShelved most) (sym is) (keep_queue most (shelves w) q y (part_none (queue w q).items)
          (λ s t l. i.deficits s t q l) (counts_renewed (queue w q).codel (i.counts q)) i);
      spots = ap (λ (b : Shelves). b.spots) is;
      fewer = λ p. subst (λ (z : Queue). length z.items ≤ length (queue w p).items)
          (sym (ap (λ (b : Shelves). b.queues p) is))
          (each_upd (λ p z. length z.items ≤ length (queue w p).items) (shelves w).queues q y
          (λ p. omega arith) (omega arith) p);
      none = λ p h. elim (either (q == p) false h) [
        | inl e ↦ (
            let same : q ≡ p = eq_yes q p e in
            subst (λ (z : Queue). length z.items ≡ 0) (sym (ap (λ (b : Shelves). b.queues p) is))
            (subst (λ (n : ℕ). length (upd (shelves w).queues q y n).items ≡ 0) same
            (subst (λ (z : Queue). length z.items ≡ 0) (sym (upd_same (shelves w).queues q y)) refl)))
        | inr e ↦ absurd (cc e)
      ];
    }

purged : (qs : List ℕ) (most : ℕ) (w : World) → IsShelved most (shelves w) →
    Purged most qs w (after_queues_left w qs)
unfolding after_queues_left
purged [] most w i = record {
  shelved = i;
  spots = refl;
  fewer = λ p. omega arith;
  none =
      λ p h. absurd (cc h);
}
purged (q ∷ qs) most w i =
    let one : Purged most (q ∷ []) w (after_queue_left w q) = purged_one most w q i in
    let more : Purged most qs (after_queue_left w q) (after_queues_left (after_queue_left w q) qs) =
    purged qs most (after_queue_left w q) one.shelved in
    record {
      shelved = more.shelved;
      spots = more.spots ∙ one.spots;
      fewer = λ p. omega (arith, more.fewer p, one.fewer p);
      none = λ p h. elim (either (q == p) (has qs p) h) [
        | inl e ↦ omega (arith, more.fewer p, one.none p (or_left (q == p) false e))
        | inr e ↦ more.none p e
      ];
    }

pub has_rising : (xs : List ℕ) (q : ℕ) → has xs q ≡ true → has (in_rising_order xs) q ≡ true
has_rising [] q h = absurd (cc h)
has_rising (x ∷ xs) q h = elim (either (x == q) (has xs q) h) [
  | inl e ↦ has_with (in_rising_order xs) x q ∙ or_left (x == q) (has (in_rising_order xs) q) e
  | inr e ↦ has_old (in_rising_order xs) x q (has_rising xs q e)
]

-- TID t of station s no longer lists any queue.
record Cleared (most : ℕ) (s t : ℕ) (w v : World) : Type 0 where
  shelved : IsShelved most (shelves v)
  live : is_live v s ≡ true
  none : (q : ℕ) → on (in_order (tid_of v s t).queues) q ≡ 0
  less : (j q : ℕ) → on (in_order (tid_of w s j).queues) q ≡ 0 → on (in_order (tid_of v s j).queues) q ≡ 0

cleared : (most : ℕ) (w : World) (s t : ℕ) → is_live w s ≡ true → IsShelved most (shelves w) →
    Cleared most s t w (after_tid_left w s t)
unfolding after_tid_left
cleared most w s t live i =
    let a : World = with_frames_finished w (Dropped Left) (waiting_ids (session w s t).slots) in
    let qs : List ℕ = in_rising_order (in_order (tid_of w s t).queues) in
    let b : World = after_queues_left a qs in
    let ka : IsShelved most (shelves a) = subst (IsShelved most) (sym (shelves_finish_all _ w _)) i in
    let p : Purged most qs a b = purged qs most a ka in
    let spots : (shelves b).spots ≡ (shelves w).spots =
    p.spots ∙ ap (λ (z : Shelves). z.spots) (shelves_finish_all _ w (Dropped Left)) in
    let live_b : is_live b s ≡ true = ap (λ (f : ℕ → Spot). (f s).live) spots ∙ live in
    let is : shelves (with_queues b s t no_keys) ≡ with_listed (shelves b) s t
    (λ q. on (in_order no_keys) q) = shelves_with_queues b s t no_keys live_b in
    let at_s : (shelves (with_queues b s t no_keys)).spots s
    ≡ record ((shelves b).spots s) {
      listed =
          upd ((shelves b).spots s).listed t (λ q. on (in_order no_keys) q);
    } =
    ap (λ (z : Shelves). z.spots s) is ∙ upd_same (shelves b).spots s _ in
    record {
      shelved = subst (IsShelved most) (sym is) (relisted most (shelves b) s t (λ q. on (in_order no_keys) q)
          (λ q. omega (arith, on-nil q))
          (λ q l. absurd (omega (arith, on-nil q, l)))
          (λ q h l.
          let was : 0 < on (in_order (tid_of w s t).queues) q =
          subst (λ (f : ℕ → Spot). 0 < (f s).listed t q) spots l in
          let gone : length (queue b q).items ≡ 0 = p.none q
          (has_rising (in_order (tid_of w s t).queues) q (on-has (in_order (tid_of w s t).queues) q was))
          in
          absurd (omega (arith, gone, h))) p.shelved);
      live = ap (λ (z : Spot). z.live) at_s ∙ live_b;
      none = λ q. ap (λ (z : Spot). z.listed t q) at_s
          ∙ (ap (λ (f : ℕ → ℕ). f q) (upd_same ((shelves b).spots s).listed t (λ q. on (in_order no_keys) q))
          ∙ on-nil q);
      less = λ j q h. ap (λ (z : Spot). z.listed j q) at_s
          ∙ each_upd (λ j f. on (in_order (tid_of w s j).queues) q ≡ 0 → f q ≡ 0)
          ((shelves b).spots s).listed t (λ q. on (in_order no_keys) q)
          (λ j h. ap (λ (f : ℕ → Spot). (f s).listed j q) spots ∙ h) (λ _. on-nil q) j h;
    }

-- The TIDs ts of station s no longer list any queue.
record AllCleared (most : ℕ) (s : ℕ) (ts : List ℕ) (w v : World) : Type 0 where
  shelved : IsShelved most (shelves v)
  none : (t q : ℕ) → has ts t ≡ true → on (in_order (tid_of v s t).queues) q ≡ 0
  less : (j q : ℕ) → on (in_order (tid_of w s j).queues) q ≡ 0 → on (in_order (tid_of v s j).queues) q ≡ 0

all_cleared : (ts : List ℕ) (most : ℕ) (w : World) (s : ℕ) → is_live w s ≡ true → IsShelved most (shelves w) →
    AllCleared most s ts w (after_tids_left w s ts)
unfolding after_tids_left
all_cleared [] most w s live i = record { shelved = i; none = λ t q h. absurd (cc h); less = λ j q h. h }
all_cleared (t ∷ ts) most w s live i =
    let one : Cleared most s t w (after_tid_left w s t) = cleared most w s t live i in
    let more : AllCleared most s ts (after_tid_left w s t) (after_tids_left (after_tid_left w s t) s ts) =
    all_cleared ts most (after_tid_left w s t) s one.live one.shelved in
    record {
      shelved = more.shelved;
      none = λ j q h. elim (either (t == j) (has ts j) h) [
        | inl e ↦ more.less j q (subst (λ (n : ℕ). on (in_order (tid_of (after_tid_left w s t) s n).queues) q
            ≡ 0) (eq_yes t j e) (one.none q))
        | inr e ↦ more.none j q e
      ];
      less = λ j q h. more.less j q (one.less j q h);
    }

bare_none : (t q : ℕ) → (spot None).listed t q ≡ 0
bare_none t q = on-nil q

pub shelved_gone : (most : ℕ) (w : World) (s : ℕ) → is_live w s ≡ true → IsShelved most (shelves w) →
    IsShelved most (shelves (leave_outcome w s).world)
unfolding leave_outcome
shelved_gone most w s live i =
    let a : World = after_tids_left w s (upto 8) in
    let b : World = without_listings a s all_classes in
    let k : AllCleared most s (upto 8) w a = all_cleared (upto 8) most w s live i in
    let same : shelves b ≡ shelves a = shelves_off_lists all_classes a s in
    let kb : IsShelved most (shelves b) = subst (IsShelved most) (sym same) k.shelved in
    subst (IsShelved most) (sym (shelves_with_station b s None))
    (restated most (shelves b) s (spot None)
    (λ t q. ap (λ (z : Shelves). (z.spots s).listed t q) same
    ∙ empty a t q k.shelved (λ low. k.none t q (on-has (upto 8) t (on_upto 8 t low))))
    bare_none (λ e. absurd (cc e)) kb)
  where
    empty : (a : World) (t q : ℕ) → IsShelved most (shelves a) →
        (t < 8 → on (in_order (tid_of a s t).queues) q ≡ 0) → on (in_order (tid_of a s t).queues) q ≡ 0
    empty a t q k h = on_bool (nat_lt 0 (on (in_order (tid_of a s t).queues) q))
        (λ e. h (k.below s t q (lt_yes 0 _ e)))
        (λ e. let none : on (in_order (tid_of a s t).queues) q ≤ 0 = lt_no 0 _ e in omega (arith, none))

-- ---- a flush

shelved_flush_queues : (qs : List ℕ) (most : ℕ) (w : World) → IsShelved most (shelves w) →
    IsShelved most (shelves (after_queues_flushed w qs))
unfolding after_queues_flushed after_queue_flushed
shelved_flush_queues [] most w i = i
shelved_flush_queues (q ∷ qs) most w i = shelved_flush_queues qs most _
    (subst (IsShelved most) (sym (shelves_finish_all _ _ _ ∙ shelves_on_queue w q _))
    (keep_queue most (shelves w) q (record (queue w q) { items = [] }) (part_none (queue w q).items)
    (λ s t l. i.deficits s t q l) (i.counts q) i))

pub shelved_flushed : (most : ℕ) (w : World) (s t : ℕ) → IsShelved most (shelves w) →
    IsShelved most (shelves (flush_outcome w s t).world)
unfolding flush_outcome after_tid_flushed
shelved_flushed most w s t i = subst (IsShelved most) (sym (shelves_caught_up _ s t))
    (shelved_flush_queues _ most _
    (subst (IsShelved most) (sym (shelves_finish_all _ _ _ ∙ shelves_on_session w s t _)) i))

-- ---- a station joins

shelved_new_station : (most : ℕ) (w : World) (mode : Mode) (s window start exponent weight : ℕ)
    (offloaded : Bool) → s < w.config.stations → is_live w s ≡ false → IsShelved most (shelves w) →
    IsShelved most (shelves (with_station w s
    (Some (new_station w.config mode window start exponent weight offloaded))))
shelved_new_station most w mode s window start exponent weight offloaded low dead i =
    subst (IsShelved most) (sym (shelves_with_station w s _))
    (restated most (shelves w) s _
    (λ t q. on_bool (nat_lt 0 (on (in_order (tid_of w s t).queues) q))
    (λ e. let live : is_live w s ≡ true = i.live s t q (lt_yes 0 _ e) in absurd (cc (live, dead)))
    (λ e. let none : on (in_order (tid_of w s t).queues) q ≤ 0 = lt_no 0 _ e in omega (arith, none)))
    (λ t q. eight (λ y. on (in_order y.queues) q ≡ 0) (new_tid mode start window) (on-nil q) (on-nil q) t)
    (λ _. low) i)

pub shelved_joined : (most : ℕ) (w : World) (s window start exponent weight : ℕ) → s < w.config.stations →
    is_live w s ≡ false → IsShelved most (shelves w) →
    IsShelved most (shelves (join_outcome w s window start exponent weight).world)
unfolding join_outcome
shelved_joined most w s window start exponent weight low dead i =
    shelved_new_station most w Agreed s window start exponent weight false low dead i

pub shelved_offloaded : (most : ℕ) (w : World) (s exponent weight : ℕ) → s < w.config.stations →
    is_live w s ≡ false → IsShelved most (shelves w) →
    IsShelved most (shelves (offload_outcome w s exponent weight).world)
unfolding offload_outcome
shelved_offloaded most w s exponent weight low dead i =
    shelved_new_station most w Plain s greatest_window 0 exponent weight true low dead i

pub shelved_plain : (most : ℕ) (w : World) (s start exponent weight : ℕ) → s < w.config.stations →
    is_live w s ≡ false → IsShelved most (shelves w) →
    IsShelved most (shelves (plain_outcome w s start exponent weight).world)
unfolding plain_outcome
shelved_plain most w s start exponent weight low dead i =
    shelved_new_station most w Plain s plain_window start exponent weight false low dead i
