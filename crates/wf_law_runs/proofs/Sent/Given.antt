-- Proves that a take from a TID with queued frames returns a frame, because CoDel never drops the last
-- frame of a queue.
use Rattle.std.proofs.Common.{◌≡◌, refl, ap, sym, ◌∙◌, subst, arith, ℕ, zero, suc, ◌-◌, ◌<◌, ◌≤◌, Bool, true, false, if◌then◌else◌, not, ◌||◌, nat_lt, nat_le, ◌==◌, ◌+◌, List, [], ◌∷◌, length, drop, sum_by, Option, Some, None, is_some, slice_get}
use Rattle.std.proofs.lemmas.List.{length-drop}
use Rattle.std.proofs.lemmas.List.Sums.{sum_by-cons}
use Rattle.wf_def_codel.specs.Codel.{Item, Codel, Params, Look, look_at, look, least, ends_drops, drops_dropping, drops_plain, drops, next_due, octets, max_packet, dequeue}
use Rattle.wf_def_lists.specs.Lists.{on}
use Rattle.wf_def_rotation.specs.Rotation.{Rotation, in_order}
use Rattle.wf_def_world.specs.World.{World, tid_of, queue, is_live, codel_params, with_queues}
use Rattle.wf_def_world.specs.FlowQueues.{frames_queued, has_frames, queue_need, picked_queue, with_queues_paid, taken_from_picked, taken_for_tid}
use Rattle.wf_law_rules.proofs.Lemmas.Counts.{on-cons, on-cons_same}
use Rattle.wf_law_rules.proofs.Lemmas.Drops.{least-below}
use Rattle.wf_law_rules.proofs.Lemmas.Numbers.{on_bool, on_if, lt_yes, lt_no}
use Rattle.wf_law_rules.proofs.Lemmas.Rotations.{IsWinner, pick_winner, pick_none}
use Rattle.wf_law_runs.proofs.Frames.Fates.{given_dequeued-is}
use Rattle.wf_law_runs.proofs.Queues.Shelves.{Shelves, shelves_with_queues, shelves_pay_queues}
use Rattle.wf_law_runs.proofs.Windows.Sides.{same_pay_queues}

-- ---- CoDel

-- The look at the last frame is not ok, because no octets follow it.
last_look : (p : Params) (now above : ℕ) (xs : List Item) → length xs ≡ 1 →
    (look_at p now above xs).ok ≡ false
last_look p now above [] one = refl
last_look p now above (x ∷ []) one = go (nat_lt (now - x.stamp) p.target)
  where
    late : Look
    late = if above == 0 then record { first_above = now + p.interval; ok = false }
        else record { first_above = above; ok = nat_le above now }

    seen : Bool → Look
    seen b = if b || nat_le (octets []) max_packet then record { first_above = 0; ok = false } else late

    go : (b : Bool) → (seen b).ok ≡ false
    go true = refl
    go false = refl
last_look p now above (x ∷ y ∷ xs) one = absurd (omega (arith, one))

look_last : (p : Params) (now above : ℕ) (items : List Item) (i : ℕ) → length items ≡ suc i →
    (look p now above items i).ok ≡ false
look_last p now above items zero e = last_look p now above items e
look_last p now above items (suc i) e = last_look p now (look p now above items i).first_above
    (drop (suc i) items) (omega (arith, length-drop (suc i) items, e))

ends_last : (p : Params) (now : ℕ) (c : Codel) (due : ℕ) (items : List Item) (i : ℕ) → length items ≡ suc i →
    ends_drops p now c due items i ≡ true
ends_last p now c due items i e = ap (λ (b : Bool). not b || nat_lt now (next_due p c.count due i))
    (look_last p now c.first_above items i e)

few_dropping : (p : Params) (now : ℕ) (c : Codel) (due : ℕ) (items : List Item) (i : ℕ) →
    length items ≡ suc i → drops_dropping p now c due items < length items
unfolding drops_dropping
few_dropping p now c due items i e = on_bool (nat_lt i (least (ends_drops p now c due items) (length items)))
    (λ more. absurd (cc (
      ends_last p now c due items i e,
      least-below (ends_drops p now c due items) (length items) i (lt_yes i _ more),
    )))
    (λ few. omega (arith, e, lt_no i _ few))

few_plain : (p : Params) (now : ℕ) (c : Codel) (items : List Item) (i : ℕ) → length items ≡ suc i →
    drops_plain p now c items < length items
unfolding drops_plain
few_plain p now c items i e = on_if (λ (n : ℕ). n < length items) (look p now c.first_above items 0).ok 1 0
    (λ ok. more i e ok) (λ _. omega (arith, e))
  where
    more : (i : ℕ) → length items ≡ suc i → (look p now c.first_above items 0).ok ≡ true → 1 < length items
    more zero e ok = absurd (cc (ok, look_last p now c.first_above items 0 e))
    more (suc i) e ok = omega (arith, e)

-- A dequeue does not drop all frames.
few_drops : (p : Params) (now : ℕ) (c : Codel) (items : List Item) (i : ℕ) → length items ≡ suc i →
    drops p now c items < length items
unfolding drops
few_drops p now c items i e = on_if (λ (n : ℕ). n < length items) c.dropping
    (drops_dropping p now c c.drop_next items) (drops_plain p now c items)
    (λ _. few_dropping p now c c.drop_next items i e) (λ _. few_plain p now c items i e)

some_at : (xs : List Item) (n : ℕ) → n < length xs → is_some (slice_get xs n) ≡ true
some_at [] n h = absurd (omega (arith, h))
some_at (x ∷ xs) zero h = refl
some_at (x ∷ xs) (suc n) h = some_at xs n (omega (arith, h))

some_given : (p : Params) (now : ℕ) (c : Codel) (items : List Item) → 0 < length items →
    is_some (dequeue p now c items).given ≡ true
unfolding dequeue
some_given p now c [] h = absurd (omega (arith, h))
some_given p now c (x ∷ xs) h = some_at (x ∷ xs) (drops p now c (x ∷ xs))
    (few_drops p now c (x ∷ xs) (length xs) refl)

-- ---- a take

-- If no listed queue has frames, none are queued.
none_queued : (w : World) (qs : List ℕ) → ((q : ℕ) → has_frames w q ≡ true → on qs q ≡ 0) →
    sum_by (λ q. length (queue w q).items) qs ≡ 0
none_queued w [] h = refl
none_queued w (q ∷ qs) h =
    let none : length (queue w q).items ≡ 0 = on_bool (has_frames w q)
    (λ is. absurd (omega (arith, h q is, on-cons_same q qs)))
    (λ is_not. let few : length (queue w q).items ≤ 0 = lt_no 0 (length (queue w q).items) is_not in
    omega (arith, few)) in
    omega (
      arith,
      none,
      sum_by-cons (λ (q : ℕ). length (queue w q).items) q qs,
      none_queued w qs (λ p is. omega (arith, h p is, on-cons q p qs)),
    )

-- Giving quanta to queues does not change their frames.
items_turned : (w : World) (s t : ℕ) (quanta : ℕ → ℕ) (r : Rotation) (q : ℕ) → is_live w s ≡ true
    → (queue (with_queues (with_queues_paid w quanta (in_order (tid_of w s t).queues)) s t r) q).items
    ≡ (queue w q).items
items_turned w s t quanta r q live =
    let u : World = with_queues_paid w quanta (in_order (tid_of w s t).queues) in
    ap (λ (b : Shelves). (b.queues q).items) (shelves_with_queues u s t r
    ((same_pay_queues (in_order (tid_of w s t).queues) w quanta).live s ∙ live))
    ∙ ap (λ (b : Shelves). (b.queues q).items) (shelves_pay_queues (in_order (tid_of w s t).queues) w quanta)

some_taken : (o : Option ℕ) (w : World) (s q : ℕ) → o ≡ Some q → 0 < length (queue w q).items →
    is_some (taken_from_picked w s o).item ≡ true
unfolding taken_from_picked
some_taken None w s q e h = absurd (cc e)
some_taken (Some p) w s q e h =
    let same : q ≡ p = cc (e) in
    ap is_some (given_dequeued-is w p _) ∙ some_given (codel_params w s) w.clock (queue w p).codel
    (queue w p).items (subst (λ (n : ℕ). 0 < length (queue w n).items) same h)

pub some_take : (w : World) (s t : ℕ) → is_live w s ≡ true → 0 < frames_queued w s t →
    is_some (taken_for_tid w s t).item ≡ true
unfolding taken_for_tid
some_take w s t live queued = go (picked_queue w s t).winner refl
  where
    v : World
    v = with_queues (with_queues_paid w (picked_queue w s t).quanta (in_order (tid_of w s t).queues)) s t
        (picked_queue w s t).lists

    go : (o : Option ℕ) → (picked_queue w s t).winner ≡ o →
        is_some (taken_from_picked v s (picked_queue w s t).winner).item ≡ true
    go None e = absurd (omega (
      arith,
      queued,
      none_queued w (in_order (tid_of w s t).queues)
          (pick_none (queue_need w) (has_frames w) (tid_of w s t).queues e),
    ))
    go (Some q) e =
        let won : IsWinner (queue_need w) (has_frames w) (tid_of w s t).queues (picked_queue w s t) q =
        pick_winner (queue_need w) (has_frames w) (tid_of w s t).queues q e in
        let some : 0 < length (queue w q).items = lt_yes 0 (length (queue w q).items) won.is_ready in
        some_taken (picked_queue w s t).winner v s q e
        (subst (λ (xs : List Item). 0 < length xs)
        (sym (items_turned w s t (picked_queue w s t).quanta (picked_queue w s t).lists q live)) some)
