-- Proves the law of the delay in the device. While an exchange is open, each exchange that ends has a number
-- that is not above its own. So all of them were in flight right after its Pull.
use Rattle.std.proofs.Common.{◌≡◌, refl, ap, sym, ◌∙◌, subst, arith, ℕ, zero, suc, ◌+◌, ◌-◌, ◌<◌, ◌≤◌, Bool, true, false, if◌then◌else◌, cond, not, ◌||◌, List, [], ◌∷◌, ◌++◌, Option, Some, None, is_some, is_none, map, filter, find, take, drop, nat_le, ◌==◌, inl, inr}
use Rattle.wf_frame.specs.declared.settings.Config.{Config}
use Rattle.wf_frame.specs.declared.classes.Class.{Class}
use Rattle.wf_frame.specs.declared.notes.Ask.TheVariants.{Join, Leave, Rate, Tick, Pull, Arrive, Answer, Done, Sleep, Wake, Poll, Rx, Reap, Ampdu, Stop, Start, Unsent, GiveUp, Flush, Offload, Weight, Plain, Hold, Begin, Free, Cease, Group, Service, Bss}
use Rattle.wf_frame.specs.declared.notes.Limits.{Limits}
use Rattle.wf_frame.specs.declared.notes.Note.{Note}
use Rattle.wf_frame.specs.declared.notes.Note.TheVariants.{Enqueue, Asked}
use Rattle.wf_frame.specs.declared.notes.Refusal.{Refusal}
use Rattle.wf_frame.specs.declared.notes.Refusal.TheVariants.{Idle}
use Rattle.wf_frame.specs.Settings.{IsInRange}
use Rattle.wf_def_world.specs.World.{World, Exchange, exchange, owed_by_all, opening}
use Rattle.wf_def_world.specs.CanSend.{with_listings_of}
use Rattle.wf_def_world.specs.Exchanges.{Prepared, picked_station, after_pick, after_tid_turn, prepared_exchange, exchange_of, sending_tid}
use Rattle.wf_def_world.specs.Refusals.{refusal}
use Rattle.wf_def_world.specs.Step.{Outcome, tick_outcome, pull_outcome_for, pull_outcome, outcome_where_open, outcome_of, concerned_station, after_refusal, judged_outcome, step}
use Rattle.wf_def_world.specs.Run.{Entry, world_after}
use Rattle.wf_def_world.specs.Stretches.{world_at}
use Rattle.wf_law_rules.proofs.Lemmas.Numbers.{on_if, yes_le, not_eq, either, or_left, or_right}
use Rattle.wf_law_runs.specs.Delay.{HasOpen, computed_of, airtime_ended_by, airtime_ended, EndsFirst, EndInOrder, DelayLaw}
use Rattle.wf_law_runs.proofs.Common.Refused.{after_idle}
use Rattle.wf_law_runs.proofs.Common.Limits.{with_limits}
use Rattle.wf_law_runs.proofs.Deficits.Books.{core, Books, books}
use Rattle.wf_law_runs.proofs.Deficits.BookSteps.{books_after_turn, books_prepared, books_sent, with_opened, books_ended, books_gone, books_enqueued, books_received, books_reaped, books_slept, books_woken, books_credited, books_with_rate, books_joined, books_after_pick, books_stated, books_stopped, books_started, books_flushed, books_offloaded, books_weighed, books_joined_plain, books_held, books_begun, books_freed, books_ceased, books_served, books_moved}
use Rattle.wf_law_runs.proofs.Deficits.Kept.{IsKept}
use Rattle.wf_law_runs.proofs.Deficits.KeptStep.{IsFound, found_number, at_number, books_arrived, books_unsent, books_given_up, books_answered, kept_step, kept}
use Rattle.wf_law_runs.proofs.Deficits.InFlight.{in_flight_law}
use Rattle.wf_law_runs.proofs.Windows.Sides.{Same, same_listed}
use Rattle.wf_law_runs.proofs.Fairness.Law.{run_split}

-- ---- lists of open exchanges

-- Whether one of these exchanges has number n.
abbrev opens : ℕ → List Exchange → Bool
opens n [] = false
opens n (x ∷ xs) = (x.number == n) || opens n xs

some_found : (n : ℕ) (xs : List Exchange) → is_some (find (λ x. x.number == n) xs) ≡ opens n (map core xs)
some_found n [] = refl
some_found n (x ∷ xs) = go (x.number == n) (some_found n xs)
  where
    go : (b : Bool) → is_some (find (λ y. y.number == n) xs) ≡ opens n (map core xs) →
        is_some (cond b (Some x) (find (λ y. y.number == n) xs)) ≡ b || opens n (map core xs)
    go true e = refl
    go false e = e

or-false : (b : Bool) → b || false ≡ b
or-false true = refl
or-false false = refl

opens-append : (n : ℕ) (xs : List Exchange) (x : Exchange) → (x.number == n) ≡ false →
    opens n (xs ++ x ∷ []) ≡ opens n xs
opens-append n [] x other = or-false (x.number == n) ∙ other
opens-append n (y ∷ ys) x other = ap (λ (b : Bool). (y.number == n) || b) (opens-append n ys x other)

opens-filter : (n : ℕ) (p : Exchange → Bool) (xs : List Exchange) → opens n (filter p xs) ≡ true →
    opens n xs ≡ true
opens-filter n p [] h = h
opens-filter n p (x ∷ xs) h = on_if
    (λ (ys : List Exchange). opens n ys ≡ true → ((x.number == n) || opens n xs) ≡ true) (p x)
    (x ∷ filter p xs) (filter p xs)
    (λ _ k. elim (either (x.number == n) (opens n (filter p xs)) k) [
      | inl e ↦ or_left (x.number == n) (opens n xs) e
      | inr e ↦ or_right (x.number == n) (opens n xs) (opens-filter n p xs e)
    ])
    (λ _ k. or_right (x.number == n) (opens n xs) (opens-filter n p xs k)) h

-- Returns the computed airtime of an exchange if its number is at most n, otherwise 0.
abbrev part_upto : ℕ → Exchange → ℕ
part_upto n x = if nat_le x.number n then x.charge else 0

-- Returns the computed airtime of these exchanges whose numbers are at most n.
abbrev owed_upto : ℕ → List Exchange → ℕ
owed_upto n [] = 0
owed_upto n (x ∷ xs) = part_upto n x + owed_upto n xs

upto-append : (n : ℕ) (xs : List Exchange) (x : Exchange) → owed_upto n (xs ++ x ∷ [])
    ≡ owed_upto n xs + part_upto n x
upto-append n [] x = omega arith
upto-append n (y ∷ ys) x = omega (arith, upto-append n ys x)

upto_if : (b : Bool) (n : ℕ) (x : Exchange) (xs : List Exchange) (m : ℕ) → owed_upto n xs ≤ m →
    owed_upto n (cond b (x ∷ xs) xs) ≤ part_upto n x + m
upto_if true n x xs m h = omega arith
upto_if false n x xs m h = omega arith

upto-filter : (n : ℕ) (p : Exchange → Bool) (xs : List Exchange) →
    owed_upto n (filter p xs) ≤ owed_upto n xs
upto-filter n p [] = omega arith
upto-filter n p (x ∷ xs) = upto_if (p x) n x (filter p xs) (owed_upto n xs) (upto-filter n p xs)

part_most : (b : Bool) (m : ℕ) → (if b then m else 0) ≤ m
part_most true m = omega arith
part_most false m = omega arith

upto_most : (n : ℕ) (xs : List Exchange) → owed_upto n (map core xs) ≤ owed_by_all xs
upto_most n [] = omega arith
upto_most n (x ∷ xs) = omega (arith, part_most (nat_le x.number n) x.charge, upto_most n xs)

ended_step : (n : ℕ) (xs : List Exchange) (x y : Exchange) (e : ℕ) →
    (find (λ z. z.number == e) xs ≡ Some x →
    owed_upto n (filter (λ z. not (z.number == e)) xs) + part_upto n x ≤ owed_upto n xs)
    → (b : Bool) → cond b (Some y) (find (λ z. z.number == e) xs) ≡ Some x →
    owed_upto n (cond (not b) (y ∷ filter (λ z. not (z.number == e)) xs)
    (filter (λ z. not (z.number == e)) xs)) + part_upto n x ≤ part_upto n y + owed_upto n xs
ended_step n xs x y e below true k =
    let same : part_upto n y ≡ part_upto n x = ap (λ (o : Option Exchange). part_of o) k in
    omega (arith, upto-filter n (λ z. not (z.number == e)) xs)
  where
    part_of : Option Exchange → ℕ
    part_of None = 0
    part_of (Some z) = part_upto n z
ended_step n xs x y e below false k = omega (arith, below k)

-- The sum falls by the computed airtime of an exchange that ends.
upto-ended : (n : ℕ) (xs : List Exchange) (x : Exchange) (e : ℕ) → find (λ z. z.number == e) xs ≡ Some x →
    owed_upto n (filter (λ z. not (z.number == e)) xs) + part_upto n x ≤ owed_upto n xs
upto-ended n [] x e k = absurd (cc k)
upto-ended n (y ∷ ys) x e k = ended_step n ys x y e (upto-ended n ys x e) (y.number == e) k

-- ---- one call

-- Books b, and books a after a call that ends m microseconds of computed airtime. Exchange n was made before
-- the call. Under the condition Q, the call ends only an exchange whose number is at most n.
record Passes (Q : Type 0) (n m : ℕ) (b a : Books) : Type 0 where
  upto : Q → m + owed_upto n a.opened ≤ owed_upto n b.opened
  open_before : opens n a.opened ≡ true → opens n b.opened ≡ true
  made : b.exchanges ≤ a.exchanges

passes_same : (Q : Type 0) (n : ℕ) (b a : Books) → a.opened ≡ b.opened → a.exchanges ≡ b.exchanges →
    Passes Q n 0 b a
passes_same Q n b a e f = record {
  upto = λ _. rw e (omega arith);
  open_before = λ h. ap (opens n) (sym e) ∙ h;
  made = rw f (omega arith);
}

passes_books : (Q : Type 0) (n : ℕ) (w : World) (b a : Books) → a ≡ b → b.opened ≡ (books w).opened →
    b.exchanges ≡ (books w).exchanges → Passes Q n 0 (books w) a
passes_books Q n w b a h e f = passes_same Q n (books w) a (ap (λ (z : Books). z.opened) h ∙ e)
    (ap (λ (z : Books). z.exchanges) h ∙ f)

above : (m n : ℕ) → n < m → nat_le m n ≡ false
above m n h = grind arith

-- A later exchange is made.
passes_opened : (Q : Type 0) (n : ℕ) (b : Books) (x : Exchange) → n < b.exchanges →
    x.number ≡ b.exchanges → Passes Q n 0 b (with_opened b x)
passes_opened Q n b x below number =
    let later : nat_le x.number n ≡ false = above x.number n (omega (arith, below, number)) in
    let other : (x.number == n) ≡ false = not_eq x.number n (λ e. omega (arith, e, below, number)) in record {
      upto = λ _.
          let none : part_upto n (core x) ≡ 0 = rw later refl in
          omega (arith, upto-append n b.opened (core x));
      open_before = λ h. sym (opens-append n b.opened (core x) other) ∙ h;
      made = omega arith;
    }

-- An exchange ends whose number is at most n.
passes_ended : (Q : Type 0) (n e : ℕ) (b a : Books) (x : Exchange) →
    find (λ z. z.number == e) b.opened ≡ Some x → (Q → x.number ≤ n) →
    a.opened ≡ filter (λ z. not (z.number == e)) b.opened → a.exchanges ≡ b.exchanges →
    Passes Q n x.charge b a
passes_ended Q n e b a x found first same made = record {
  upto = λ q.
      let whole : part_upto n x ≡ x.charge =
      ap (λ (t : Bool). if t then x.charge else 0) (yes_le x.number n (first q)) in
      rw same (omega (arith, upto-ended n b.opened x e found));
  open_before = λ h. opens-filter n (λ z. not (z.number == e)) b.opened (ap (opens n) (sym same) ∙ h);
  made = rw made (omega arith);
}

passes_pulled_by : (o : Option ℕ) (Q : Type 0) (n : ℕ) (v : World) (c : Class) → n < v.exchanges →
    Passes Q n 0 (books v) (books (pull_outcome_for v c o).world)
unfolding pull_outcome_for
passes_pulled_by None Q n v c below = passes_same Q n (books v) (books v) refl refl
passes_pulled_by (Some s) Q n v c below =
    let t : ℕ = sending_tid v s c in
    let p : Prepared = prepared_exchange (after_tid_turn v s c t) s t in
    let e : books p.world ≡ books v = books_prepared (after_tid_turn v s c t) s t
    ∙ books_after_turn v s c t in
    let later : n < p.world.exchanges =
    subst (λ (k : ℕ). n < k) (sym (ap (λ (b : Books). b.exchanges) e)) below in
    subst (Passes Q n 0 (books v)) (sym (books_sent s t c p))
    (subst (λ (b : Books). Passes Q n 0 b (with_opened (books p.world) (exchange_of s t c p))) e
    (passes_opened Q n (books p.world) (exchange_of s t c p) later refl))

passes_pulled : (Q : Type 0) (n : ℕ) (w : World) (c : Class) (l : Limits) → n < w.exchanges →
    Passes Q n 0 (books w) (books (pull_outcome w c l).world)
unfolding pull_outcome
passes_pulled Q n w c l below =
    let e : books (after_pick w c) ≡ _ = books_after_pick w c in
    let later : n < (after_pick w c).exchanges =
    subst (λ (k : ℕ). n < k) (sym (ap (λ (b : Books). b.exchanges) e)) below in
    let p : Passes Q n 0 (books (after_pick w c))
    (books (pull_outcome_for (with_limits w c l) c (picked_station w c).winner).world) =
    passes_pulled_by (picked_station w c).winner Q n (with_limits w c l) c later in
    let opened : (books (after_pick w c)).opened ≡ (books w).opened = ap (λ (b : Books). b.opened) e in
    let made : (books (after_pick w c)).exchanges ≡ (books w).exchanges =
    ap (λ (b : Books). b.exchanges) e in record {
      upto = λ q. omega (arith, p.upto q, ap (owed_upto n) opened);
      open_before = λ h. ap (opens n) (sym opened) ∙ p.open_before h;
      made = omega (arith, p.made);
    }

passes_open : (Q : Type 0) (n : ℕ) (w : World) (e : ℕ) (o : Option Exchange) (f : Exchange → Outcome)
    (m : Option Exchange → ℕ) → m None ≡ 0 → exchange w e ≡ o →
    ((x : Exchange) → IsFound w e x → Passes Q n (m (Some x)) (books w) (books (f x).world)) →
    Passes Q n (m o) (books w) (books (outcome_where_open w o f).world)
unfolding outcome_where_open
passes_open Q n w e None f m none k h = subst (λ (i : ℕ). Passes Q n i (books w) (books w)) (sym none)
    (passes_same Q n (books w) (books w) refl refl)
passes_open Q n w e (Some x) f m none k h = h x k

-- World v is w after a call. Exchange n was made before it.
abbrev PassesTo : ℕ → World → Note → World → Type 0
PassesTo n w note v =
    Passes (HasOpen w n × EndsFirst w note) n (airtime_ended_by w note) (books w) (books v)

passes_done : (n : ℕ) (note : Note) (w : World) → refusal w note ≡ None → IsKept (books w) →
    n < w.exchanges → PassesTo n w note (outcome_of w note).world
unfolding outcome_of tick_outcome
passes_done n (Enqueue s t flow len) w r k b = passes_books _ n w (books w) _
    (books_enqueued w s t flow len) refl refl
passes_done n (Asked (Join s window start exponent weight)) w r k b = passes_books _ n w _ _
    (books_joined w s window start exponent weight) refl refl
passes_done n (Asked (Offload s exponent weight)) w r k b = passes_books _ n w _ _
    (books_offloaded w s exponent weight) refl refl
passes_done n (Asked (Plain s start exponent weight)) w r k b = passes_books _ n w _ _
    (books_joined_plain w s start exponent weight) refl refl
passes_done n (Asked (Weight s weight)) w r k b = passes_books _ n w _ _ (books_weighed w s weight) refl refl
passes_done n (Asked (Leave s)) w r k b = passes_books _ n w _ _ (books_gone w s) refl refl
passes_done n (Asked (Rate s rate)) w r k b = passes_books _ n w _ _ (books_with_rate w s rate) refl refl
passes_done n (Asked (Tick by)) w r k b = passes_same _ n (books w) _ refl refl
passes_done n (Asked (Pull c l)) w r k b = passes_pulled _ n w c l b
passes_done n (Asked (Arrive e j)) w r k b = passes_open _ n w e (exchange w e) _ (λ _. 0) refl refl
    (λ x found. passes_books _ n w (books w) _ (books_arrived w e j x k found) refl refl)
passes_done n (Asked (Unsent e j)) w r k b = passes_open _ n w e (exchange w e) _ (λ _. 0) refl refl
    (λ x found. passes_books _ n w (books w) _ (books_unsent w e j x k found) refl refl)
passes_done n (Asked (GiveUp e j)) w r k b = passes_open _ n w e (exchange w e) _ (λ _. 0) refl refl
    (λ x found. passes_books _ n w (books w) _ (books_given_up w e j x k found) refl refl)
passes_done n (Asked (Answer e)) w r k b = passes_open _ n w e (exchange w e) _ (λ _. 0) refl refl
    (λ x found. passes_books _ n w (books w) _ (books_answered w e x k found) refl refl)
passes_done n (Asked (Done e heard air)) w r k b =
    subst (λ (m : ℕ). Passes (HasOpen w n × EndsFirst w (Asked (Done e heard air))) n m (books w)
    (books (outcome_of w (Asked (Done e heard air))).world))
    (sym (ap (λ (o : Option Refusal). if is_none o then computed_of (exchange w e) else 0) r))
    (passes_open _ n w e (exchange w e) _ computed_of refl refl (λ x found.
    let number : x.number ≡ e = found_number w e x found in
    passes_ended _ n x.number (books w) _ (core x) (at_number w e x found) (λ q. omega (arith, q.1 r n q.0))
    (ap (λ (z : Books). z.opened) (books_ended air w x heard))
    (ap (λ (z : Books). z.exchanges) (books_ended air w x heard))))
passes_done n (Asked (Sleep s)) w r k b = passes_books _ n w (books w) _ (books_slept w s) refl refl
passes_done n (Asked (Ampdu s octets)) w r k b =
    passes_books _ n w (books w) _ (books_stated w s octets) refl refl
passes_done n (Asked (Stop s)) w r k b = passes_books _ n w (books w) _ (books_stopped w s) refl refl
passes_done n (Asked (Start s)) w r k b = passes_books _ n w (books w) _ (books_started w s) refl refl
passes_done n (Asked (Flush s t)) w r k b = passes_books _ n w (books w) _ (books_flushed w s t) refl refl
passes_done n (Asked (Hold s t)) w r k b = passes_books _ n w (books w) _ (books_held w s t) refl refl
passes_done n (Asked (Begin s t window)) w r k b =
    passes_books _ n w (books w) _ (books_begun w s t window) refl refl
passes_done n (Asked (Free s t)) w r k b = passes_books _ n w (books w) _ (books_freed w s t) refl refl
passes_done n (Asked (Cease s t)) w r k b = passes_books _ n w (books w) _ (books_ceased w s t) refl refl
passes_done n (Asked (Wake s)) w r k b = passes_books _ n w (books w) _ (books_woken w s) refl refl
passes_done n (Asked (Poll s)) w r k b = passes_books _ n w (books w) _ (books_credited w s) refl refl
passes_done n (Asked (Rx s c air)) w r k b = passes_books _ n w _ _ (books_received w s c air) refl refl
passes_done n (Asked Reap) w r k b = passes_books _ n w (books w) _ (books_reaped w.finished w) refl refl
passes_done n (Asked (Group ask)) w r k b = passes_same _ n (books w) _ refl refl
passes_done n (Asked (Service ask)) w r k b = passes_books _ n w (books w) _ (books_served w ask) refl refl
passes_done n (Asked (Bss s bss)) w r k b =
    passes_books _ n w (books w) _ (books_moved w s bss) refl refl

passes_refused : (Q : Type 0) (n : ℕ) (note : Note) (r : Refusal) (w : World) →
    Passes Q n 0 (books w) (books (after_refusal w note r))
unfolding after_refusal
passes_refused Q n (Asked (Pull c l)) Idle w = after_idle (λ v. Passes Q n 0 (books w) (books v)) w c
    (passes_same Q n (books w) (books w) refl refl) (passes_books Q n w _ _ (books_after_pick w c) refl refl)
passes_refused Q n _ _ w = passes_same Q n (books w) (books w) refl refl

refused_ends : (note : Note) (r : Refusal) (w : World) → refusal w note ≡ Some r → airtime_ended_by w note ≡ 0
refused_ends (Asked (Done e heard air)) r w h =
    ap (λ (o : Option Refusal). if is_none o then computed_of (exchange w e) else 0) h
refused_ends _ r w h = refl

passes_listed : (Q : Type 0) (n m : ℕ) (b : Books) (o : Option ℕ) (v : World) → Passes Q n m b (books v) →
    Passes Q n m b (books (with_listings_of v o))
passes_listed Q n m b o v p =
    let s : Same v (with_listings_of v o) = same_listed o v in
    let opened : (books (with_listings_of v o)).opened ≡ (books v).opened = ap (map core) s.opened in record {
      upto = λ q. subst (λ (xs : List Exchange). m + owed_upto n xs ≤ owed_upto n b.opened) (sym opened)
          (p.upto q);
      open_before = λ h. p.open_before (ap (opens n) (sym opened) ∙ h);
      made = omega (arith, p.made, s.exchanges);
    }

passes_answer : (r : Option Refusal) (n : ℕ) (w : World) (note : Note) → refusal w note ≡ r →
    IsKept (books w) → n < w.exchanges → PassesTo n w note (judged_outcome w note r).world
unfolding judged_outcome
passes_answer (Some r) n w note e k b = subst (λ (m : ℕ). Passes (HasOpen w n × EndsFirst w note) n m
    (books w) (books (after_refusal w note r))) (sym (refused_ends note r w e)) (passes_refused _ n note r w)
passes_answer None n w note e k b = passes_listed _ n _ (books w) (concerned_station w note)
    (outcome_of w note).world (passes_done n note w e k b)

passes_step : (n : ℕ) (w : World) (note : Note) → IsKept (books w) → n < w.exchanges →
    PassesTo n w note (step w note).world
unfolding step
passes_step n w note k b = passes_answer (refusal w note) n w note refl k b

-- ---- the run

-- Exchange n is open before each of these entries.
OpenThrough : ℕ → World → List Entry → Type 0
OpenThrough n w [] = Unit {0}
OpenThrough n w (e ∷ es) = HasOpen w n × OpenThrough n (step w e.1).world es

-- An exchange that is made and later open is open.
open_back : (es : List Entry) (n : ℕ) (w : World) → IsKept (books w) → n < w.exchanges →
    opens n (map core (world_after w es).opened) ≡ true → opens n (map core w.opened) ≡ true
unfolding world_after
open_back [] n w k b h = h
open_back (e ∷ es) n w k b h =
    let p : PassesTo n w e.1 (step w e.1).world = passes_step n w e.1 k b in
    p.open_before (open_back es n (step w e.1).world (kept_step w e.1 k) (omega (arith, b, p.made)) h)

is_open_back : (es : List Entry) (n : ℕ) (w : World) → IsKept (books w) → n < w.exchanges →
    HasOpen (world_after w es) n → HasOpen w n
is_open_back es n w k b h = some_found n w.opened
    ∙ open_back es n w k b (sym (some_found n (world_after w es).opened) ∙ h)

-- An exchange that is open after j entries is open before each of the first j + 1.
open_through : (j : ℕ) (es : List Entry) (n : ℕ) (w : World) → IsKept (books w) → n < w.exchanges →
    HasOpen (world_after w (take j es)) n → OpenThrough n w (take (suc j) es)
unfolding world_after OpenThrough
open_through j [] n w k b h = tt
open_through zero (e ∷ es) n w k b h = (h, tt)
open_through (suc j) (e ∷ es) n w k b h =
    let p : PassesTo n w e.1 (step w e.1).world = passes_step n w e.1 k b in (
      is_open_back (e ∷ take j es) n w k b h,
      open_through j es n (step w e.1).world (kept_step w e.1 k) (omega (arith, b, p.made)) h,
    )

-- All airtime that ends was in flight before.
ended_run : (es : List Entry) (n : ℕ) (w : World) → IsKept (books w) → n < w.exchanges →
    OpenThrough n w es → EndInOrder w es → airtime_ended w es ≤ owed_upto n (map core w.opened)
unfolding OpenThrough
ended_run [] n w k b i f = omega arith
ended_run (e ∷ es) n w k b i f =
    let p : PassesTo n w e.1 (step w e.1).world = passes_step n w e.1 k b in
    omega (
      arith,
      p.upto (i.0, f.0),
      ended_run es n (step w e.1).world (kept_step w e.1 k) (omega (arith, b, p.made)) i.1 f.1,
    )

pub delay_law : (config : Config) (h : List Entry) → IsInRange config → DelayLaw config h
delay_law config h range limited n a b d ordered =
    let w : World = world_at config h a in
    let rest : List Entry = drop a h in
    let more : suc b - a ≡ suc (b - a) = omega (arith, d.order) in
    let k : IsKept (books w) = kept config (take a h) range in
    let made : n < w.exchanges = omega (arith, d.last) in
    let later : HasOpen (world_after w (take (b - a) rest)) n =
    subst (λ (v : World). HasOpen v n) (run_split a (b - a) h (opening config))
    (subst (λ (m : ℕ). HasOpen (world_at config h m) n) (sym (whole a b d.order)) d.still) in
    let through : OpenThrough n w (take (suc b - a) rest) =
    subst (λ (m : ℕ). OpenThrough n w (take m rest)) (sym more)
    (open_through (b - a) rest n w k made later) in
    omega (
      arith,
      ended_run (take (suc b - a) rest) n w k made through ordered,
      upto_most n w.opened,
      (in_flight_law config h range a).total limited,
    )
  where
    whole : (a b : ℕ) → a ≤ b → a + (b - a) ≡ b
    whole a b l = omega arith
