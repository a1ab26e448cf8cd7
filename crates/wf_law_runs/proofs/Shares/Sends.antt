-- Proves which station a Pull sends to, and how much the open exchanges of a station may be charged after
-- a call.
use Rattle.std.proofs.Common.{◌≡◌, refl, ap, sym, ◌∙◌, subst, arith, ℕ, zero, suc, ◌+◌, ◌<◌, ◌≤◌, ℤ, pos, negsuc, ◌≤ℤ◌, Bool, true, false, if◌then◌else◌, cond, List, [], ◌∷◌, Option, Some, None, not, ◌&&◌, ◌==◌, find, map, filter, eq-eqb, inl, inr, ◌⊎◌, ◌++◌}
use Rattle.std.proofs.lemmas.Bool.{cases_eq, eqb-true, ne_eqb}
use Rattle.wf_frame.specs.declared.settings.Config.{Config}
use Rattle.wf_frame.specs.declared.classes.Class.{Class}
use Rattle.wf_frame.specs.declared.notes.Ask.TheVariants.{Join, Leave, Rate, Tick, Pull, Arrive, Answer, Done, Sleep, Wake, Poll, Rx, Reap, Ampdu, Stop, Start, Unsent, GiveUp, Flush, Offload, Weight, Plain, Hold, Begin, Free, Cease, Group, Service, Bss}
use Rattle.wf_frame.specs.declared.notes.Limits.{Limits}
use Rattle.wf_frame.specs.declared.notes.Note.{Note}
use Rattle.wf_frame.specs.declared.notes.Note.TheVariants.{Enqueue, Asked}
use Rattle.wf_frame.specs.declared.notes.Refusal.{Refusal}
use Rattle.wf_frame.specs.declared.notes.Refusal.TheVariants.{Idle}
use Rattle.wf_frame.specs.Classes.{same_class}
use Rattle.wf_def_lists.specs.Lists.{on}
use Rattle.wf_def_rotation.specs.Rotation.{Rotation, need_of, keys_before, pick_from, pick}
use Rattle.wf_def_world.specs.World.{World, Exchange, exchange}
use Rattle.wf_def_world.specs.CanSend.{with_listings_of}
use Rattle.wf_def_world.specs.Exchanges.{picked_station, after_pick, charge_of}
use Rattle.wf_def_world.specs.Refusals.{refusals, refusal}
use Rattle.wf_def_world.specs.Step.{Outcome, concerned_station, tick_outcome, send_outcome, pull_outcome_for, pull_outcome, outcome_where_open, outcome_of, after_refusal, judged_outcome, step}
use Rattle.wf_def_world.specs.Run.{Entry, world_after}
use Rattle.wf_def_world.specs.Stretches.{charge_to, charge_by, charges}
use Rattle.wf_law_runs.specs.Deficits.{longest_exchange}
use Rattle.wf_law_runs.specs.Waiting.{is_sent_to, sends_by, sends}
use Rattle.wf_law_rules.proofs.Lemmas.Counts.{on-cons, on-cons_same, on-cons_other}
use Rattle.wf_law_rules.proofs.Lemmas.Rotations.{find-none}
use Rattle.wf_law_runs.proofs.Common.Refused.{after_idle}
use Rattle.wf_law_runs.proofs.Common.Limits.{with_limits}
use Rattle.wf_law_runs.proofs.Deficits.Books.{core, Books, books}
use Rattle.wf_law_runs.proofs.Deficits.BookSteps.{with_opened, books_ended, books_gone, books_enqueued, books_received, books_reaped, books_slept, books_woken, books_credited, books_with_rate, books_joined, books_after_pick, books_stated, books_stopped, books_started, books_flushed, books_offloaded, books_weighed, books_joined_plain, books_held, books_begun, books_freed, books_ceased, books_served, books_moved}
use Rattle.wf_law_runs.proofs.Deficits.Openings.{reserved, reserved-append, reserved-ended}
use Rattle.wf_law_runs.proofs.Deficits.Kept.{IsKept}
use Rattle.wf_law_runs.proofs.Deficits.KeptStep.{no_row, IsFound, at_number, books_arrived, books_unsent, books_given_up, books_answered, charge_within, kept_step}
use Rattle.wf_law_runs.proofs.Deficits.Configs.{config_step}
use Rattle.wf_law_runs.proofs.Fairness.OldOrder.{owing, owing_done, owing_refused}
use Rattle.wf_law_runs.proofs.Shares.Turns.{pulled_by, charge_most}
use Rattle.wf_law_runs.proofs.Deficits.Listing.{longer_listed}

-- ---- the reply of a Pull

sent_by : (o : Option ℕ) (w : World) (d : Class) (v : ℕ) →
    is_sent_to v (pull_outcome_for w d o).reply ≡ true → o ≡ Some v
unfolding pull_outcome_for send_outcome
sent_by None w d v h = absurd (cc h)
sent_by (Some k) w d v h = ap (λ (n : ℕ). Some n) (eqb-true _ _ h)

sent_answer : (r : Option Refusal) (w : World) (d : Class) (l : Limits) (v : ℕ) →
    is_sent_to v (judged_outcome w (Asked (Pull d l)) r).reply ≡ true → (picked_station w d).winner ≡ Some v
unfolding judged_outcome outcome_of pull_outcome
sent_answer (Some r) w d l v h = absurd (cc h)
sent_answer None w d l v h = sent_by (picked_station w d).winner (with_limits w d l) d v h

-- a Pull sends only to the station that is picked
pub sent_winner : (w : World) (d : Class) (l : Limits) (v : ℕ) →
    is_sent_to v (step w (Asked (Pull d l))).reply ≡ true → (picked_station w d).winner ≡ Some v
unfolding step
sent_winner w d l v h = sent_answer (refusal w (Asked (Pull d l))) w d l v h

wins_sent : (o : Option ℕ) (w : World) (d : Class) (v : ℕ) → o ≡ Some v →
    is_sent_to v (pull_outcome_for w d o).reply ≡ true
unfolding pull_outcome_for send_outcome
wins_sent None w d v e = absurd (cc e)
wins_sent (Some k) w d v e = let same : k ≡ v = cc in eq-eqb k v same

-- a Pull that is not refused sends to the station that is picked
pub winner_sent : (w : World) (d : Class) (l : Limits) (v : ℕ) → refusal w (Asked (Pull d l)) ≡ None →
    (picked_station w d).winner ≡ Some v → is_sent_to v (step w (Asked (Pull d l))).reply ≡ true
unfolding step judged_outcome outcome_of pull_outcome
winner_sent w d l v fine won = go (refusal w (Asked (Pull d l))) fine
  where
    go : (o : Option Refusal) → o ≡ None → is_sent_to v (judged_outcome w (Asked (Pull d l)) o).reply ≡ true
    go None e = wins_sent (picked_station w d).winner (with_limits w d l) d v won
    go (Some r) e = absurd (cc e)

-- ---- the first of the new list

pub need_none : (q : ℕ) (d : ℤ) → pos 1 ≤ℤ d → need_of q d ≡ 0
need_none q (pos zero) h = absurd (omega arith)
need_none q (pos (suc n)) h = refl
need_none q (negsuc n) h = absurd (omega arith)

found_step : (p : ℕ → Bool) (xs : List ℕ) (x s v : ℕ) → p s ≡ true →
    (0 < on xs s → find p xs ≡ Some v → (v ≡ s) ⊎ (0 < on (keys_before s xs) v)) → (b : Bool) → p x ≡ b →
    0 < on (x ∷ xs) s → cond b (Some x) (find p xs) ≡ Some v →
    (v ≡ s) ⊎ (0 < on (keys_before s (x ∷ xs)) v)
found_step p xs x s v is below true h stands k =
    let e : x ≡ v = cc in
    elim (cases_eq x s) [
      | inl same ↦ inl (sym e ∙ same)
      | inr other ↦ inr (rw (ne_eqb x s other)
          (subst (λ (z : ℕ). 0 < on (x ∷ keys_before s xs) z) e
          (omega (arith, on-cons_same x (keys_before s xs)))))
    ]
found_step p xs x s v is below false h stands k =
    let other : (x ≡ s → ⊥) = λ e. absurd (cc (ap p e, is, h)) in
    elim (below (omega (arith, on-cons_other x s xs other)) k) [
      | inl same ↦ inl same
      | inr front ↦ inr (rw (ne_eqb x s other) (omega (arith, on-cons x v (keys_before s xs))))
    ]

-- the number that is found is not after one that passes the test
found_first : (p : ℕ → Bool) (xs : List ℕ) (s v : ℕ) → p s ≡ true → 0 < on xs s → find p xs ≡ Some v →
    (v ≡ s) ⊎ (0 < on (keys_before s xs) v)
found_first p [] s v is stands e = absurd (cc e)
found_first p (x ∷ xs) s v is stands e =
    found_step p xs x s v is (λ k f. found_first p xs s v is k f) (p x) refl stands e

-- a ready key of the new list that needs no quantum is picked, or one before it
pub picked_first : (need : ℕ → ℕ) (ready : ℕ → Bool) (r : Rotation) (s v : ℕ) → 0 < on r.new s →
    ready s ≡ true → need s ≡ 0 → (pick need ready r).winner ≡ Some v →
    (v ≡ s) ⊎ (0 < on (keys_before s r.new) v)
unfolding pick
picked_first need ready r s v stands is none won = go (find (λ y. ready y && (need y == 0)) r.new) refl won
  where
    passes : (ready s && (need s == 0)) ≡ true
    passes = rw (is, none) refl

    go : (o : Option ℕ) → find (λ y. ready y && (need y == 0)) r.new ≡ o →
        (pick_from need ready r o).winner ≡ Some v → (v ≡ s) ⊎ (0 < on (keys_before s r.new) v)
    go None e k = absurd (cc (passes, find-none (λ y. ready y && (need y == 0)) r.new e s stands))
    go (Some u) e k = found_first (λ y. ready y && (need y == 0)) r.new s v passes stands (e ∙ k)

-- ---- the airtime that open exchanges may be charged

opened_listed : (o : Option ℕ) (w : World) → (books (with_listings_of w o)).opened ≡ (books w).opened
opened_listed o w = (longer_listed o w).opened

-- after a call that charges n to s, the open exchanges of s may be charged less than before, by at least n
pub record Less (l : ℕ) (c : Class) (s n : ℕ) (b b' : Books) : Type 0 where
  pub most : n + reserved l s c b'.opened ≤ reserved l s c b.opened

less_same : (l : ℕ) (c : Class) (s : ℕ) (b b' : Books) → b'.opened ≡ b.opened → Less l c s 0 b b'
less_same l c s b b' e = record { most = rw e (omega arith) }

less_open : (l : ℕ) (w : World) (e : ℕ) (o : Option Exchange) (f : Exchange → Outcome) (c : Class) (s : ℕ)
    (m : Option Exchange → ℕ) → m None ≡ 0 → exchange w e ≡ o →
    ((x : Exchange) → IsFound w e x → Less l c s (m (Some x)) (books w) (books (f x).world)) →
    Less l c s (m o) (books w) (books (outcome_where_open w o f).world)
unfolding outcome_where_open
less_open l w e None f c s m none k h = record { most = rw none (omega arith) }
less_open l w e (Some x) f c s m none k h = h x k

less_ended : (w : World) (e : ℕ) (x : Exchange) (heard : Bool) (air : Option ℕ) (c : Class) (s : ℕ) →
    IsFound w e x → charge_of air x ≤ longest_exchange w.config x.class → (b : Books) →
    b.opened ≡ filter (λ y. not (y.number == x.number)) (map core w.opened) →
    Less (longest_exchange w.config c) c s (charge_to s c air (Some x)) (books w) b
less_ended w e x heard air c s found most b same = record {
  most = rw same (omega (
    arith,
    charge_most w.config air x s c most,
    reserved-ended (longest_exchange w.config c) s c (map core w.opened) (core x) x.number
        (at_number w e x found),
  ));
}

less_pulled : (l : ℕ) (w : World) (d c : Class) (limits : Limits) (s : ℕ) →
    refusal w (Asked (Pull d limits)) ≡ None → sends_by w s c (Asked (Pull d limits)) ≡ 0 →
    Less l c s 0 (books w) (books (pull_outcome w d limits).world)
unfolding pull_outcome
less_pulled l w d c limits s fine unsent = pulled_by (λ (b : Books). Less l c s 0 (books w) b)
    (picked_station w d).winner (with_limits w d limits) d (λ _. less_same l c s (books w) _ same) opens
  where
    same : (books (after_pick w d)).opened ≡ (books w).opened
    same = ap (λ (b : Books). b.opened) (books_after_pick w d)

    nothing : (a b : Bool) → ((if a && b then l else 0) ≡ 0) ⊎ ((a ≡ true) × (b ≡ true))
    nothing true true = inr (refl, refl)
    nothing true false = inl refl
    nothing false true = inl refl
    nothing false false = inl refl

    opens : (k : ℕ) (x : Exchange) → (picked_station w d).winner ≡ Some k → x.station ≡ k → x.class ≡ d →
        Less l c s 0 (books w) (with_opened (books (after_pick w d)) x)
    opens k x won own of = elim (nothing (x.station == s) (same_class x.class c)) [
      | inl none ↦ record {
        most = rw same (omega (arith, none, reserved-append l s c (books w).opened (core x)));
      }
      | inr both ↦ absurd (
          let is : k ≡ s = sym own ∙ eqb-true _ _ both.0 in
          let sent : is_sent_to s (step w (Asked (Pull d limits))).reply ≡ true =
          winner_sent w d limits s fine (won ∙ ap (λ (n : ℕ). Some n) is) in
          let in_class : same_class d c ≡ true = subst (λ (z : Class). same_class z c ≡ true) of both.1 in
          let one : sends_by w s c (Asked (Pull d limits)) ≡ 1 = rw (in_class, sent) refl in omega arith)
    ]

less_done : (note : Note) (w : World) (c : Class) (s : ℕ) → refusal w note ≡ None → IsKept (books w) →
    sends_by w s c note ≡ 0 →
    Less (longest_exchange w.config c) c s (owing w s c note) (books w) (books (outcome_of w note).world)
unfolding outcome_of tick_outcome
less_done (Enqueue k t flow len) w c s r kept unsent =
    less_same _ c s (books w) _ (ap (λ (b : Books). b.opened) (books_enqueued w k t flow len))
less_done (Asked (Join k window start exponent weight)) w c s r kept unsent =
    less_same _ c s (books w) _ (ap (λ (b : Books). b.opened) (books_joined w k window start exponent weight))
less_done (Asked (Offload k exponent weight)) w c s r kept unsent =
    less_same _ c s (books w) _ (ap (λ (b : Books). b.opened) (books_offloaded w k exponent weight))
less_done (Asked (Plain k start exponent weight)) w c s r kept unsent =
    less_same _ c s (books w) _ (ap (λ (b : Books). b.opened) (books_joined_plain w k start exponent weight))
less_done (Asked (Weight k weight)) w c s r kept unsent =
    less_same _ c s (books w) _ (ap (λ (b : Books). b.opened) (books_weighed w k weight))
less_done (Asked (Leave k)) w c s r kept unsent =
    less_same _ c s (books w) _ (ap (λ (b : Books). b.opened) (books_gone w k))
less_done (Asked (Rate k rate)) w c s r kept unsent =
    less_same _ c s (books w) _ (ap (λ (b : Books). b.opened) (books_with_rate w k rate))
less_done (Asked (Tick by)) w c s r kept unsent = less_same _ c s (books w) (books w) refl
less_done (Asked (Pull d l)) w c s r kept unsent = less_pulled _ w d c l s r unsent
less_done (Asked (Arrive e n)) w c s r kept unsent = less_open _ w e (exchange w e) _ c s (λ _. 0) refl refl
    (λ x f. less_same _ c s (books w) _ (ap (λ (b : Books). b.opened) (books_arrived w e n x kept f)))
less_done (Asked (Unsent e n)) w c s r kept unsent = less_open _ w e (exchange w e) _ c s (λ _. 0) refl refl
    (λ x f. less_same _ c s (books w) _ (ap (λ (b : Books). b.opened) (books_unsent w e n x kept f)))
less_done (Asked (GiveUp e n)) w c s r kept unsent = less_open _ w e (exchange w e) _ c s (λ _. 0) refl refl
    (λ x f. less_same _ c s (books w) _ (ap (λ (b : Books). b.opened) (books_given_up w e n x kept f)))
less_done (Asked (Answer e)) w c s r kept unsent = less_open _ w e (exchange w e) _ c s (λ _. 0) refl refl
    (λ x f. less_same _ c s (books w) _ (ap (λ (b : Books). b.opened) (books_answered w e x kept f)))
less_done (Asked (Done e heard air)) w c s r kept unsent =
    less_open _ w e (exchange w e) _ c s (λ o. charge_to s c air o) refl refl
    (λ x f. less_ended w e x heard air c s f
    (charge_within w e x air kept f (no_row (refusals w (Asked (Done e heard air))) r).1.1.0) _
    (ap (λ (b : Books). b.opened) (books_ended air w x heard)))
less_done (Asked (Sleep k)) w c s r kept unsent =
    less_same _ c s (books w) _ (ap (λ (b : Books). b.opened) (books_slept w k))
less_done (Asked (Ampdu k octets)) w c s r kept unsent =
    less_same _ c s (books w) _ (ap (λ (b : Books). b.opened) (books_stated w k octets))
less_done (Asked (Stop k)) w c s r kept unsent =
    less_same _ c s (books w) _ (ap (λ (b : Books). b.opened) (books_stopped w k))
less_done (Asked (Start k)) w c s r kept unsent =
    less_same _ c s (books w) _ (ap (λ (b : Books). b.opened) (books_started w k))
less_done (Asked (Flush k t)) w c s r kept unsent =
    less_same _ c s (books w) _ (ap (λ (b : Books). b.opened) (books_flushed w k t))
less_done (Asked (Hold k t)) w c s r kept unsent =
    less_same _ c s (books w) _ (ap (λ (b : Books). b.opened) (books_held w k t))
less_done (Asked (Begin k t window)) w c s r kept unsent =
    less_same _ c s (books w) _ (ap (λ (b : Books). b.opened) (books_begun w k t window))
less_done (Asked (Free k t)) w c s r kept unsent =
    less_same _ c s (books w) _ (ap (λ (b : Books). b.opened) (books_freed w k t))
less_done (Asked (Cease k t)) w c s r kept unsent =
    less_same _ c s (books w) _ (ap (λ (b : Books). b.opened) (books_ceased w k t))
less_done (Asked (Wake k)) w c s r kept unsent =
    less_same _ c s (books w) _ (ap (λ (b : Books). b.opened) (books_woken w k))
less_done (Asked (Poll k)) w c s r kept unsent =
    less_same _ c s (books w) _ (ap (λ (b : Books). b.opened) (books_credited w k))
less_done (Asked (Rx k d air)) w c s r kept unsent =
    less_same _ c s (books w) _ (ap (λ (b : Books). b.opened) (books_received w k d air))
less_done (Asked Reap) w c s r kept unsent =
    less_same _ c s (books w) _ (ap (λ (b : Books). b.opened) (books_reaped w.finished w))
less_done (Asked (Group ask)) w c s r kept unsent = less_same _ c s (books w) (books w) refl
less_done (Asked (Service ask)) w c s r kept unsent =
    less_same _ c s (books w) _ (ap (λ (b : Books). b.opened) (books_served w ask))
less_done (Asked (Bss k bss)) w c s r kept unsent =
    less_same _ c s (books w) _ (ap (λ (b : Books). b.opened) (books_moved w k bss))

less_refused : (note : Note) (r : Refusal) (w : World) (c : Class) (s : ℕ) →
    Less (longest_exchange w.config c) c s 0 (books w) (books (after_refusal w note r))
unfolding after_refusal
less_refused (Asked (Pull d l)) Idle w c s =
    after_idle (λ v. Less (longest_exchange w.config c) c s 0 (books w) (books v)) w d
    (less_same _ c s (books w) (books w) refl)
    (less_same _ c s (books w) _ (ap (λ (b : Books). b.opened) (books_after_pick w d)))
less_refused _ _ w c s = less_same _ c s (books w) (books w) refl

less_answer : (r : Option Refusal) (w : World) (note : Note) (c : Class) (s : ℕ) → refusal w note ≡ r →
    IsKept (books w) → sends_by w s c note ≡ 0 →
    Less (longest_exchange w.config c) c s (charge_by w s c note) (books w)
    (books (judged_outcome w note r).world)
unfolding judged_outcome
less_answer (Some r) w note c s e kept unsent = subst (λ (n : ℕ). Less (longest_exchange w.config c) c s n
    (books w) (books (after_refusal w note r))) (sym (owing_refused note r w s c e))
    (less_refused note r w c s)
less_answer None w note c s e kept unsent =
    let done : Less (longest_exchange w.config c) c s (owing w s c note) (books w)
    (books (outcome_of w note).world) = less_done note w c s e kept unsent in
    let same : reserved (longest_exchange w.config c) s c
    (books (with_listings_of (outcome_of w note).world (concerned_station w note))).opened
    ≡ reserved (longest_exchange w.config c) s c (books (outcome_of w note).world).opened =
    ap (reserved (longest_exchange w.config c) s c)
    (opened_listed (concerned_station w note) (outcome_of w note).world) in
    record { most = omega (arith, owing_done note w s c e, same, done.most) }

-- a call that opens no exchange of a station
pub less_step : (w : World) (note : Note) (c : Class) (s : ℕ) → IsKept (books w) →
    sends_by w s c note ≡ 0 →
    Less (longest_exchange w.config c) c s (charge_by w s c note) (books w) (books (step w note).world)
unfolding step
less_step w note c s kept unsent = less_answer (refusal w note) w note c s refl kept unsent

pub sends_append : (es : List Entry) (w : World) (s : ℕ) (c : Class) (e : Entry) →
    sends w s c (es ++ e ∷ []) ≡ sends w s c es + sends_by (world_after w es) s c e.1
unfolding world_after
sends_append [] w s c e = omega arith
sends_append (x ∷ es) w s c e = omega (arith, sends_append es (step w x.1).world s c e)

-- entries that open no exchange of a station
pub less_run : (es : List Entry) (l : ℕ) (w : World) (c : Class) (s : ℕ) → IsKept (books w) →
    longest_exchange w.config c ≡ l → sends w s c es ≡ 0 →
    Less l c s (charges w s c es) (books w) (books (world_after w es))
unfolding world_after
less_run [] l w c s kept same unsent = record { most = omega arith }
less_run (e ∷ es) l w c s kept same unsent =
    let now : Less l c s (charge_by w s c e.1) (books w) (books (step w e.1).world) =
    subst (λ (n : ℕ). Less n c s (charge_by w s c e.1) (books w) (books (step w e.1).world)) same
    (less_step w e.1 c s kept (omega arith)) in
    let rest : Less l c s (charges (step w e.1).world s c es) (books (step w e.1).world)
    (books (world_after (step w e.1).world es)) =
    less_run es l (step w e.1).world c s (kept_step w e.1 kept)
    (ap (λ (z : Config). longest_exchange z c) (config_step w e.1) ∙ same) (omega arith) in
    record { most = omega (arith, now.most, rest.most) }
