-- Proves that a station spends the computed airtime of the exchanges that are opened for it, if no Done gives
-- an airtime. By cases of the call and by induction on the history.
use Rattle.std.proofs.Common.{◌≡◌, refl, ap, ◌∙◌, arith, ℕ, ◌+◌, ◌-◌, pos, ◌-ℤ◌, Bool, true, false, if◌then◌else◌, List, [], ◌∷◌, Option, Some, None, ◌&&◌, ◌==◌, take, drop}
use Rattle.std.proofs.lemmas.Int.{ints}
use Rattle.wf_frame.specs.declared.settings.Config.{Config}
use Rattle.wf_frame.specs.declared.classes.Class.{Class}
use Rattle.wf_frame.specs.declared.notes.Ask.TheVariants.{Join, Leave, Rate, Tick, Pull, Arrive, Answer, Done, Sleep, Wake, Poll, Rx, Reap, Ampdu, Stop, Start, Unsent, GiveUp, Flush, Offload, Weight, Plain, Hold, Begin, Free, Cease, Group, Service, Bss}
use Rattle.wf_frame.specs.declared.notes.Limits.{Limits}
use Rattle.wf_frame.specs.declared.notes.Note.{Note}
use Rattle.wf_frame.specs.declared.notes.Note.TheVariants.{Enqueue, Asked}
use Rattle.wf_frame.specs.declared.notes.Refusal.{Refusal}
use Rattle.wf_frame.specs.declared.notes.Refusal.TheVariants.{Idle}
use Rattle.wf_frame.specs.Classes.{same_class}
use Rattle.wf_frame.specs.Settings.{IsInRange}
use Rattle.wf_def_world.specs.World.{World, Exchange, owed, exchange, opening}
use Rattle.wf_def_world.specs.Exchanges.{Prepared, picked_station, after_tid_turn, prepared_exchange, exchange_of, sending_tid, charge_of}
use Rattle.wf_def_world.specs.Refusals.{refusals, refusal}
use Rattle.wf_def_world.specs.Step.{Outcome, tick_outcome, send_outcome, pull_outcome_for, pull_outcome, done_outcome, outcome_where_open, outcome_of, concerned_station, after_refusal, judged_outcome, step}
use Rattle.wf_def_world.specs.Run.{Entry, world_after}
use Rattle.wf_def_world.specs.Stretches.{world_at, charge_to, charge_by, charges, charged_between}
use Rattle.wf_law_runs.specs.Shares.{airtime_sent_to, airtime_sent_by, airtime_sent, SpentLaw}
use Rattle.wf_law_runs.proofs.Common.Refused.{after_idle}
use Rattle.wf_law_runs.proofs.Common.Limits.{with_limits}
use Rattle.wf_law_runs.proofs.Deficits.Books.{core, Books, books}
use Rattle.wf_law_runs.proofs.Deficits.BookSteps.{books_after_turn, books_prepared, books_sent, books_ended, books_gone, books_enqueued, books_received, books_reaped, books_slept, books_woken, books_credited, books_with_rate, books_joined, books_after_pick, books_stated, books_stopped, books_started, books_flushed, books_offloaded, books_weighed, books_joined_plain, books_held, books_begun, books_freed, books_ceased, books_served, books_moved}
use Rattle.wf_law_runs.proofs.Deficits.Openings.{owed-append, owed-core, owed-ended}
use Rattle.wf_law_runs.proofs.Deficits.Kept.{IsKept}
use Rattle.wf_law_runs.proofs.Deficits.KeptStep.{no_row, IsFound, at_number, books_arrived, books_unsent, books_given_up, books_answered, charge_exact, kept, kept_step}
use Rattle.wf_law_runs.proofs.Deficits.Configs.{config_run, config_step}
use Rattle.wf_law_runs.proofs.Deficits.Listing.{longer_listed}
use Rattle.wf_law_runs.proofs.Fairness.OldOrder.{owing, owing_done, owing_refused}
use Rattle.wf_law_runs.proofs.Shares.Moments.{later_is}

-- From b to b', station s is charged m, and exchanges are opened for it of which n is computed.
record IsPaid (s m n : ℕ) (c : Class) (b b' : Books) : Type 0 where
  paid : m + owed s c b'.opened ≡ owed s c b.opened + n

paid_same : (s : ℕ) (c : Class) (b b' : Books) → b'.opened ≡ b.opened → IsPaid s 0 0 c b b'
paid_same s c b b' e = record { paid = omega (arith, ap (owed s c) e) }

-- ---- a pull

-- Returns the computed airtime of the exchange that a call opens, if it is not refused.
abbrev given_by : World → ℕ → Class → Note → ℕ
given_by w s c (Asked (Pull d l)) = if same_class d c then airtime_sent_to s (pull_outcome w d l).reply else 0
given_by w s c _ = 0

either_order : (a b : Bool) (n : ℕ) → (if a && b then n else 0) ≡ (if b then (if a then n else 0) else 0)
either_order true true n = refl
either_order true false n = refl
either_order false true n = refl
either_order false false n = refl

-- Returns 0, whether the class is the same or not.
abbrev no_airtime : Bool → ℕ
no_airtime b = if b then 0 else 0

nothing_sent : (b : Bool) → no_airtime b ≡ 0
nothing_sent true = refl
nothing_sent false = refl

paid_by : (o : Option ℕ) (v : World) (d c : Class) (s : ℕ) →
    owed s c (books (pull_outcome_for v d o).world).opened
    ≡ owed s c (books v).opened +
    (if same_class d c then airtime_sent_to s (pull_outcome_for v d o).reply else 0)
unfolding pull_outcome_for send_outcome
paid_by None v d c s = omega (arith, nothing_sent (same_class d c))
paid_by (Some k) v d c s =
    let t : ℕ = sending_tid v k d in
    let p : Prepared = prepared_exchange (after_tid_turn v k d t) k t in
    let e : books p.world ≡ books v = books_prepared (after_tid_turn v k d t) k t
    ∙ books_after_turn v k d t in
    ap (λ (b : Books). owed s c b.opened) (books_sent k t d p)
    ∙ (owed-append s c (books p.world).opened (core (exchange_of k t d p))
    ∙ (ap (λ (b : Books). owed s c b.opened + (if (k == s) && same_class d c then p.charge else 0)) e
    ∙ ap (λ (n : ℕ). owed s c (books v).opened + n) (either_order (k == s) (same_class d c) p.charge)))

paid_pulled : (w : World) (d c : Class) (l : Limits) (s : ℕ) →
    IsPaid s 0 (given_by w s c (Asked (Pull d l))) c (books w) (books (pull_outcome w d l).world)
unfolding pull_outcome
paid_pulled w d c l s = record {
  paid = omega (
    arith,
    paid_by (picked_station w d).winner (with_limits w d l) d c s,
    ap (λ (b : Books). owed s c b.opened) (books_after_pick w d),
  );
}

-- ---- the calls

paid_open : (o : Option Exchange) (w : World) (e s : ℕ) (c : Class) (f : Exchange → Outcome) →
    exchange w e ≡ o →
    ((x : Exchange) → IsFound w e x → (books (f x).world).opened ≡ (books w).opened) →
    IsPaid s 0 0 c (books w) (books (outcome_where_open w o f).world)
unfolding outcome_where_open
paid_open None w e s c f k h = paid_same s c (books w) (books w) refl
paid_open (Some x) w e s c f k h = paid_same s c (books w) (books (f x).world) (h x k)

paid_ended : (o : Option Exchange) (w : World) (e : ℕ) (heard : Bool) (air : Option ℕ) (s : ℕ) (c : Class) →
    IsKept (books w) → exchange w e ≡ o → ((x : Exchange) → charge_of air x ≡ x.charge) →
    IsPaid s (charge_to s c air o) 0 c (books w)
    (books (outcome_where_open w o (λ x. done_outcome w x heard air)).world)
unfolding outcome_where_open
paid_ended None w e heard air s c kept k same = paid_same s c (books w) (books w) refl
paid_ended (Some x) w e heard air s c kept k same = record {
  paid = omega (
    arith,
    ap (λ (b : Books). owed s c b.opened) (books_ended air w x heard),
    ap (λ (n : ℕ). if (x.station == s) && same_class x.class c then n else 0) (same x),
    owed-ended 0 s c (books w).opened (core x) x.number kept.rising (at_number w e x k),
  );
}

paid_done : (note : Note) (w : World) (s : ℕ) (c : Class) → refusal w note ≡ None → IsKept (books w) →
    w.config.charge ≡ 0 → IsPaid s (owing w s c note) (given_by w s c note) c (books w)
    (books (outcome_of w note).world)
unfolding outcome_of tick_outcome
paid_done (Enqueue i t flow len) w s c fine kept none =
    paid_same s c (books w) _ (ap (λ (b : Books). b.opened) (books_enqueued w i t flow len))
paid_done (Asked (Join i window start exponent weight)) w s c fine kept none =
    paid_same s c (books w) _ (ap (λ (b : Books). b.opened) (books_joined w i window start exponent weight))
paid_done (Asked (Offload i exponent weight)) w s c fine kept none =
    paid_same s c (books w) _ (ap (λ (b : Books). b.opened) (books_offloaded w i exponent weight))
paid_done (Asked (Plain i start exponent weight)) w s c fine kept none =
    paid_same s c (books w) _ (ap (λ (b : Books). b.opened) (books_joined_plain w i start exponent weight))
paid_done (Asked (Weight i weight)) w s c fine kept none =
    paid_same s c (books w) _ (ap (λ (b : Books). b.opened) (books_weighed w i weight))
paid_done (Asked (Leave i)) w s c fine kept none =
    paid_same s c (books w) _ (ap (λ (b : Books). b.opened) (books_gone w i))
paid_done (Asked (Rate i rate)) w s c fine kept none =
    paid_same s c (books w) _ (ap (λ (b : Books). b.opened) (books_with_rate w i rate))
paid_done (Asked (Tick by)) w s c fine kept none = paid_same s c (books w) (books w) refl
paid_done (Asked (Pull d l)) w s c fine kept none = paid_pulled w d c l s
paid_done (Asked (Arrive e j)) w s c fine kept none = paid_open (exchange w e) w e s c _ refl
    (λ x f. ap (λ (b : Books). b.opened) (books_arrived w e j x kept f))
paid_done (Asked (Unsent e j)) w s c fine kept none = paid_open (exchange w e) w e s c _ refl
    (λ x f. ap (λ (b : Books). b.opened) (books_unsent w e j x kept f))
paid_done (Asked (GiveUp e j)) w s c fine kept none = paid_open (exchange w e) w e s c _ refl
    (λ x f. ap (λ (b : Books). b.opened) (books_given_up w e j x kept f))
paid_done (Asked (Answer e)) w s c fine kept none = paid_open (exchange w e) w e s c _ refl
    (λ x f. ap (λ (b : Books). b.opened) (books_answered w e x kept f))
paid_done (Asked (Done e heard air)) w s c fine kept none =
    paid_ended (exchange w e) w e heard air s c kept refl
    (λ x. charge_exact w.config x air (no_row (refusals w (Asked (Done e heard air))) fine).1.1.0 none)
paid_done (Asked (Sleep i)) w s c fine kept none =
    paid_same s c (books w) _ (ap (λ (b : Books). b.opened) (books_slept w i))
paid_done (Asked (Ampdu i octets)) w s c fine kept none =
    paid_same s c (books w) _ (ap (λ (b : Books). b.opened) (books_stated w i octets))
paid_done (Asked (Stop i)) w s c fine kept none =
    paid_same s c (books w) _ (ap (λ (b : Books). b.opened) (books_stopped w i))
paid_done (Asked (Start i)) w s c fine kept none =
    paid_same s c (books w) _ (ap (λ (b : Books). b.opened) (books_started w i))
paid_done (Asked (Flush i t)) w s c fine kept none =
    paid_same s c (books w) _ (ap (λ (b : Books). b.opened) (books_flushed w i t))
paid_done (Asked (Hold i t)) w s c fine kept none =
    paid_same s c (books w) _ (ap (λ (b : Books). b.opened) (books_held w i t))
paid_done (Asked (Begin i t window)) w s c fine kept none =
    paid_same s c (books w) _ (ap (λ (b : Books). b.opened) (books_begun w i t window))
paid_done (Asked (Free i t)) w s c fine kept none =
    paid_same s c (books w) _ (ap (λ (b : Books). b.opened) (books_freed w i t))
paid_done (Asked (Cease i t)) w s c fine kept none =
    paid_same s c (books w) _ (ap (λ (b : Books). b.opened) (books_ceased w i t))
paid_done (Asked (Wake i)) w s c fine kept none =
    paid_same s c (books w) _ (ap (λ (b : Books). b.opened) (books_woken w i))
paid_done (Asked (Poll i)) w s c fine kept none =
    paid_same s c (books w) _ (ap (λ (b : Books). b.opened) (books_credited w i))
paid_done (Asked (Rx i d air)) w s c fine kept none =
    paid_same s c (books w) _ (ap (λ (b : Books). b.opened) (books_received w i d air))
paid_done (Asked Reap) w s c fine kept none =
    paid_same s c (books w) _ (ap (λ (b : Books). b.opened) (books_reaped w.finished w))
paid_done (Asked (Group ask)) w s c fine kept none = paid_same s c (books w) (books w) refl
paid_done (Asked (Service ask)) w s c fine kept none =
    paid_same s c (books w) _ (ap (λ (b : Books). b.opened) (books_served w ask))
paid_done (Asked (Bss i bss)) w s c fine kept none =
    paid_same s c (books w) _ (ap (λ (b : Books). b.opened) (books_moved w i bss))

paid_refused : (note : Note) (r : Refusal) (w : World) (s : ℕ) (c : Class) →
    IsPaid s 0 0 c (books w) (books (after_refusal w note r))
unfolding after_refusal
paid_refused (Asked (Pull d l)) Idle w s c = after_idle (λ v. IsPaid s 0 0 c (books w) (books v)) w d
    (paid_same s c (books w) (books w) refl)
    (paid_same s c (books w) _ (ap (λ (b : Books). b.opened) (books_after_pick w d)))
paid_refused _ _ w s c = paid_same s c (books w) (books w) refl

given_done : (note : Note) (w : World) (s : ℕ) (c : Class) → refusal w note ≡ None →
    airtime_sent_by w s c note ≡ given_by w s c note
unfolding step judged_outcome outcome_of
given_done (Asked (Pull d l)) w s c fine = ap (λ (o : Option Refusal). if same_class d c
    then airtime_sent_to s (judged_outcome w (Asked (Pull d l)) o).reply else 0) fine
given_done _ w s c fine = refl

given_refused : (note : Note) (r : Refusal) (w : World) (s : ℕ) (c : Class) → refusal w note ≡ Some r →
    airtime_sent_by w s c note ≡ 0
unfolding step judged_outcome
given_refused (Asked (Pull d l)) r w s c e = ap (λ (o : Option Refusal). if same_class d c
    then airtime_sent_to s (judged_outcome w (Asked (Pull d l)) o).reply else 0) e
    ∙ nothing_sent (same_class d c)
given_refused _ r w s c e = refl

paid_answer : (o : Option Refusal) (w : World) (note : Note) (s : ℕ) (c : Class) → refusal w note ≡ o →
    IsKept (books w) → w.config.charge ≡ 0 → IsPaid s (charge_by w s c note) (airtime_sent_by w s c note) c
    (books w) (books (judged_outcome w note o).world)
unfolding judged_outcome
paid_answer (Some r) w note s c e kept none = record {
  paid = omega (
    arith,
    owing_refused note r w s c e,
    given_refused note r w s c e,
    (paid_refused note r w s c).paid,
  );
}
paid_answer None w note s c e kept none = record {
  paid = omega (
    arith,
    owing_done note w s c e,
    given_done note w s c e,
    (paid_done note w s c e kept none).paid,
    ap (owed s c) (longer_listed (concerned_station w note) (outcome_of w note).world).opened,
  );
}

paid_step : (w : World) (note : Note) (s : ℕ) (c : Class) → IsKept (books w) → w.config.charge ≡ 0 →
    IsPaid s (charge_by w s c note) (airtime_sent_by w s c note) c (books w) (books (step w note).world)
unfolding step
paid_step w note s c kept none = paid_answer (refusal w note) w note s c refl kept none

paid_run : (es : List Entry) (w : World) (s : ℕ) (c : Class) → IsKept (books w) → w.config.charge ≡ 0 →
    IsPaid s (charges w s c es) (airtime_sent w s c es) c (books w) (books (world_after w es))
unfolding world_after
paid_run [] w s c kept none = paid_same s c (books w) (books w) refl
paid_run (e ∷ es) w s c kept none = record {
  paid = omega (
    arith,
    (paid_step w e.1 s c kept none).paid,
    (paid_run es (step w e.1).world s c (kept_step w e.1 kept)
        (ap (λ (z : Config). z.charge) (config_step w e.1) ∙ none)).paid,
  );
}

pub spent_law : (config : Config) (h : List Entry) → IsInRange config → SpentLaw config h
spent_law config h range none s c a b order =
    let w : World = world_at config h a in
    let p : IsPaid s (charges w s c (take (b - a) (drop a h)))
    (airtime_sent w s c (take (b - a) (drop a h))) c
    (books w) (books (world_after w (take (b - a) (drop a h)))) =
    paid_run (take (b - a) (drop a h)) w s c (kept config (take a h) range)
    (ap (λ (z : Config). z.charge) (config_run (take a h) (opening config)) ∙ none) in
    number (charged_between config h s c a b) (owed s c (world_at config h b).opened) (owed s c w.opened) _
    (omega (
      arith,
      p.paid,
      owed-core s c w.opened,
      owed-core s c (world_after w (take (b - a) (drop a h))).opened,
      ap (λ (v : World). owed s c v.opened) (later_is config h a b order),
    ))
  where
    number : (p o k n : ℕ) → p + o ≡ k + n → (pos (p + o) -ℤ pos k) ≡ pos n
    number p o k n e = omega (arith, ints)
