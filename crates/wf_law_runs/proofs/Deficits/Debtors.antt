-- Proves that a call leaves every other station on a list of a class, or with a positive standing in it, if
-- it was so before. By cases of the call.
use Rattle.std.proofs.Common.{◌≡◌, refl, ap, sym, ◌∙◌, subst, arith, ℕ, ◌*◌, ◌<◌, ℤ, pos, ◌+ℤ◌, ◌-ℤ◌, ◌≤ℤ◌, Bool, true, false, if◌then◌else◌, Option, Some, None, IfSome, not, ◌==◌, find, inl, inr, ◌⊎◌}
use Rattle.std.proofs.lemmas.Int.{ints}
use Rattle.wf_frame.specs.declared.settings.Config.{Config}
use Rattle.wf_frame.specs.declared.classes.Class.{Class}
use Rattle.wf_frame.specs.declared.notes.Ask.TheVariants.{Join, Leave, Rate, Tick, Pull, Arrive, Answer, Done, Sleep, Wake, Poll, Rx, Reap, Ampdu, Stop, Start, Unsent, GiveUp, Flush, Offload, Weight, Plain, Hold, Begin, Free, Cease, Group, Service, Bss}
use Rattle.wf_frame.specs.declared.notes.Limits.{Limits}
use Rattle.wf_frame.specs.declared.notes.Note.{Note}
use Rattle.wf_frame.specs.declared.notes.Note.TheVariants.{Enqueue, Asked}
use Rattle.wf_frame.specs.Classes.{class_number}
use Rattle.wf_def_lists.specs.Lists.{on}
use Rattle.wf_def_rotation.specs.Rotation.{Rotation, in_order, without_key}
use Rattle.wf_def_world.specs.World.{World, Exchange, rotation, exchange, owed}
use Rattle.wf_def_world.specs.CanSend.{is_ready}
use Rattle.wf_def_world.specs.Exchanges.{Prepared, station_need, picked_station, after_tid_turn, prepared_exchange, exchange_of, sending_tid}
use Rattle.wf_def_world.specs.Step.{Outcome, tick_outcome, pull_outcome_for, pull_outcome, outcome_where_open, outcome_of, concerned_station, station_of, done_outcome}
use Rattle.wf_law_rules.proofs.Lemmas.Rotations.{pick_leaves}
use Rattle.wf_law_runs.proofs.Common.Limits.{with_limits}
use Rattle.wf_law_runs.proofs.Deficits.Books.{Account, Books, books, core, with_account, upd_other, updc_same, updc_other, cases_class}
use Rattle.wf_law_runs.proofs.Deficits.BookSteps.{books_after_turn, books_prepared, books_sent, with_opened, without, books_ended, books_gone, all_off, books_enqueued, books_received, books_reaped, books_slept, books_woken, books_credited, books_with_rate, books_joined, paid, after, books_after_pick, pay_share, books_stated, books_stopped, books_started, books_flushed, books_offloaded, books_weighed, books_joined_plain, books_held, books_begun, books_freed, books_ceased, books_served, books_moved}
use Rattle.wf_law_runs.proofs.Deficits.Openings.{every_map, only_one, owed-others_append, owed-others_filter}
use Rattle.wf_law_runs.proofs.Deficits.Kept.{IsKept, counted_in, standing_of, need_in, if_map, if_same, above_after}
use Rattle.wf_law_runs.proofs.Deficits.KeptStep.{need_is, IsFound, at_number, books_arrived, books_unsent, books_given_up, books_answered}
use Rattle.std.proofs.lemmas.Bool.{eqb-true, not-false, ne_eqb, not_from_false}
use Rattle.wf_frame.specs.declared.classes.Class.TheVariants.{Bk, Be, Vi, Vo}
use Rattle.wf_law_rules.proofs.Lemmas.Counts.{on-append, on-filter}

without-on : (r : Rotation) (s y : ℕ) → (y ≡ s → ⊥) → on (in_order (without_key r s)) y ≡ on (in_order r) y
without-on r s y other =
    let stays : not (y == s) ≡ true = not_from_false _ (ne_eqb y s other) in
    omega (
      arith,
      on-append (without_key r s).old (without_key r s).new y,
      on-append r.old r.new y,
      on-filter (λ z. not (z == s)) r.old y stays,
      on-filter (λ z. not (z == s)) r.new y stays,
    )

pub all_off-on : (b : Books) (s y : ℕ) (c : Class) → (y ≡ s → ⊥) →
    on (in_order ((all_off b s).rotations c)) y ≡ on (in_order (b.rotations c)) y
all_off-on b s y Bk other = without-on (b.rotations Bk) s y other
all_off-on b s y Be other = without-on (b.rotations Be) s y other
all_off-on b s y Vi other = without-on (b.rotations Vi) s y other
all_off-on b s y Vo other = without-on (b.rotations Vo) s y other

-- A station that is not live, or that has a positive standing for a class.
abbrev pub HasCredit : Books → ℕ → Class → Type 0
HasCredit b y c = IfSome (b.accounts y) (λ a. pos 1 ≤ℤ standing_of b y c a)

-- A station is on a list of a class, or its standing is positive.
abbrev pub IsBacked : Books → ℕ → Class → Type 0
IsBacked b y c = (0 < on (in_order (b.rotations c)) y) ⊎ HasCredit b y c

-- Every station except s that is on a list or has a positive standing in b, is on a list or has a positive
-- standing in b'.
pub record Backs (s : ℕ) (b b' : Books) : Type 0 where
  pub backs : (y : ℕ) (c : Class) → (y ≡ s → ⊥) → IsBacked b y c → IsBacked b' y c

backs_same : (s : ℕ) (a b : Books) → a ≡ b → Backs s b a
backs_same s a b e = record { backs = λ y c _ h. subst (λ (z : Books). IsBacked z y c) (sym e) h }

backs_then : (s : ℕ) (a b d : Books) → Backs s a b → Backs s b d → Backs s a d
backs_then s a b d h k = record { backs = λ y c other z. k.backs y c other (h.backs y c other z) }

-- The parts of another station do not change, and the lists do not lose it.
backs_other : (s : ℕ) (b b' : Books) → b'.config ≡ b.config →
    ((y : ℕ) → (y ≡ s → ⊥) → b'.accounts y ≡ b.accounts y) →
    ((y : ℕ) (c : Class) → (y ≡ s → ⊥) → owed y c b'.opened ≡ owed y c b.opened) →
    ((y : ℕ) (c : Class) → (y ≡ s → ⊥) → on (in_order (b'.rotations c)) y ≡ on (in_order (b.rotations c)) y) →
    Backs s b b'
backs_other s b b' config accounts opened lists = record { backs = each }
  where
    each : (y : ℕ) (c : Class) → (y ≡ s → ⊥) → IsBacked b y c → IsBacked b' y c
    each y c other (inl h) = inl (omega (arith, h, lists y c other))
    each y c other (inr h) =
        let counts : counted_in b'.config y c b'.opened ≡ counted_in b.config y c b.opened =
        ap (λ (z : Config). counted_in z y c b'.opened) config
        ∙ ap (λ (n : ℕ). if b.config.pending == 1 then n else 0) (opened y c other) in
        inr (subst (λ (o : Option Account). IfSome o (λ a. pos 1 ≤ℤ standing_of b' y c a))
        (sym (accounts y other))
        (subst (λ (n : ℕ). IfSome (b.accounts y) (λ a. pos 1 ≤ℤ ((a.shares c).deficit -ℤ pos n)))
        (sym counts) h))

-- One account changes.
backs_account : (s : ℕ) (b : Books) (o : Option Account) → Backs s b (with_account b s o)
backs_account s b o = backs_other s b _ refl (λ y other. upd_other b.accounts s y o other)
    (λ y c _. refl) (λ y c _. refl)

backs_gone : (s : ℕ) (b : Books) → Backs s b (with_account (all_off b s) s None)
backs_gone s b = backs_other s b _ refl (λ y other. upd_other b.accounts s y None other) (λ y c _. refl)
    (λ y c other. all_off-on b s y c other)

backs_opened : (s : ℕ) (b : Books) (x : Exchange) → x.station ≡ s → Backs s b (with_opened b x)
backs_opened s b x own = backs_other s b _ refl (λ y _. refl)
    (λ y c other. owed-others_append y c b.opened (core x) (λ e. other (sym e ∙ own))) (λ y c _. refl)

-- An exchange of s ends.
backs_without : (s : ℕ) (b : Books) (x : Exchange) (e : ℕ) → IsKept b →
    find (λ z. z.number == e) b.opened ≡ Some x → x.station ≡ s → Backs s b (without b e)
backs_without s b x e i found own = backs_other s b _ refl (λ y _. refl)
    (λ y c other. owed-others_filter y c (λ z. not (z.number == e)) b.opened
    (every_map (λ z. z.number ≡ e → z ≡ x) (λ z. not (z.number == e) ≡ false → z.station ≡ y → ⊥)
    (λ z only gone at. other (sym at ∙ (ap (λ (u : Exchange). u.station) (only (is_at z.number gone)) ∙ own)))
    b.opened (only_one 0 b.opened x e i.rising found)))
    (λ y c _. refl)
  where
    is_at : (n : ℕ) → not (n == e) ≡ false → n ≡ e
    is_at n gone = eqb-true n e (not-false (n == e) gone)

-- ---- a pick

grants : (q n : ℕ) (c d : Class) (k : ℕ) (a : Account) → pos 1 ≤ℤ ((a.shares c).deficit -ℤ pos k) →
    pos 1 ≤ℤ (((paid q d n a).shares c).deficit -ℤ pos k)
grants q n c d k a h = elim (cases_class c d) [
  | inl e ↦ subst (λ (z : Class). pos 1 ≤ℤ ((a.shares z).deficit -ℤ pos k) →
      pos 1 ≤ℤ (((paid q d n a).shares z).deficit -ℤ pos k)) (sym e) here h
  | inr other ↦ rw (updc_other a.shares d c (pay_share (q * a.weight) n (a.shares d)) other) h
]
  where
    more : (v : ℤ) (g : ℕ) → pos 1 ≤ℤ (v -ℤ pos k) → pos 1 ≤ℤ ((v +ℤ pos g) -ℤ pos k)
    more v g h = omega (arith, ints)

    here : pos 1 ≤ℤ ((a.shares d).deficit -ℤ pos k) →
        pos 1 ≤ℤ (((paid q d n a).shares d).deficit -ℤ pos k)
    here h = rw (updc_same a.shares d (pay_share (q * a.weight) n (a.shares d)))
        (more (a.shares d).deficit (n * (q * a.weight)) h)

credit_paid : (w : World) (d c : Class) (y : ℕ) → HasCredit (books w) y c →
    HasCredit (after (books w) d (picked_station w d)) y c
credit_paid w d c y h = if_map (λ a. pos 1 ≤ℤ standing_of (books w) y c a)
    (λ a. pos 1 ≤ℤ standing_of (books w) y c a)
    (paid w.config.quantum d (on (in_order (rotation w d)) y * (picked_station w d).quanta y))
    ((books w).accounts y) h
    (λ a _ k. grants w.config.quantum _ c d (counted_in w.config y c (books w).opened) a k)

backs_class : (w : World) (d : Class) (y : ℕ) → IsKept (books w) → IsBacked (books w) y d →
    IsBacked (after (books w) d (picked_station w d)) y d
backs_class w d y i (inr h) = inr (credit_paid w d d y h)
backs_class w d y i (inl h) =
    elim (pick_leaves (station_need w d) (is_ready w d) (rotation w d) y h) [
      | inl stays ↦ inl (subst (λ (r : Rotation). 0 < on (in_order r) y)
          (sym (updc_same (books w).rotations d (picked_station w d).lists)) stays)
      | inr given ↦ inr (above_after (books w) d (picked_station w d) y i h
          (if_same (λ a. station_need w d y ≡ need_in (books w) y d a)
          (λ a. (picked_station w d).quanta y ≡ need_in (books w) y d a) ((books w).accounts y)
          (need_is w d y) (λ a _ e. given ∙ e)))
    ]

backs_after : (s : ℕ) (w : World) (d : Class) → IsKept (books w) →
    Backs s (books w) (after (books w) d (picked_station w d))
backs_after s w d i = record { backs = λ y c _ h. each y c h }
  where
    away : (y : ℕ) (c : Class) → (class_number c ≡ class_number d → ⊥) → IsBacked (books w) y c →
        IsBacked (after (books w) d (picked_station w d)) y c
    away y c other (inr h) = inr (credit_paid w d c y h)
    away y c other (inl h) = inl (subst (λ (r : Rotation). 0 < on (in_order r) y)
        (sym (updc_other (books w).rotations d c (picked_station w d).lists other)) h)

    each : (y : ℕ) (c : Class) → IsBacked (books w) y c →
        IsBacked (after (books w) d (picked_station w d)) y c
    each y c h = elim (cases_class c d) [
      | inl e ↦ subst (λ (z : Class). IsBacked (books w) y z → IsBacked
          (after (books w) d (picked_station w d)) y z) (sym e) (backs_class w d y i) h
      | inr other ↦ away y c other h
    ]

backs_pulled_by : (o : Option ℕ) (s : ℕ) (v : World) (d : Class) → ((y : ℕ) → o ≡ Some y → y ≡ s) →
    Backs s (books v) (books (pull_outcome_for v d o).world)
unfolding pull_outcome_for
backs_pulled_by None s v d h = backs_same s _ _ refl
backs_pulled_by (Some k) s v d h =
    let t : ℕ = sending_tid v k d in
    let p : Prepared = prepared_exchange (after_tid_turn v k d t) k t in
    let e : books p.world ≡ books v = books_prepared (after_tid_turn v k d t) k t
    ∙ books_after_turn v k d t in
    backs_then s _ _ _ (backs_same s (books p.world) (books v) e)
    (backs_then s _ _ _ (backs_opened s (books p.world) (exchange_of k t d p) (h k refl))
    (backs_same s _ _ (books_sent k t d p)))

backs_pulled : (s : ℕ) (w : World) (d : Class) (l : Limits) → IsKept (books w) →
    ((y : ℕ) → (picked_station w d).winner ≡ Some y → y ≡ s) →
    Backs s (books w) (books (pull_outcome w d l).world)
unfolding pull_outcome
backs_pulled s w d l i h = backs_then s _ _ _ (backs_after s w d i)
    (backs_then s _ _ _ (backs_same s _ _ (books_after_pick w d))
    (backs_pulled_by (picked_station w d).winner s (with_limits w d l) d h))

-- ---- the calls

backs_named : (i s : ℕ) (a b : Books) → ((y : ℕ) → Some i ≡ Some y → y ≡ s) → Backs i a b → Backs s a b
backs_named i s a b h m = subst (λ (z : ℕ). Backs z a b) (h i refl) m

backs_open : (o : Option Exchange) (w : World) (e s : ℕ) (f : Exchange → Outcome) → exchange w e ≡ o →
    ((y : ℕ) → station_of o ≡ Some y → y ≡ s) →
    ((x : Exchange) → IsFound w e x → Backs x.station (books w) (books (f x).world)) →
    Backs s (books w) (books (outcome_where_open w o f).world)
unfolding outcome_where_open
backs_open None w e s f k h m = backs_same s _ _ refl
backs_open (Some x) w e s f k h m = backs_named x.station s _ _ h (m x k)

backs_ended : (air : Option ℕ) (w : World) (e : ℕ) (x : Exchange) (heard : Bool) → IsKept (books w) →
    IsFound w e x → Backs x.station (books w) (books (done_outcome w x heard air).world)
backs_ended air w e x heard i found =
    backs_then x.station _ _ _ (backs_without x.station (books w) (core x) x.number i
    (at_number w e x found) refl)
    (backs_then x.station _ _ _ (backs_account x.station (without (books w) x.number) _)
    (backs_same x.station _ _ (books_ended air w x heard)))

pub backs_done : (note : Note) (w : World) (s : ℕ) → IsKept (books w) →
    ((y : ℕ) → concerned_station w note ≡ Some y → y ≡ s) →
    Backs s (books w) (books (outcome_of w note).world)
unfolding outcome_of tick_outcome
backs_done (Enqueue i t flow len) w s k h = backs_same s _ _ (books_enqueued w i t flow len)
backs_done (Asked (Join i window start exponent weight)) w s k h = backs_named i s _ _ h
    (backs_then i _ _ _ (backs_account i (books w) _)
    (backs_same i _ _ (books_joined w i window start exponent weight)))
backs_done (Asked (Offload i exponent weight)) w s k h = backs_named i s _ _ h
    (backs_then i _ _ _ (backs_account i (books w) _)
    (backs_same i _ _ (books_offloaded w i exponent weight)))
backs_done (Asked (Plain i start exponent weight)) w s k h = backs_named i s _ _ h
    (backs_then i _ _ _ (backs_account i (books w) _)
    (backs_same i _ _ (books_joined_plain w i start exponent weight)))
backs_done (Asked (Weight i weight)) w s k h = backs_named i s _ _ h
    (backs_then i _ _ _ (backs_account i (books w) _) (backs_same i _ _ (books_weighed w i weight)))
backs_done (Asked (Leave i)) w s k h = backs_named i s _ _ h
    (backs_then i _ _ _ (backs_gone i (books w)) (backs_same i _ _ (books_gone w i)))
backs_done (Asked (Rate i rate)) w s k h = backs_named i s _ _ h
    (backs_then i _ _ _ (backs_account i (books w) _) (backs_same i _ _ (books_with_rate w i rate)))
backs_done (Asked (Tick by)) w s k h = backs_same s _ _ refl
backs_done (Asked (Pull d l)) w s k h = backs_pulled s w d l k h
backs_done (Asked (Arrive e j)) w s k h = backs_open (exchange w e) w e s _ refl h
    (λ x f. backs_same x.station _ _ (books_arrived w e j x k f))
backs_done (Asked (Unsent e j)) w s k h = backs_open (exchange w e) w e s _ refl h
    (λ x f. backs_same x.station _ _ (books_unsent w e j x k f))
backs_done (Asked (GiveUp e j)) w s k h = backs_open (exchange w e) w e s _ refl h
    (λ x f. backs_same x.station _ _ (books_given_up w e j x k f))
backs_done (Asked (Answer e)) w s k h = backs_open (exchange w e) w e s _ refl h
    (λ x f. backs_same x.station _ _ (books_answered w e x k f))
backs_done (Asked (Done e heard air)) w s k h = backs_open (exchange w e) w e s _ refl h
    (λ x f. backs_ended air w e x heard k f)
backs_done (Asked (Sleep i)) w s k h = backs_same s _ _ (books_slept w i)
backs_done (Asked (Ampdu i octets)) w s k h = backs_same s _ _ (books_stated w i octets)
backs_done (Asked (Stop i)) w s k h = backs_same s _ _ (books_stopped w i)
backs_done (Asked (Start i)) w s k h = backs_same s _ _ (books_started w i)
backs_done (Asked (Flush i t)) w s k h = backs_same s _ _ (books_flushed w i t)
backs_done (Asked (Hold i t)) w s k h = backs_same s _ _ (books_held w i t)
backs_done (Asked (Begin i t window)) w s k h = backs_same s _ _ (books_begun w i t window)
backs_done (Asked (Free i t)) w s k h = backs_same s _ _ (books_freed w i t)
backs_done (Asked (Cease i t)) w s k h = backs_same s _ _ (books_ceased w i t)
backs_done (Asked (Wake i)) w s k h = backs_same s _ _ (books_woken w i)
backs_done (Asked (Poll i)) w s k h = backs_same s _ _ (books_credited w i)
backs_done (Asked (Rx i c air)) w s k h = backs_named i s _ _ h
    (backs_then i _ _ _ (backs_account i (books w) _) (backs_same i _ _ (books_received w i c air)))
backs_done (Asked Reap) w s k h = backs_same s _ _ (books_reaped w.finished w)
backs_done (Asked (Group ask)) w s k h = backs_same s _ _ refl
backs_done (Asked (Service ask)) w s k h = backs_same s _ _ (books_served w ask)
backs_done (Asked (Bss i b)) w s k h = backs_same s _ _ (books_moved w i b)
