-- Proves that every ready station is listed, in every world of a run: a call lists the station that it
-- concerns, and no other station becomes ready.
use Rattle.std.proofs.Common.{◌≡◌, refl, ap, sym, ◌∙◌, subst, arith, ℕ, suc, ◌<◌, Bool, true, false, List, [], ◌∷◌, Option, Some, None, ◌&&◌, ◌||◌, ◌==◌, inl, inr, ℤ, pos, ◌-ℤ◌, ◌≤ℤ◌, int_le, is_some, IfSome, eq-eqb}
use Rattle.std.proofs.lemmas.Bool.{cases_eq, cases_Bool, and_parts, or_parts, eqb-true}
use Rattle.wf_frame.specs.declared.settings.Config.{Config}
use Rattle.wf_frame.specs.declared.classes.Class.{Class}
use Rattle.wf_frame.specs.declared.notes.Ask.TheVariants.{Join, Leave, Rate, Tick, Pull, Arrive, Answer, Done, Sleep, Wake, Poll, Rx, Reap, Ampdu, Stop, Start, Unsent, GiveUp, Flush, Offload, Weight, Plain, Hold, Begin, Free, Cease, Group, Service, Bss}
use Rattle.wf_frame.specs.declared.notes.Limits.{Limits}
use Rattle.wf_frame.specs.declared.notes.Note.{Note}
use Rattle.wf_frame.specs.declared.notes.Note.TheVariants.{Enqueue, Asked}
use Rattle.wf_frame.specs.declared.notes.Refusal.{Refusal}
use Rattle.wf_frame.specs.declared.notes.Refusal.TheVariants.{Idle}
use Rattle.wf_def_lists.specs.Table.{at}
use Rattle.wf_def_rotation.specs.Rotation.{Rotation, in_order}
use Rattle.wf_def_world.specs.World.{World, Exchange, rotation, exchange, opening, standing, is_live}
use Rattle.wf_frame.specs.Classes.{all_classes}
use Rattle.wf_def_world.specs.CanSend.{is_ready, with_listing_in, with_listings_in, with_listings_of, is_to_list, is_debtor}
use Rattle.wf_def_world.specs.Exchanges.{station_need, picked_station, after_pick}
use Rattle.wf_def_world.specs.Refusals.{refusals, refusal}
use Rattle.wf_def_world.specs.Step.{Outcome, tick_outcome, pull_outcome, outcome_where_open, outcome_of, concerned_station, after_refusal, judged_outcome, step}
use Rattle.wf_def_world.specs.Run.{Entry, world_after}
use Rattle.wf_frame.specs.Settings.{IsInRange}
use Rattle.wf_def_lists.specs.Lists.{on}
use Rattle.wf_law_rules.proofs.Lemmas.Counts.{on-nil}
use Rattle.wf_law_rules.proofs.Lemmas.Rotations.{pick_keeps}
use Rattle.wf_law_runs.proofs.Common.Refused.{after_idle, if_idle}
use Rattle.wf_law_runs.proofs.Deficits.Books.{Books, books, with_account, each_updc, Account}
use Rattle.wf_law_runs.proofs.Deficits.BookSteps.{books_ended, books_gone, all_off, books_enqueued, books_received, books_reaped, books_slept, books_woken, books_credited, books_with_rate, books_joined, after, books_after_pick, books_stated, books_stopped, books_started, books_flushed, books_offloaded, books_weighed, books_joined_plain, books_held, books_begun, books_freed, books_ceased, books_served, books_moved}
use Rattle.wf_law_runs.proofs.Deficits.Kept.{IsKept, counted_in, standing_of, if_same}
use Rattle.wf_law_runs.proofs.Deficits.KeptStep.{NoRow, no_row, IsFound, books_arrived, books_unsent, books_given_up, books_answered, kept_step, kept, live_account, standing_is}
use Rattle.wf_law_runs.proofs.Deficits.Mild.{IsMild, mild_here, mild_then, mild_if, mild_with_rotation, ready_less}
use Rattle.wf_law_runs.proofs.Deficits.MildStep.{IsOwning, owning_mild, mild_after_pick, mild_done}
use Rattle.wf_law_runs.proofs.Deficits.Concerned.{rotations_pulled}
use Rattle.wf_law_runs.proofs.Deficits.Debtors.{all_off-on, HasCredit, IsBacked, backs_done}
use Rattle.wf_law_runs.proofs.Deficits.Listing.{IsLonger, longer_listed, gets_listed}
use Rattle.wf_law_runs.proofs.Deficits.Configs.{config_done, config_step}
use Rattle.std.proofs.lemmas.Int.{ints}

pub record IsListed (w : World) : Type 0 where
  pub all : (y : ℕ) (c : Class) → is_ready w c y ≡ true → 0 < on (in_order (rotation w c)) y

-- ---- ready stations stay listed

-- The lists of b contain each ready station of w that the lists of w contain, except s.
record Keeps (s : ℕ) (w : World) (b : Books) : Type 0 where
  keeps : (y : ℕ) (c : Class) → (y ≡ s → ⊥) → is_ready w c y ≡ true → 0 < on (in_order (rotation w c)) y →
      0 < on (in_order (b.rotations c)) y

keeps_same : (s : ℕ) (w : World) (b : Books) → b.rotations ≡ (books w).rotations → Keeps s w b
keeps_same s w b e = record {
  keeps = λ y c _ _ k.
      subst (λ (f : Class → Rotation). 0 < on (in_order (f c)) y) (sym e) k;
}

keeps_books : (s : ℕ) (w : World) (a b : Books) → a ≡ b → Keeps s w b → Keeps s w a
keeps_books s w a b e k = subst (Keeps s w) (sym e) k

keeps_after : (s : ℕ) (w : World) (d : Class) → Keeps s w (after (books w) d (picked_station w d))
keeps_after s w d = record {
  keeps = λ y c _ is k. each_updc (λ c r. is_ready w c y ≡ true → 0 < on (in_order (rotation w c)) y →
      0 < on (in_order r) y) (books w).rotations d (picked_station w d).lists (λ c _ k. k)
      (λ is k. let same : on (in_order (picked_station w d).lists) y ≡ on (in_order (rotation w d)) y =
      pick_keeps (station_need w d) (is_ready w d) (rotation w d) y is in omega arith) c is k;
}

keeps_rotations : (s : ℕ) (w : World) (a b : Books) → a.rotations ≡ b.rotations → Keeps s w b → Keeps s w a
keeps_rotations s w a b e k = record {
  keeps =
      λ y c other is l. subst (λ (f : Class → Rotation). 0 < on (in_order (f c)) y) (sym e)
      (k.keeps y c other is l);
}

keeps_pulled : (s : ℕ) (w : World) (d : Class) (l : Limits) → Keeps s w (books (pull_outcome w d l).world)
keeps_pulled s w d l = keeps_rotations s w _ (after (books w) d (picked_station w d)) (rotations_pulled w d l)
    (keeps_after s w d)

keeps_off : (s : ℕ) (w : World) → Keeps s w (with_account (all_off (books w) s) s None)
keeps_off s w = record {
  keeps = λ y c other _ k.
      let same : on (in_order ((all_off (books w) s).rotations c)) y ≡ on (in_order (rotation w c)) y =
      all_off-on (books w) s y c other in omega arith;
}

keeps_named : (i s : ℕ) (w : World) (b : Books) → ((y : ℕ) → Some i ≡ Some y → y ≡ s) → Keeps i w b →
    Keeps s w b
keeps_named i s w b h m = subst (λ (z : ℕ). Keeps z w b) (h i refl) m

keeps_open : (o : Option Exchange) (w : World) (e s : ℕ) (f : Exchange → Outcome) → exchange w e ≡ o →
    ((x : Exchange) → IsFound w e x → (books (f x).world).rotations ≡ (books w).rotations) →
    Keeps s w (books (outcome_where_open w o f).world)
unfolding outcome_where_open
keeps_open None w e s f k h = keeps_same s w (books w) refl
keeps_open (Some x) w e s f k h = keeps_same s w _ (h x k)

keeps_done : (note : Note) (w : World) (s : ℕ) → IsKept (books w) →
    ((y : ℕ) → concerned_station w note ≡ Some y → y ≡ s) → Keeps s w (books (outcome_of w note).world)
unfolding outcome_of tick_outcome
keeps_done (Enqueue i t flow len) w s k h = keeps_same s w _
    (ap (λ (b : Books). b.rotations) (books_enqueued w i t flow len))
keeps_done (Asked (Join i window start exponent weight)) w s k h =
    keeps_same s w _ (ap (λ (b : Books). b.rotations) (books_joined w i window start exponent weight))
keeps_done (Asked (Offload i exponent weight)) w s k h =
    keeps_same s w _ (ap (λ (b : Books). b.rotations) (books_offloaded w i exponent weight))
keeps_done (Asked (Plain i start exponent weight)) w s k h =
    keeps_same s w _ (ap (λ (b : Books). b.rotations) (books_joined_plain w i start exponent weight))
keeps_done (Asked (Weight i weight)) w s k h =
    keeps_same s w _ (ap (λ (b : Books). b.rotations) (books_weighed w i weight))
keeps_done (Asked (Leave i)) w s k h = keeps_named i s w _ h
    (keeps_books i w _ _ (books_gone w i) (keeps_off i w))
keeps_done (Asked (Rate i rate)) w s k h =
    keeps_same s w _ (ap (λ (b : Books). b.rotations) (books_with_rate w i rate))
keeps_done (Asked (Tick by)) w s k h = keeps_same s w _ refl
keeps_done (Asked (Pull c l)) w s k h = keeps_pulled s w c l
keeps_done (Asked (Arrive e j)) w s k h = keeps_open (exchange w e) w e s _ refl
    (λ x f. ap (λ (b : Books). b.rotations) (books_arrived w e j x k f))
keeps_done (Asked (Unsent e j)) w s k h = keeps_open (exchange w e) w e s _ refl
    (λ x f. ap (λ (b : Books). b.rotations) (books_unsent w e j x k f))
keeps_done (Asked (GiveUp e j)) w s k h = keeps_open (exchange w e) w e s _ refl
    (λ x f. ap (λ (b : Books). b.rotations) (books_given_up w e j x k f))
keeps_done (Asked (Answer e)) w s k h = keeps_open (exchange w e) w e s _ refl
    (λ x f. ap (λ (b : Books). b.rotations) (books_answered w e x k f))
keeps_done (Asked (Done e heard air)) w s k h = keeps_open (exchange w e) w e s _ refl
    (λ x f. ap (λ (b : Books). b.rotations) (books_ended air w x heard))
keeps_done (Asked (Sleep i)) w s k h = keeps_same s w _ (ap (λ (b : Books). b.rotations) (books_slept w i))
keeps_done (Asked (Ampdu i octets)) w s k h =
    keeps_same s w _ (ap (λ (b : Books). b.rotations) (books_stated w i octets))
keeps_done (Asked (Stop i)) w s k h = keeps_same s w _ (ap (λ (b : Books). b.rotations) (books_stopped w i))
keeps_done (Asked (Start i)) w s k h = keeps_same s w _ (ap (λ (b : Books). b.rotations) (books_started w i))
keeps_done (Asked (Flush i t)) w s k h = keeps_same s w _
    (ap (λ (b : Books). b.rotations) (books_flushed w i t))
keeps_done (Asked (Hold i t)) w s k h = keeps_same s w _
    (ap (λ (b : Books). b.rotations) (books_held w i t))
keeps_done (Asked (Begin i t window)) w s k h = keeps_same s w _
    (ap (λ (b : Books). b.rotations) (books_begun w i t window))
keeps_done (Asked (Free i t)) w s k h = keeps_same s w _
    (ap (λ (b : Books). b.rotations) (books_freed w i t))
keeps_done (Asked (Cease i t)) w s k h = keeps_same s w _
    (ap (λ (b : Books). b.rotations) (books_ceased w i t))
keeps_done (Asked (Wake i)) w s k h = keeps_same s w _ (ap (λ (b : Books). b.rotations) (books_woken w i))
keeps_done (Asked (Poll i)) w s k h = keeps_same s w _ (ap (λ (b : Books). b.rotations) (books_credited w i))
keeps_done (Asked (Rx i c air)) w s k h = keeps_same s w _
    (ap (λ (b : Books). b.rotations) (books_received w i c air))
keeps_done (Asked Reap) w s k h = keeps_same s w _
    (ap (λ (b : Books). b.rotations) (books_reaped w.finished w))
keeps_done (Asked (Group ask)) w s k h = keeps_same s w _ refl
keeps_done (Asked (Service ask)) w s k h =
    keeps_same s w _ (ap (λ (b : Books). b.rotations) (books_served w ask))
keeps_done (Asked (Bss i bss)) w s k h =
    keeps_same s w _ (ap (λ (b : Books). b.rotations) (books_moved w i bss))

ready_to_list : (w : World) (c : Class) (s : ℕ) → is_ready w c s ≡ true → is_to_list w c s ≡ true
ready_to_list w c s h = ap (λ (b : Bool). b || is_debtor w c s) h

-- ---- the step

mild_in_all : (cs : List Class) (s : ℕ) (w : World) (i : ℕ) → IsMild s w (with_listings_in w i cs)
unfolding with_listings_in with_listing_in
mild_in_all [] s w i = mild_here s w
mild_in_all (c ∷ cs) s w i = mild_then s w _ _
    (mild_if _ s w _ _ (mild_with_rotation s w c _) (mild_here s w)) (mild_in_all cs s _ i)

mild_listed : (o : Option ℕ) (s : ℕ) (w : World) → IsMild s w (with_listings_of w o)
unfolding with_listings_of
mild_listed None s w = mild_here s w
mild_listed (Some i) s w = mild_in_all all_classes s w i

-- The invariant of a world that the next step needs.
pub record IsOrderly (w : World) : Type 0 where
  pub kept : IsKept (books w)
  pub owning : IsOwning w
  pub listed : IsListed w
  pub backed : w.config.pending ≡ 1 → (y : ℕ) (c : Class) → IsBacked (books w) y c

-- Returns the station that a call concerns, or 0 if it concerns none.
apart_from : (o : Option ℕ) → ℕ
apart_from None = 0
apart_from (Some i) = i

only_apart : (o : Option ℕ) (y : ℕ) → o ≡ Some y → y ≡ apart_from o
unfolding apart_from
only_apart None y e = absurd (cc e)
only_apart (Some i) y e = cc e

-- A station that the call does not concern is listed as before.
listed_other : (w : World) (note : Note) (s y : ℕ) (c : Class) → NoRow (refusals w note) → IsOrderly w →
    ((z : ℕ) → concerned_station w note ≡ Some z → z ≡ s) → (y ≡ s → ⊥) →
    is_ready (outcome_of w note).world c y ≡ true → 0 < on (in_order (rotation (outcome_of w note).world c)) y
listed_other w note s y c r i h other is =
    let was : is_ready w c y ≡ true = ready_less s w (outcome_of w note).world
    (mild_done note w s r i.kept i.owning h) y c other is in
    (keeps_done note w s i.kept h).keeps y c other was (i.listed.all y c was)

own_differs : (y : ℕ) → y ≡ suc y → ⊥
own_differs y e = omega arith

listed_after : (o : Option ℕ) (w : World) (note : Note) → concerned_station w note ≡ o →
    NoRow (refusals w note) → IsOrderly w → IsListed (with_listings_of (outcome_of w note).world o)
listed_after None w note e r i = record {
  all = λ y c is.
      let l : IsLonger (outcome_of w note).world (with_listings_of (outcome_of w note).world None) =
      longer_listed None (outcome_of w note).world in
      let there : 0 < on (in_order (rotation (outcome_of w note).world c)) y =
      listed_other w note (suc y) y c r i (λ z k. absurd (cc (e, k))) (own_differs y)
      (sym (l.ready y c) ∙ is) in
      omega (arith, l.more y c, there);
}
listed_after (Some s) w note e r i = record {
  all = λ y c is. elim (cases_eq y s) [
    | inl same ↦ subst (λ (z : ℕ). 0 < on (in_order
        (rotation (with_listings_of (outcome_of w note).world (Some s)) c)) z) (sym same)
        (gets_listed s (outcome_of w note).world c (ready_to_list (outcome_of w note).world c s (sym
        ((longer_listed (Some s) (outcome_of w note).world).ready s c)
        ∙ subst (λ (z : ℕ). is_ready (with_listings_of (outcome_of w note).world (Some s)) c z ≡ true)
        same is)))
    | inr other ↦
        let l : IsLonger (outcome_of w note).world (with_listings_of (outcome_of w note).world (Some s)) =
        longer_listed (Some s) (outcome_of w note).world in
        let there : 0 < on (in_order (rotation (outcome_of w note).world c)) y =
        listed_other w note s y c r i (λ z k. cc (e, k)) other (sym (l.ready y c) ∙ is) in
        omega (arith, l.more y c, there)
  ];
}

listed_idle : (w : World) (d : Class) → IsListed w → IsListed (after_pick w d)
listed_idle w d i = record {
  all = λ y c is.
      let was : is_ready w c y ≡ true = ready_less (suc y) w (after_pick w d)
      (mild_after_pick (suc y) w d) y c (own_differs y) is in
      subst (λ (b : Books). 0 < on (in_order (b.rotations c)) y) (sym (books_after_pick w d))
      ((keeps_after (suc y) w d).keeps y c (own_differs y) was (i.all y c was));
}

listed_refused : (note : Note) (r : Refusal) (w : World) → IsListed w → IsListed (after_refusal w note r)
unfolding after_refusal
listed_refused (Asked (Pull c l)) Idle w i = after_idle IsListed w c i (listed_idle w c i)
listed_refused _ _ w i = i

owning_refused : (note : Note) (r : Refusal) (w : World) → IsOwning w → IsOwning (after_refusal w note r)
unfolding after_refusal
owning_refused (Asked (Pull c l)) Idle w i = after_idle IsOwning w c i
    (owning_mild 0 w _ (mild_after_pick 0 w c) i)
owning_refused _ _ w i = i

-- ---- standings

some_only : (P : Type 0) (o : Option Account) → is_some o ≡ true → IfSome o (λ _. P) → P
some_only P None is h = absurd (cc is)
some_only P (Some a) is h = h

if_known : (P : Account → Type 0) (o : Option Account) → (is_some o ≡ true → IfSome o P) → IfSome o P
if_known P None h = tt
if_known P (Some a) h = h refl

above_zero : (d : ℤ) → int_le d (pos 0) ≡ false → pos 1 ≤ℤ d
above_zero d h = omega (arith, ints)

not_above : (d : ℤ) → int_le d (pos 0) ≡ true → pos 1 ≤ℤ d → ⊥
not_above d h k = omega (arith, ints)

owes_not : (counts live owes : Bool) → counts ≡ true → live ≡ true → counts && (live && owes) ≡ false →
    owes ≡ false
owes_not true true owes h k e = e
owes_not true false owes h k e = absurd (cc k)
owes_not false live owes h k e = absurd (cc h)

-- With the setting `pending`, a station that belongs on no list of a class has a positive standing for it.
off_credit : (w : World) (s : ℕ) (c : Class) → w.config.pending ≡ 1 → is_to_list w c s ≡ false →
    HasCredit (books w) s c
off_credit w s c counting off = if_known (λ a. pos 1 ≤ℤ standing_of (books w) s c a) ((books w).accounts s)
    (λ is.
    let live : is_live w s ≡ true = sym (live_account (at None w.stations s)) ∙ is in
    let debts : is_debtor w c s ≡ false = (or_parts (is_ready w c s) (is_debtor w c s) off).1 in
    let none : int_le (standing w s c) (pos 0) ≡ false =
    owes_not (w.config.pending == 1) (is_live w s) (int_le (standing w s c) (pos 0))
    (eq-eqb w.config.pending 1 counting) live debts in
    if_same (λ a. standing w s c ≡ standing_of (books w) s c a) (λ a. pos 1 ≤ℤ standing_of (books w) s c a)
    ((books w).accounts s) (standing_is w c s)
    (λ a _ e. subst (λ (z : ℤ). pos 1 ≤ℤ z) e (above_zero (standing w s c) none)))

-- A station whose standing is not above 0 is on a list of the class.
pub debtor_listed : (w : World) (s : ℕ) (c : Class) → IsOrderly w → is_debtor w c s ≡ true →
    0 < on (in_order (rotation w c)) s
debtor_listed w s c i is =
    let parts = and_parts (w.config.pending == 1) _ is in
    let both = and_parts (is_live w s) _ parts.1 in
    elim (i.backed (eqb-true w.config.pending 1 parts.0) s c) [
      | inl listed ↦ listed
      | inr credit ↦ absurd (not_above (standing w s c) both.1 (some_only (pos 1 ≤ℤ standing w s c)
          ((books w).accounts s) (live_account (at None w.stations s) ∙ both.0)
          (if_same (λ a. standing w s c ≡ standing_of (books w) s c a) (λ _. pos 1 ≤ℤ standing w s c)
          ((books w).accounts s) (standing_is w c s)
          (λ a at e. subst (λ (z : ℤ). pos 1 ≤ℤ z) (sym e)
          (subst (λ (o : Option Account). IfSome o (λ a. pos 1 ≤ℤ standing_of (books w) s c a)) at credit)))))
    ]

backed_longer : (w v : World) (y : ℕ) (c : Class) → IsLonger w v → IsBacked (books w) y c →
    IsBacked (books v) y c
backed_longer w v y c l (inl h) = inl (omega (arith, h, l.more y c))
backed_longer w v y c l (inr h) = inr (subst (λ (o : Option Account). IfSome o
    (λ a. pos 1 ≤ℤ standing_of (books v) y c a))
    (sym (ap (λ (f : ℕ → Option Account). f y) l.accounts))
    (subst (λ (xs : List Exchange). IfSome ((books w).accounts y)
    (λ a. pos 1 ≤ℤ ((a.shares c).deficit -ℤ pos (counted_in v.config y c xs)))) (sym l.opened)
    (subst (λ (z : Config). IfSome ((books w).accounts y)
    (λ a. pos 1 ≤ℤ ((a.shares c).deficit -ℤ pos (counted_in z y c (books w).opened)))) (sym l.config) h)))

backed_after : (o : Option ℕ) (w : World) (note : Note) → concerned_station w note ≡ o → IsOrderly w →
    (outcome_of w note).world.config.pending ≡ 1 → w.config.pending ≡ 1 → (y : ℕ) (c : Class) →
    IsBacked (books (with_listings_of (outcome_of w note).world o)) y c
backed_after None w note e i now was y c =
    backed_longer (outcome_of w note).world _ y c (longer_listed None (outcome_of w note).world)
    ((backs_done note w (suc y) i.kept (λ z k. absurd (cc (e, k)))).backs y c (own_differs y)
    (i.backed was y c))
backed_after (Some s) w note e i now was y c = elim (cases_eq y s) [
  | inl same ↦ subst (λ (z : ℕ). IsBacked (books (with_listings_of (outcome_of w note).world (Some s))) z c)
      (sym same) (elim (cases_Bool (is_to_list (outcome_of w note).world c s)) [
        | inl is ↦ inl (gets_listed s (outcome_of w note).world c is)
        | inr off ↦ backed_longer (outcome_of w note).world _ s c
            (longer_listed (Some s) (outcome_of w note).world)
            (inr (off_credit (outcome_of w note).world s c now off))
      ])
  | inr other ↦ backed_longer (outcome_of w note).world _ y c
      (longer_listed (Some s) (outcome_of w note).world)
      ((backs_done note w s i.kept (λ z k. cc (e, k))).backs y c other (i.backed was y c))
]

backed_refused : (note : Note) (r : Refusal) (w : World) → w.config.pending ≡ 1 →
    ((y : ℕ) (c : Class) → IsBacked (books w) y c) → (y : ℕ) (c : Class) →
    IsBacked (books (after_refusal w note r)) y c
unfolding after_refusal
backed_refused (Asked (Pull d l)) Idle w counting h =
    if_idle (λ v. (y : ℕ) (c : Class) → IsBacked (books v) y c) w d h
    (λ off. absurd (cc (eq-eqb w.config.pending 1 counting, off)))
backed_refused _ _ w counting h = h

backed_answer : (r : Option Refusal) (w : World) (note : Note) → IsOrderly w → w.config.pending ≡ 1 →
    (y : ℕ) (c : Class) → IsBacked (books (judged_outcome w note r).world) y c
unfolding judged_outcome
backed_answer (Some r) w note i counting = backed_refused note r w counting (i.backed counting)
backed_answer None w note i counting = backed_after (concerned_station w note) w note refl i
    (ap (λ (z : Config). z.pending) (config_done note w) ∙ counting) counting

listed_answer : (r : Option Refusal) (w : World) (note : Note) → refusal w note ≡ r → IsOrderly w →
    IsListed (judged_outcome w note r).world
unfolding judged_outcome
listed_answer (Some r) w note e i = listed_refused note r w i.listed
listed_answer None w note e i = listed_after (concerned_station w note) w note refl
    (no_row (refusals w note) e) i

owning_answer : (r : Option Refusal) (w : World) (note : Note) → refusal w note ≡ r → IsOrderly w →
    IsOwning (judged_outcome w note r).world
unfolding judged_outcome
owning_answer (Some r) w note e i = owning_refused note r w i.owning
owning_answer None w note e i =
    let s : ℕ = apart_from (concerned_station w note) in
    owning_mild s w _ (mild_then s w _ _ (mild_done note w s (no_row (refusals w note) e) i.kept i.owning
    (only_apart (concerned_station w note))) (mild_listed (concerned_station w note) s
    (outcome_of w note).world)) i.owning

pub orderly_step : (w : World) (note : Note) → IsOrderly w → IsOrderly (step w note).world
unfolding step
orderly_step w note i = record {
  kept = kept_step w note i.kept;
  owning =
      owning_answer (refusal w note) w note refl i;
  listed = listed_answer (refusal w note) w note refl i;
  backed = λ counting. backed_answer (refusal w note) w note i
      (sym (ap (λ (z : Config). z.pending) (config_step w note)) ∙ counting);
}

pub orderly_run : (h : List Entry) (w : World) → IsOrderly w → IsOrderly (world_after w h)
unfolding world_after
orderly_run [] w i = i
orderly_run (e ∷ es) w i = orderly_run es _ (orderly_step w e.1 i)

pub orderly : (config : Config) (h : List Entry) → IsInRange config →
    IsOrderly (world_after (opening config) h)
unfolding world_after
orderly config h range = orderly_run h (opening config) (record {
  kept = kept config [] range;
  owning = record {
    flows = omega (arith, range.flows.0);
    range = λ s is. absurd (cc is);
    owned = λ s t q k. absurd (let none : on [] q ≡ 0 = on-nil q in omega arith);
  };
  listed = record { all = λ y c is. absurd (cc is) };
  backed = λ _ y c. inr tt;
})
