-- Proves that a call removes the station that it concerns from no list, unless the station leaves. So a
-- station that is on an old list before and after a call is on it before the call lists a station.
use Rattle.std.proofs.Common.{◌≡◌, refl, ap, sym, ◌∙◌, subst, arith, ℕ, ◌<◌, Bool, true, false, [], ◌∷◌, Option, Some, None, is_some, inl, inr, ◌⊎◌}
use Rattle.std.proofs.lemmas.Bool.{cases_eq}
use Rattle.wf_frame.specs.declared.classes.Class.{Class}
use Rattle.wf_frame.specs.declared.notes.Ask.TheVariants.{Join, Leave, Rate, Tick, Pull, Arrive, Answer, Done, Sleep, Wake, Poll, Rx, Reap, Ampdu, Stop, Start, Unsent, GiveUp, Flush, Offload, Weight, Plain, Hold, Begin, Free, Cease, Group, Service, Bss}
use Rattle.wf_frame.specs.declared.notes.Limits.{Limits}
use Rattle.wf_frame.specs.declared.notes.Note.{Note}
use Rattle.wf_frame.specs.declared.notes.Note.TheVariants.{Enqueue, Asked}
use Rattle.wf_def_lists.specs.Table.{at}
use Rattle.wf_def_lists.specs.Lists.{on}
use Rattle.wf_def_rotation.specs.Rotation.{Rotation, in_order, with_key_listed}
use Rattle.wf_def_world.specs.World.{World, Exchange, rotation, is_live, exchange}
use Rattle.wf_def_world.specs.CanSend.{is_ready, with_listings_of}
use Rattle.wf_def_world.specs.Exchanges.{Prepared, station_need, picked_station, after_tid_turn, prepared_exchange, sending_tid}
use Rattle.wf_def_world.specs.Step.{Outcome, tick_outcome, pull_outcome_for, pull_outcome, outcome_where_open, outcome_of, concerned_station}
use Rattle.wf_law_rules.proofs.Lemmas.Counts.{on-nil, on-cons_other, on-append}
use Rattle.wf_law_rules.proofs.Lemmas.Rotations.{pick_keeps, pick_winner}
use Rattle.wf_law_runs.proofs.Common.Limits.{with_limits}
use Rattle.wf_law_runs.proofs.Deficits.Books.{Books, books, with_account, upd_same, each_updc}
use Rattle.wf_law_runs.proofs.Deficits.BookSteps.{books_after_turn, books_prepared, books_sent, books_ended, books_gone, all_off, books_enqueued, books_received, books_reaped, books_slept, books_woken, books_credited, books_with_rate, books_joined, after, books_after_pick, books_stated, books_stopped, books_started, books_flushed, books_offloaded, books_weighed, books_joined_plain, books_held, books_begun, books_freed, books_ceased, books_served, books_moved}
use Rattle.wf_law_runs.proofs.Deficits.Kept.{IsKept}
use Rattle.wf_law_runs.proofs.Deficits.KeptStep.{to_list_live, live_account, IsFound, books_arrived, books_unsent, books_given_up, books_answered}
use Rattle.wf_law_runs.proofs.Deficits.Listing.{Adds, AddedOf, added_listed}

-- If station s is on a list of the class in w, it is on one in b, or it is not live there.
Own : Class → ℕ → World → Books → Type 0
Own c s w b = 0 < on (in_order (rotation w c)) s →
    (0 < on (in_order (b.rotations c)) s) ⊎ (is_some (b.accounts s) ≡ false)

own_same : (c : Class) (s : ℕ) (w : World) (b : Books) → b.rotations ≡ (books w).rotations → Own c s w b
unfolding Own
own_same c s w b e k = inl (subst (λ (f : Class → Rotation). 0 < on (in_order (f c)) s) (sym e) k)

pub rotations_pulled_by : (o : Option ℕ) (v : World) (d : Class) →
    (books (pull_outcome_for v d o).world).rotations ≡ (books v).rotations
unfolding pull_outcome_for
rotations_pulled_by None v d = refl
rotations_pulled_by (Some s) v d =
    let t : ℕ = sending_tid v s d in
    let p : Prepared = prepared_exchange (after_tid_turn v s d t) s t in
    let e : books p.world ≡ books v = books_prepared (after_tid_turn v s d t) s t
    ∙ books_after_turn v s d t in
    ap (λ (b : Books). b.rotations) (books_sent s t d p) ∙ ap (λ (b : Books). b.rotations) e

pub rotations_pulled : (w : World) (d : Class) (l : Limits) → (books (pull_outcome w d l).world).rotations
    ≡ (after (books w) d (picked_station w d)).rotations
unfolding pull_outcome
rotations_pulled w d l = rotations_pulled_by (picked_station w d).winner (with_limits w d l) d
    ∙ ap (λ (b : Books). b.rotations) (books_after_pick w d)

own_pulled : (w : World) (d c : Class) (l : Limits) (s : ℕ) → (picked_station w d).winner ≡ Some s →
    Own c s w (books (pull_outcome w d l).world)
unfolding Own
own_pulled w d c l s won k = inl (subst (λ (f : Class → Rotation). 0 < on (in_order (f c)) s)
    (sym (rotations_pulled w d l))
    (each_updc (λ c r. 0 < on (in_order (rotation w c)) s → 0 < on (in_order r) s) (books w).rotations d
    (picked_station w d).lists (λ c k. k) stays c k))
  where
    stays : 0 < on (in_order (rotation w d)) s → 0 < on (in_order (picked_station w d).lists) s
    stays k =
        let ready : is_ready w d s ≡ true =
        (pick_winner (station_need w d) (is_ready w d) (rotation w d) s won).is_ready in
        omega (arith, k, pick_keeps (station_need w d) (is_ready w d) (rotation w d) s ready)

own_gone : (w : World) (i s : ℕ) (c : Class) → Some i ≡ Some s →
    Own c s w (with_account (all_off (books w) i) i None)
unfolding Own
own_gone w i s c e k =
    let same : i ≡ s = cc e in
    inr (subst (λ (y : ℕ). is_some ((with_account (all_off (books w) i) i None).accounts y) ≡ false) same
    (ap is_some (upd_same (books w).accounts i None)))

own_books : (c : Class) (s : ℕ) (w : World) (a b : Books) → a ≡ b → Own c s w b → Own c s w a
own_books c s w a b e k = subst (Own c s w) (sym e) k

own_open : (o : Option Exchange) (w : World) (e s : ℕ) (c : Class) (f : Exchange → Outcome) →
    exchange w e ≡ o →
    ((x : Exchange) → IsFound w e x → (books (f x).world).rotations ≡ (books w).rotations) →
    Own c s w (books (outcome_where_open w o f).world)
unfolding outcome_where_open
own_open None w e s c f k h = own_same c s w (books w) refl
own_open (Some x) w e s c f k h = own_same c s w _ (h x k)

own_done : (note : Note) (w : World) (s : ℕ) (c : Class) → IsKept (books w) →
    concerned_station w note ≡ Some s → Own c s w (books (outcome_of w note).world)
unfolding outcome_of tick_outcome
own_done (Enqueue i t flow len) w s c k h = own_same c s w _
    (ap (λ (b : Books). b.rotations) (books_enqueued w i t flow len))
own_done (Asked (Join i window start exponent weight)) w s c k h =
    own_same c s w _ (ap (λ (b : Books). b.rotations) (books_joined w i window start exponent weight))
own_done (Asked (Offload i exponent weight)) w s c k h =
    own_same c s w _ (ap (λ (b : Books). b.rotations) (books_offloaded w i exponent weight))
own_done (Asked (Plain i start exponent weight)) w s c k h =
    own_same c s w _ (ap (λ (b : Books). b.rotations) (books_joined_plain w i start exponent weight))
own_done (Asked (Weight i weight)) w s c k h =
    own_same c s w _ (ap (λ (b : Books). b.rotations) (books_weighed w i weight))
own_done (Asked (Leave i)) w s c k h = own_books c s w _ _ (books_gone w i) (own_gone w i s c h)
own_done (Asked (Rate i rate)) w s c k h =
    own_same c s w _ (ap (λ (b : Books). b.rotations) (books_with_rate w i rate))
own_done (Asked (Tick by)) w s c k h = own_same c s w _ refl
own_done (Asked (Pull d l)) w s c k h = own_pulled w d c l s h
own_done (Asked (Arrive e j)) w s c k h = own_open (exchange w e) w e s c _ refl
    (λ x f. ap (λ (b : Books). b.rotations) (books_arrived w e j x k f))
own_done (Asked (Unsent e j)) w s c k h = own_open (exchange w e) w e s c _ refl
    (λ x f. ap (λ (b : Books). b.rotations) (books_unsent w e j x k f))
own_done (Asked (GiveUp e j)) w s c k h = own_open (exchange w e) w e s c _ refl
    (λ x f. ap (λ (b : Books). b.rotations) (books_given_up w e j x k f))
own_done (Asked (Answer e)) w s c k h = own_open (exchange w e) w e s c _ refl
    (λ x f. ap (λ (b : Books). b.rotations) (books_answered w e x k f))
own_done (Asked (Done e heard air)) w s c k h = own_open (exchange w e) w e s c _ refl
    (λ x f. ap (λ (b : Books). b.rotations) (books_ended air w x heard))
own_done (Asked (Sleep i)) w s c k h = own_same c s w _ (ap (λ (b : Books). b.rotations) (books_slept w i))
own_done (Asked (Ampdu i octets)) w s c k h =
    own_same c s w _ (ap (λ (b : Books). b.rotations) (books_stated w i octets))
own_done (Asked (Stop i)) w s c k h = own_same c s w _ (ap (λ (b : Books). b.rotations) (books_stopped w i))
own_done (Asked (Start i)) w s c k h = own_same c s w _ (ap (λ (b : Books). b.rotations) (books_started w i))
own_done (Asked (Flush i t)) w s c k h = own_same c s w _
    (ap (λ (b : Books). b.rotations) (books_flushed w i t))
own_done (Asked (Hold i t)) w s c k h = own_same c s w _
    (ap (λ (b : Books). b.rotations) (books_held w i t))
own_done (Asked (Begin i t window)) w s c k h = own_same c s w _
    (ap (λ (b : Books). b.rotations) (books_begun w i t window))
own_done (Asked (Free i t)) w s c k h = own_same c s w _
    (ap (λ (b : Books). b.rotations) (books_freed w i t))
own_done (Asked (Cease i t)) w s c k h = own_same c s w _
    (ap (λ (b : Books). b.rotations) (books_ceased w i t))
own_done (Asked (Wake i)) w s c k h = own_same c s w _ (ap (λ (b : Books). b.rotations) (books_woken w i))
own_done (Asked (Poll i)) w s c k h = own_same c s w _ (ap (λ (b : Books). b.rotations) (books_credited w i))
own_done (Asked (Rx i d air)) w s c k h = own_same c s w _
    (ap (λ (b : Books). b.rotations) (books_received w i d air))
own_done (Asked Reap) w s c k h = own_same c s w _
    (ap (λ (b : Books). b.rotations) (books_reaped w.finished w))
own_done (Asked (Group ask)) w s c k h = own_same c s w _ refl
own_done (Asked (Service ask)) w s c k h =
    own_same c s w _ (ap (λ (b : Books). b.rotations) (books_served w ask))
own_done (Asked (Bss i bss)) w s c k h =
    own_same c s w _ (ap (λ (b : Books). b.rotations) (books_moved w i bss))

-- ---- the old list

-- Another key keeps its place on the old list.
old_other : (ready : Bool) (r : Rotation) (s y : ℕ) → (y ≡ s → ⊥) →
    on (with_key_listed ready r s).old y ≡ on r.old y
old_other true r s y other = refl
old_other false r s y other = omega (
  arith,
  on-append r.old (s ∷ []) y,
  on-cons_other s y [] (λ e. other (sym e)),
  on-nil y,
)

old_added : (note : Note) (w : World) (c : Class) (s y : ℕ) (r : Rotation) → IsKept (books w) →
    concerned_station w note ≡ Some s → 0 < on (in_order (rotation w c)) y →
    Adds (outcome_of w note).world s c r → 0 < on r.old y →
    0 < on (rotation (outcome_of w note).world c).old y
unfolding Own
old_added note w c s y r k e listed a h = elim (cases_eq y s) [
  | inr other ↦ omega (
    arith,
    h,
    ap (λ (z : Rotation). on z.old y) a.now,
    old_other (is_ready (outcome_of w note).world c s) (rotation (outcome_of w note).world c) s y other,
  )
  | inl same ↦ elim (own_done note w s c k e (subst
      (λ (z : ℕ). 0 < on (in_order (rotation w c)) z) same listed)) [
        | inl stays ↦ absurd (omega (arith, stays, a.off))
        | inr dead ↦ absurd (
            let live : is_live (outcome_of w note).world s ≡ true =
            to_list_live (outcome_of w note).world c s a.to_list in
            cc (live_account (at None (outcome_of w note).world.stations s), live, dead))
      ]
]

-- A station that is listed before a call, and on the old list after it, is on the old list before the call
-- lists the station that it concerns.
pub old_before : (note : Note) (w : World) (c : Class) (y : ℕ) → IsKept (books w) →
    0 < on (in_order (rotation w c)) y →
    0 < on (rotation (with_listings_of (outcome_of w note).world (concerned_station w note)) c).old y →
    0 < on (rotation (outcome_of w note).world c).old y
old_before note w c y k listed h = go (concerned_station w note) refl
    (added_listed (concerned_station w note) (outcome_of w note).world c)
  where
    r : Rotation
    r = rotation (with_listings_of (outcome_of w note).world (concerned_station w note)) c

    go : (o : Option ℕ) → concerned_station w note ≡ o → AddedOf o (outcome_of w note).world c r →
        0 < on (rotation (outcome_of w note).world c).old y
    go None e a = subst (λ (z : Rotation). 0 < on z.old y) a h
    go (Some s) e (inl same) = subst (λ (z : Rotation). 0 < on z.old y) same h
    go (Some s) e (inr a) = old_added note w c s y r k e listed a h
