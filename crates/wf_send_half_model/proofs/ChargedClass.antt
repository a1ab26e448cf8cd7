-- Proves that each open exchange is charged to the class of its TID, in every world of a run, since a pull
-- sends on a TID of its class. So an exchange is in flight in no other class. By induction on the run.
use Rattle.std.proofs.Common.{◌≡◌, refl, ap, sym, ◌∙◌, subst, arith, ℕ, ◌+◌, ◌==◌, Bool, true, false, not, ◌&&◌, if◌then◌else◌, List, [], ◌∷◌, ◌++◌, filter, map, Option, Some, None, inl, inr}
use Rattle.std.proofs.lemmas.Bool.{cases_Bool, ne_eqb}
use Rattle.wf_frame.specs.declared.classes.Class.{Class}
use Rattle.wf_frame.specs.declared.notes.Ask.TheVariants.{Join, Leave, Rate, Tick, Pull, Arrive, Answer, Done, Sleep, Wake, Poll, Rx, Reap, Ampdu, Stop, Start, Unsent, GiveUp, Flush, Offload, Weight, Hold, Begin, Free, Cease, Group, Service, Bss}
use Rattle.wf_frame.specs.declared.notes.Ask.TheVariants as call
use Rattle.wf_frame.specs.declared.notes.Note.{Note}
use Rattle.wf_frame.specs.declared.notes.Limits.{Limits}
use Rattle.wf_law_runs.proofs.Common.Picked.{picked_world}
use Rattle.wf_frame.specs.declared.notes.Note.TheVariants.{Enqueue, Asked}
use Rattle.wf_frame.specs.declared.notes.Refusal.{Refusal}
use Rattle.wf_frame.specs.declared.notes.Refusal.TheVariants.{Idle}
use Rattle.wf_frame.specs.Classes.{all_classes, class_number, class_of, lower_tid, upper_tid, same_class}
use Rattle.wf_def_rotation.specs.Rotation.{has_key}
use Rattle.wf_def_world.specs.World.{World, Exchange, share, rotation, owed, exchange, with_rotation, opening}
use Rattle.wf_def_world.specs.CanSend.{can_send, is_to_list, with_listing_in, with_listings_in, with_listings_of}
use Rattle.wf_def_world.specs.Exchanges.{Prepared, picked_station, after_pick, after_tid_turn, first_tid, other_tid, sending_tid, prepared_exchange, exchange_of}
use Rattle.wf_def_world.specs.Refusals.{refusal}
use Rattle.wf_def_world.specs.Step.{Outcome, outcome_of, after_refusal, judged_outcome, step, tick_outcome, pull_outcome_for, pull_outcome, outcome_where_open, unsent_outcome, give_up_outcome}
use Rattle.wf_def_world.specs.Run.{Entry, world_after}
use Rattle.wf_law_rules.proofs.Lemmas.Numbers.{on_if}
use Rattle.wf_law_runs.proofs.Deficits.Books.{Books, books, core}
use Rattle.wf_law_runs.proofs.Deficits.BookSteps.{books_after_turn, books_prepared, books_sent, books_ended, books_gone, books_enqueued, books_received, books_reaped, books_slept, books_woken, books_credited, books_with_rate, books_joined, books_after_pick, books_stated, books_stopped, books_started, books_flushed, books_offloaded, books_joined_plain, books_weighed, books_held, books_begun, books_freed, books_ceased, books_served, books_moved}
use Rattle.wf_law_runs.proofs.Deficits.Kept.{IsKept}
use Rattle.wf_law_runs.proofs.Deficits.KeptStep.{IsFound, books_arrived, books_answered, books_marked, kept_step, kept_opening}
use Rattle.wf_law_runs.proofs.Deficits.Openings.{Every, every_append, every_filter}
use Rattle.wf_send_half_model.specs.Standing.{IsReached}
use Rattle.wf_send_half_model.proofs.OwnClass.{lower_class, upper_class}

-- each of these exchanges is charged to the class of its TID
abbrev pub HaveOwnClass : List Exchange → Type 0
HaveOwnClass xs = Every (λ x. class_of x.tid ≡ x.class) xs

-- each open exchange in the books of a world is charged to the class of its TID
abbrev Own : Books → Type 0
Own b = HaveOwnClass b.opened

own_is : (a b : Books) → a ≡ b → Own b → Own a
own_is a b e i = subst Own (sym e) i

-- ---- a pull sends on a TID of its class

pub sending_class : (w : World) (s : ℕ) (d : Class) → class_of (sending_tid w s d) ≡ d
sending_class w s d =
    on_if (λ (t : ℕ). class_of t ≡ d) (can_send w s (first_tid w s d)) (first_tid w s d) (other_tid w s d)
    (λ _. on_if (λ (t : ℕ). class_of t ≡ d) (share w s d).upper (upper_tid d) (lower_tid d)
    (λ _. upper_class d) (λ _. lower_class d))
    (λ _. on_if (λ (t : ℕ). class_of t ≡ d) (share w s d).upper (lower_tid d) (upper_tid d)
    (λ _. lower_class d) (λ _. upper_class d))

own_pulled_by : (o : Option ℕ) (v : World) (c : Class) → Own (books v) →
    Own (books (pull_outcome_for v c o).world)
unfolding pull_outcome_for
own_pulled_by None v c i = i
own_pulled_by (Some s) v c i =
    let t : ℕ = sending_tid v s c in
    let p : Prepared = prepared_exchange (after_tid_turn v s c t) s t in
    let same : books p.world ≡ books v =
    books_prepared (after_tid_turn v s c t) s t ∙ books_after_turn v s c t in
    own_is _ _ (books_sent s t c p)
    (every_append (λ x. class_of x.tid ≡ x.class) (books p.world).opened (core (exchange_of s t c p))
    (own_is _ _ same i) (sending_class v s c))

own_after_pick : (w : World) (c : Class) → Own (books w) → Own (books (after_pick w c))
own_after_pick w c i = own_is _ _ (books_after_pick w c) i

own_pulled : (w : World) (c : Class) (l : Limits) → Own (books w) → Own (books (pull_outcome w c l).world)
unfolding pull_outcome
own_pulled w c l i = own_pulled_by (picked_station w c).winner (picked_world w c l) c (own_after_pick w c i)

-- ---- a listing

own_listed_in : (w : World) (s : ℕ) (c : Class) → Own (books w) → Own (books (with_listing_in w s c))
unfolding with_listing_in with_rotation
own_listed_in w s c i = on_if (λ (v : World). Own (books v))
    (is_to_list w c s && not (has_key (rotation w c) s)) _ w (λ _. i) (λ _. i)

own_listed_in_all : (cs : List Class) (w : World) (s : ℕ) → Own (books w) →
    Own (books (with_listings_in w s cs))
unfolding with_listings_in
own_listed_in_all [] w s i = i
own_listed_in_all (c ∷ cs) w s i = own_listed_in_all cs (with_listing_in w s c) s (own_listed_in w s c i)

own_listed : (o : Option ℕ) (w : World) → Own (books w) → Own (books (with_listings_of w o))
unfolding with_listings_of
own_listed None w i = i
own_listed (Some s) w i = own_listed_in_all all_classes w s i

-- ---- the calls

own_open : (w : World) (e : ℕ) (o : Option Exchange) (f : Exchange → Outcome) → exchange w e ≡ o →
    Own (books w) → ((x : Exchange) → IsFound w e x → Own (books (f x).world)) →
    Own (books (outcome_where_open w o f).world)
unfolding outcome_where_open
own_open w e None f k i h = i
own_open w e (Some x) f k i h = h x k

own_done : (note : Note) (w : World) → IsKept (books w) → Own (books w) →
    Own (books (outcome_of w note).world)
unfolding outcome_of tick_outcome unsent_outcome give_up_outcome
own_done (Enqueue s t flow len) w k i = own_is _ _ (books_enqueued w s t flow len) i
own_done (Asked (Join s window start exponent weight)) w k i =
    own_is _ _ (books_joined w s window start exponent weight) i
own_done (Asked (Offload s exponent weight)) w k i = own_is _ _ (books_offloaded w s exponent weight) i
own_done (Asked (call.Plain s start exponent weight)) w k i =
    own_is _ _ (books_joined_plain w s start exponent weight) i
own_done (Asked (Hold s t)) w k i = own_is _ _ (books_held w s t) i
own_done (Asked (Begin s t window)) w k i = own_is _ _ (books_begun w s t window) i
own_done (Asked (Free s t)) w k i = own_is _ _ (books_freed w s t) i
own_done (Asked (Cease s t)) w k i = own_is _ _ (books_ceased w s t) i
own_done (Asked (Weight s weight)) w k i = own_is _ _ (books_weighed w s weight) i
own_done (Asked (Leave s)) w k i = own_is _ _ (books_gone w s) i
own_done (Asked (Rate s rate)) w k i = own_is _ _ (books_with_rate w s rate) i
own_done (Asked (Tick by)) w k i = i
own_done (Asked (Group ask)) w k i = i
own_done (Asked (Pull c l)) w k i = own_pulled w c l i
own_done (Asked (Arrive e j)) w k i = own_open w e (exchange w e) _ refl i
    (λ x f. own_is _ _ (books_arrived w e j x k f) i)
own_done (Asked (Answer e)) w k i = own_open w e (exchange w e) _ refl i
    (λ x f. own_is _ _ (books_answered w e x k f) i)
own_done (Asked (Done e heard air)) w k i = own_open w e (exchange w e) _ refl i
    (λ x f. own_is _ _ (books_ended air w x heard)
    (every_filter (λ y. class_of y.tid ≡ y.class) (λ y. not (y.number == x.number)) (books w).opened i))
own_done (Asked (Sleep s)) w k i = own_is _ _ (books_slept w s) i
own_done (Asked (Ampdu s octets)) w k i = own_is _ _ (books_stated w s octets) i
own_done (Asked (Bss s b)) w k i = own_is _ _ (books_moved w s b) i
own_done (Asked (Stop s)) w k i = own_is _ _ (books_stopped w s) i
own_done (Asked (Service ask)) w k i = own_is _ _ (books_served w ask) i
own_done (Asked (Start s)) w k i = own_is _ _ (books_started w s) i
own_done (Asked (Unsent e j)) w k i = own_open w e (exchange w e) _ refl i
    (λ x f. own_is _ _ (books_marked w e x _ _ k f) i)
own_done (Asked (GiveUp e j)) w k i = own_open w e (exchange w e) _ refl i
    (λ x f. own_is _ _ (books_marked w e x _ _ k f) i)
own_done (Asked (Flush s t)) w k i = own_is _ _ (books_flushed w s t) i
own_done (Asked (Wake s)) w k i = own_is _ _ (books_woken w s) i
own_done (Asked (Poll s)) w k i = own_is _ _ (books_credited w s) i
own_done (Asked (Rx s c air)) w k i = own_is _ _ (books_received w s c air) i
own_done (Asked Reap) w k i = own_is _ _ (books_reaped w.finished w) i

own_refused : (note : Note) (r : Refusal) (w : World) → Own (books w) → Own (books (after_refusal w note r))
unfolding after_refusal
own_refused (Asked (Pull c l)) Idle w i =
    on_if (λ (v : World). Own (books v)) (w.config.pending == 1) w (after_pick w c) (λ _. i)
    (λ _. own_after_pick w c i)
own_refused _ _ w i = i

own_answer : (r : Option Refusal) (w : World) (note : Note) → IsKept (books w) → Own (books w) →
    Own (books (judged_outcome w note r).world)
unfolding judged_outcome
own_answer (Some r) w note k i = own_refused note r w i
own_answer None w note k i = own_listed _ _ (own_done note w k i)

own_step : (w : World) (note : Note) → IsKept (books w) → Own (books w) → Own (books (step w note).world)
unfolding step
own_step w note k i = own_answer (refusal w note) w note k i

own_run : (h : List Entry) (w : World) → IsKept (books w) → Own (books w) → Own (books (world_after w h))
unfolding world_after
own_run [] w k i = i
own_run (e ∷ es) w k i = own_run es (step w e.1).world (kept_step w e.1 k) (own_step w e.1 k i)

without_core : (xs : List Exchange) → HaveOwnClass (map core xs) → HaveOwnClass xs
without_core [] h = tt
without_core (x ∷ xs) h = (h.0, without_core xs h.1)

pub own_class : (w : World) → IsReached w → HaveOwnClass w.opened
own_class w r = without_core w.opened (own_is (books w) _ (ap books r.after)
    (own_run r.history (opening w.config) (kept_opening w.config r.in_range) tt))

-- ---- exchanges of another class

nothing : (b : Bool) (n : ℕ) → (if b && false then n else 0) ≡ 0
nothing true n = refl
nothing false n = refl

-- an exchange of another class adds nothing to the airtime owed in a class
pub owed_append : (s : ℕ) (c : Class) (xs : List Exchange) (x : Exchange) →
    (class_number x.class ≡ class_number c → ⊥) → owed s c (xs ++ x ∷ []) ≡ owed s c xs
owed_append s c [] x other =
    let none : same_class x.class c ≡ false = ne_eqb _ _ other in
    rw none (omega (arith, nothing (x.station == s) x.charge))
owed_append s c (y ∷ ys) x other =
    ap (λ (n : ℕ). (if (y.station == s) && same_class y.class c then y.charge else 0) + n)
    (owed_append s c ys x other)

-- removing exchanges of other classes does not change the airtime owed in a class
pub owed_filter : (s : ℕ) (c : Class) (p : Exchange → Bool) (xs : List Exchange) →
    Every (λ x. p x ≡ false → class_number x.class ≡ class_number c → ⊥) xs →
    owed s c (filter p xs) ≡ owed s c xs
owed_filter s c p [] h = refl
owed_filter s c p (x ∷ xs) h = elim (cases_Bool (p x)) [
  | inl stays ↦ rw stays
      (ap (λ (n : ℕ). (if (x.station == s) && same_class x.class c then x.charge else 0) + n)
      (owed_filter s c p xs h.1))
  | inr goes ↦
      let none : same_class x.class c ≡ false = ne_eqb _ _ (h.0 goes) in
      rw (goes, none) (omega (arith, owed_filter s c p xs h.1, nothing (x.station == s) x.charge))
]
