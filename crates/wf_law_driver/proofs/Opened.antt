-- Laws of lists of open exchanges, and of the refusals of single calls.
use Rattle.std.proofs.Common.{◌≡◌, refl, ap, sym, ◌∙◌, subst, ℕ, ◌==◌, Bool, true, if◌then◌else◌, List, [], ◌∷◌, map, find, Option, Some, None, IfSome, false}
use Rattle.wf_frame.specs.declared.notes.Note.{Note}
use Rattle.wf_frame.specs.declared.notes.Refusal.{Refusal}
use Rattle.wf_law_rules.proofs.Lemmas.Numbers.{on_bool, eq_yes, yes_eq}
use Rattle.wf_def_world.specs.World.{World, Exchange, exchange}
use Rattle.wf_def_world.specs.CanSend.{with_listings_of}
use Rattle.wf_def_world.specs.Refusals.{refusal, first_refusal}
use Rattle.wf_def_world.specs.Step.{outcome_of, concerned_station, judged_outcome, step}
use Rattle.wf_def_world.specs.Run.{Entry, world_after}
use Rattle.wf_law_runs.specs.Windows.{EachOpen}
use Rattle.wf_law_runs.proofs.Windows.Opened.{Each, each_find, NoRow}

-- ---- the exchange with a number

-- the exchanges, with z instead of the one with its number
abbrev pub with_replaced : Exchange → List Exchange → List Exchange
with_replaced z xs = map (λ y. if y.number == z.number then z else y) xs

pub found_replaced : (xs : List Exchange) (e : ℕ) (x z : Exchange) → find (λ y. y.number == e) xs ≡ Some x →
    z.number ≡ e → find (λ y. y.number == e) (with_replaced z xs) ≡ Some z
found_replaced [] e x z h n = absurd (cc h)
found_replaced (y ∷ ys) e x z h n = on_bool (y.number == e)
    (λ yes. subst (λ (b : Bool). find (λ y. y.number == e) ((if b then z else y) ∷ with_replaced z ys)
    ≡ Some z) (sym (at_z ∙ yes))
    (ap (λ (b : Bool). if b then Some z else find (λ y. y.number == e) (with_replaced z ys))
    (yes_eq z.number e n)))
    (λ no. subst (λ (b : Bool). find (λ y. y.number == e) ((if b then z else y) ∷ with_replaced z ys)
    ≡ Some z) (sym (at_z ∙ no))
    (ap (λ (b : Bool). if b then Some y else find (λ y. y.number == e) (with_replaced z ys)) no
    ∙ found_replaced ys e x z (sym (ap (λ (b : Bool). if b then Some y else find (λ y. y.number == e) ys) no)
    ∙ h) n))
  where
    at_z : (y.number == z.number) ≡ (y.number == e)
    at_z = ap (λ (k : ℕ). y.number == k) n

pub some_at : (P : Exchange → Type 0) (o : Option Exchange) (x : Exchange) → o ≡ Some x → IfSome o P → P x
some_at P o x e h = subst (λ (o : Option Exchange). IfSome o P) e h

pub found_number : (w : World) (e : ℕ) (x : Exchange) → exchange w e ≡ Some x → x.number ≡ e
found_number w e x h = some_at (λ y. y.number ≡ e) (exchange w e) x h
    (each_find (λ _. Unit {0}) (λ y. y.number ≡ e) (λ y. y.number == e) w.opened
    (λ y yes _. eq_yes y.number e yes) (anything w.opened))
  where
    anything : (xs : List Exchange) → Each (λ _. Unit {0}) xs
    anything [] = tt
    anything (x ∷ xs) = (tt, anything xs)

pub to_each : (P : Exchange → Type 0) (xs : List Exchange) → EachOpen P xs → Each P xs
to_each P [] h = tt
to_each P (x ∷ xs) h = (h.0, to_each P xs h.1)

pub of_each : (P : Exchange → Type 0) (xs : List Exchange) → Each P xs → EachOpen P xs
of_each P [] h = tt
of_each P (x ∷ xs) h = (h.0, of_each P xs h.1)

pub found_each : (P : Exchange → Type 0) (w : World) (e : ℕ) (x : Exchange) → exchange w e ≡ Some x →
    EachOpen P w.opened → P x
found_each P w e x h all = some_at P (exchange w e) x h
    (each_find P P (λ y. y.number == e) w.opened (λ y _ p. p) (to_each P w.opened all))

-- ---- calls, and whether they are refused

pub none_refuses : (rows : List (Bool × Refusal)) → NoRow rows → first_refusal rows ≡ None
unfolding first_refusal
none_refuses [] h = refl
none_refuses (row ∷ rows) h = ap (λ (b : Bool). if b then Some row.1 else first_refusal rows) h.0
    ∙ none_refuses rows h.1

pub first_refuses : (row : Bool × Refusal) (rows : List (Bool × Refusal)) → row.0 ≡ true →
    first_refusal (row ∷ rows) ≡ Some row.1
unfolding first_refusal
first_refuses row rows h = ap (λ (b : Bool). if b then Some row.1 else first_refusal rows) h

pub passes : (row : Bool × Refusal) (rows : List (Bool × Refusal)) → row.0 ≡ false →
    first_refusal (row ∷ rows) ≡ first_refusal rows
unfolding first_refusal
passes row rows h = ap (λ (b : Bool). if b then Some row.1 else first_refusal rows) h

pub step_done : (w : World) (note : Note) → refusal w note ≡ None →
    (step w note).world ≡ with_listings_of (outcome_of w note).world (concerned_station w note)
unfolding step judged_outcome
step_done w note h = ap (λ (r : Option Refusal). (judged_outcome w note r).world) h

pub one_entry : (w : World) (entry : Entry) → world_after w (entry ∷ []) ≡ (step w entry.1).world
unfolding world_after
one_entry w entry = refl
