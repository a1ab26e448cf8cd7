-- Proves that walks, and lists of calls, can be joined.
use Rattle.std.proofs.Common.{◌≡◌, ℕ, List, [], ◌∷◌, ◌++◌, refl, sym, ◌∙◌, ap, subst, append_assoc, append-nil, arith, inl, inr}
use Rattle.std.specs.Prelude.{Some, ◌⊎◌, Result, Ok, Err, OnOk, OnErr, map}
use Rattle.wf_frame.specs.declared.notes.Note.{Note}
use Rattle.wf_frame.specs.declared.notes.ReplyNote.{ReplyNote}
use Rattle.wf_run_histories.specs.Workloads.{Made, Driver, IsWalk, walked, next_call, after}
use Rattle.wf_run_histories.specs.Workloads.Phase.{Ends}
use Rattle.wf_run_histories.specs.Desks.{Adds, Refuses, Makes, Walks, Stops}

walk-append : (d : Driver) (one two : List Made) → IsWalk d one → IsWalk (walked d one) two →
    IsWalk d (one ++ two)
walk-append d [] two first second = second
walk-append d (m ∷ ms) two first second = (first.0, walk-append (after d m.1) ms two first.1 second)

walked-append : (d : Driver) (one two : List Made) → walked d (one ++ two) ≡ walked (walked d one) two
walked-append d [] two = refl
walked-append d (m ∷ ms) two = walked-append (after d m.1) ms two

notes-append : (one two : List Made) → map (λ (m : Made). m.0) (one ++ two) ≡ map (λ (m : Made). m.0) one
    ++ map (λ (m : Made). m.0) two
notes-append [] two = refl
notes-append (m ∷ ms) two = ap (λ l. m.0 ∷ l) (notes-append ms two)

-- A fact that holds after failure.
pub on_err : {T E P : Type 0} (r : Result T E) → P → OnErr r P
on_err (Ok x) p = tt
on_err (Err e) p = p

has_both : {D P : Type 0} (has : D → P → List Made → Type 0) (a b c : D) (one two : List Made) →
    ((place : P) (before : List Made) → has a place before → has b place (before ++ one)) →
    ((place : P) (before : List Made) → has b place before → has c place (before ++ two)) →
    (place : P) (before : List Made) → has a place before → has c place (before ++ (one ++ two))
has_both has a b c one two first second place before had =
    subst (has c place) (append_assoc before one two) (second place (before ++ one) (first place before had))

has_none : {D P : Type 0} (has : D → P → List Made → Type 0) (a : D) (place : P) (before : List Made) →
    has a place before → has a place (before ++ [])
has_none has a place before had = subst (has a place) (sym (append-nil before)) had

module _ {D P : Type 0} {has : D → P → List Made → Type 0} {left : D → ℕ} where
  pub walks_none : (a : D) (d : Driver) → Walks has left a a d d
  walks_none a d = record {
    made = [];
    walk = tt;
    leads = refl;
    fewer = omega arith;
    has_them =
        has_none has a;
  }

  pub walks_then : {a b c : D} {d e f : Driver} → Walks has left a b d e → Walks has left b c e f →
      Walks has left a c d f
  walks_then {a} {b} {c} {d} {e} {f} first second = record {
    made = first.made ++ second.made;
    walk = walk-append d first.made second.made first.walk
        (subst (λ (x : Driver). IsWalk x second.made) (sym first.leads) second.walk);
    leads = walked-append d first.made second.made ∙ ap (λ (x : Driver). walked x second.made) first.leads
        ∙ second.leads;
    fewer = let one = first.fewer in let two = second.fewer in omega arith;
    has_them = has_both has a b c first.made second.made first.has_them second.has_them;
  }

  pub walks_one : {a b : D} {note : Note} {reply : ReplyNote} → Adds has left a b note reply → (d : Driver) →
      next_call d ≡ Some note → Walks has left a b d (after d reply)
  walks_one {a} {b} {note} {reply} adds d next = record {
    made = (note, reply) ∷ [];
    walk = (next, tt);
    leads = refl;
    fewer = let less = adds.fewer in omega arith;
    has_them = adds.added;
  }

  -- Replaces the end of a walk by an equal one.
  pub walks_to : {a b : D} {d e f : Driver} → Walks has left a b d e → e ≡ f → Walks has left a b d f
  walks_to {a} {b} {d} walks is = subst (λ (x : Driver). Walks has left a b d x) is walks

  -- Replaces the beginning of a walk by an equal one.
  pub walks_from : {a b : D} {d e f : Driver} → d ≡ e → Walks has left a b e f → Walks has left a b d f
  walks_from {a} {b} {d} {e} {f} is walks = subst (λ (x : Driver). Walks has left a b x f) (sym is) walks

  pub stops_from : {a b : D} {d e : Driver} → d ≡ e → Stops has left a b e → Stops has left a b d
  stops_from {a} {b} is stops = subst (λ (x : Driver). Stops has left a b x) (sym is) stops

  pub stops_at : {a b : D} → Refuses has left a b → (d : Driver) → Stops has left a b d
  stops_at {a} {b} refuses d = record {
    to = d;
    walks = record {
      made = [];
      walk = tt;
      leads = refl;
      fewer = let none = refuses.still in
          omega arith;
      has_them = λ place before had.
          has_none has b place before (refuses.kept place before had);
    };
    none = refuses.still;
  }

  pub stops_then : {a b c : D} {d e : Driver} → Walks has left a b d e → Stops has left b c e →
      Stops has left a c d
  stops_then first second = record {
    to = second.to;
    walks = walks_then first second.walks;
    none =
        second.none;
  }

  pub makes_none : (a : D) → Makes has left a a []
  makes_none a = record { made = []; notes_are = refl; has_them = has_none has a }

  pub makes_one : {a b c : D} {notes : List Note} {note : Note} {reply : ReplyNote} →
      Makes has left a b notes → Adds has left b c note reply → Makes has left a c (notes ++ note ∷ [])
  makes_one {a} {b} {c} {notes} {note} {reply} first adds = record {
    made = first.made ++ (note, reply) ∷ [];
    notes_are = notes-append first.made ((note, reply) ∷ []) ∙ ap (λ l. l ++ note ∷ []) first.notes_are;
    has_them = has_both has a b c first.made ((note, reply) ∷ []) first.has_them adds.added;
  }

  -- Replaces the list of calls by an equal one.
  pub makes_same : {a b : D} {notes others : List Note} → Makes has left a b notes → notes ≡ others →
      Makes has left a b others
  makes_same {a} {b} makes is = subst (λ (l : List Note). Makes has left a b l) is makes

  -- The driver has ended, or no call was left.
  pub ends : {T E : Type 0} {begin from : Driver} (a b : D) (to : Driver) → begin ≡ from → to.phase ≡ Ends →
      (r : Result T E) → OnOk r (Walks has left a b from to) → OnErr r (Stops has left a b from) →
      (last : Driver) × Walks has left a b begin last × ((last.phase ≡ Ends) ⊎ (left b ≡ 0))
  ends a b to is over (Ok x) ended spent = (to, walks_from is ended, inl over)
  ends a b to is over (Err e) ended spent = (spent.to, walks_from is spent.walks, inr spent.none)
