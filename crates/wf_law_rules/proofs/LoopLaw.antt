-- Proves that the pick gives the result of the whole loop, by induction on the turns: no turn changes the
-- result of the pick, and the last turn has this result.
use Rattle.std.proofs.Common.{◌≡◌, refl, ap, sym, ◌∙◌, subst, append_assoc, append-nil, ℕ, zero, suc, ◌≤◌, Bool, true, false, if◌then◌else◌, ◌||◌, ◌==◌, int_le, ℤ, pos, List, [], ◌∷◌, ◌++◌, Option}
use Rattle.wf_def_lists.specs.Table.{has}
use Rattle.wf_def_lists.specs.Lists.{IsOnce}
use Rattle.wf_def_rotation.specs.Rotation.{in_order}
use Rattle.wf_def_rotation.specs.Loop.{Visit, Empty, Wins, Again, visit_at, visit_of_new, visit_of_old, with_quantum_paid, PickGives, MeetsVisit, Standing, visit_from, onward, after_visits, LoopEnds, LoopLaw}
use Rattle.wf_law_rules.proofs.Lemmas.Joined.{once_append}
use Rattle.wf_law_rules.proofs.Lemmas.Numbers.{on_bool, eq_yes}
use Rattle.wf_law_rules.proofs.Lemmas.Visits.{visit_law}

-- A turn that does not end the loop leaves no key listed twice.
abbrev pub IsApart : Visit → Type 0
IsApart Empty = Unit {0}
IsApart (Wins key) = Unit {0}
IsApart (Again lists deficit) = IsOnce (in_order lists)

-- A list without repeats has none after its head moves to its end.
once_last : (key : ℕ) (keys : List ℕ) → IsOnce (key ∷ keys) → IsOnce (keys ++ key ∷ [])
once_last key keys h = once_append keys (key ∷ []) h.1 (refl, tt) (λ k e. on_bool (key == k)
    (λ same. subst (λ (n : ℕ). has keys n ≡ false) (eq_yes key k same) h.0)
    (λ other. absurd (cc (e, ap (λ (b : Bool). b || false) other))))

apart_new : (quantum : ℕ → ℕ) (deficit : ℕ → ℤ) (ready : ℕ → Bool) (key : ℕ) (keys old : List ℕ) →
    IsOnce (old ++ key ∷ keys) → IsApart (visit_of_new quantum deficit ready key keys old)
apart_new quantum deficit ready key keys old h = go (int_le (deficit key) (pos 0)) (ready key)
  where
    moved : IsOnce ((old ++ key ∷ []) ++ keys)
    moved = subst IsOnce (sym (append_assoc old (key ∷ []) keys)) h

    go : (low is : Bool) → IsApart (if low then Again (record { new = keys; old = old ++ key ∷ [] })
        (with_quantum_paid quantum deficit key) else
        (if is then Wins key else Again (record { new = keys; old = old ++ key ∷ [] }) deficit))
    go true is = moved
    go false true = tt
    go false false = moved

apart_old : (quantum : ℕ → ℕ) (deficit : ℕ → ℤ) (ready : ℕ → Bool) (key : ℕ) (keys : List ℕ) →
    IsOnce (key ∷ keys) → IsApart (visit_of_old quantum deficit ready key keys)
apart_old quantum deficit ready key keys h = go (int_le (deficit key) (pos 0)) (ready key)
  where
    go : (low is : Bool) → IsApart (if low then Again (record { new = []; old = keys ++ key ∷ [] })
        (with_quantum_paid quantum deficit key) else
        (if is then Wins key else Again (record { new = []; old = keys }) deficit))
    go true is = subst IsOnce (sym (append-nil (keys ++ key ∷ []))) (once_last key keys h)
    go false true = tt
    go false false = subst IsOnce (sym (append-nil keys)) h.1

pub apart : (quantum : ℕ → ℕ) (deficit : ℕ → ℤ) (ready : ℕ → Bool) (news olds : List ℕ) →
    IsOnce (olds ++ news) → IsApart (visit_at quantum deficit ready news olds)
apart quantum deficit ready [] [] h = tt
apart quantum deficit ready [] (key ∷ keys) h =
    apart_old quantum deficit ready key keys (subst IsOnce (append-nil (key ∷ keys)) h)
apart quantum deficit ready (key ∷ keys) old h = apart_new quantum deficit ready key keys old h

module _ (quantum : ℕ → ℕ) (ready : ℕ → Bool) (some : (y : ℕ) → 1 ≤ quantum y) where
  -- The turn that ends the loop.
  last : (s : Standing) (winner : Option ℕ) (t : Visit) → MeetsVisit quantum s.deficit ready s.lists t →
      LoopEnds t winner → PickGives quantum s.deficit ready s.lists winner s.lists s.deficit
  last s winner Empty meets ends = subst (λ (w : Option ℕ).
      PickGives quantum s.deficit ready s.lists w s.lists s.deficit) (sym ends) meets
  last s winner (Wins key) meets ends = subst (λ (w : Option ℕ).
      PickGives quantum s.deficit ready s.lists w s.lists s.deficit) (sym ends) meets
  last s winner (Again lists after) meets ends = absurd ends

  -- One turn more, before turns for which the law holds.
  more : (s end : Standing) (winner : Option ℕ) (t : Visit) → MeetsVisit quantum s.deficit ready s.lists t →
      PickGives quantum (onward s t).deficit ready (onward s t).lists winner end.lists end.deficit →
      PickGives quantum s.deficit ready s.lists winner end.lists end.deficit
  more s end winner Empty meets gives = gives
  more s end winner (Wins key) meets gives = gives
  more s end winner (Again lists after) meets gives = record {
    winner = meets.winner ∙ gives.winner;
    lists = meets.lists ∙ gives.lists;
    deficits = λ y. meets.deficits y ∙ gives.deficits y;
  }

  once_on : (s : Standing) (t : Visit) → IsOnce (in_order s.lists) → IsApart t →
      IsOnce (in_order (onward s t).lists)
  once_on s Empty once h = once
  once_on s (Wins key) once h = once
  once_on s (Again lists after) once h = h

  pub gives : (n : ℕ) (s : Standing) (winner : Option ℕ) → IsOnce (in_order s.lists) →
      LoopEnds (visit_from quantum ready (after_visits quantum ready n s)) winner →
      PickGives quantum s.deficit ready s.lists winner (after_visits quantum ready n s).lists
      (after_visits quantum ready n s).deficit
  gives zero s winner once ends = last s winner (visit_from quantum ready s)
      (visit_law quantum s.deficit ready s.lists some once) ends
  gives (suc n) s winner once ends =
      more s (after_visits quantum ready (suc n) s) winner (visit_from quantum ready s)
      (visit_law quantum s.deficit ready s.lists some once)
      (gives n (onward s (visit_from quantum ready s)) winner
      (once_on s (visit_from quantum ready s) once
      (apart quantum s.deficit ready s.lists.new s.lists.old once)) ends)

pub loop_law : LoopLaw
loop_law quantum ready s n winner some once ends = gives quantum ready some n s winner once ends
