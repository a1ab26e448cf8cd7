-- Proves that the loop ends, because the work that is left falls in each turn that does not end it.
use Rattle.std.proofs.Common.{◌≡◌, refl, ap, sym, subst, arith, ℕ, zero, suc, ◌+◌, ◌*◌, ◌<◌, ◌≤◌, ◌==◌, Bool, true, false, if◌then◌else◌, int_le, ℤ, pos, List, [], ◌∷◌, ◌++◌, length, Some, None}
use Rattle.std.proofs.lemmas.Bool.{ne_eqb, or_parts}
use Rattle.std.proofs.lemmas.List.{length-append}
use Rattle.wf_def_lists.specs.Table.{has}
use Rattle.wf_def_lists.specs.Lists.{IsOnce}
use Rattle.wf_def_rotation.specs.Rotation.{in_order, need_of}
use Rattle.wf_def_rotation.specs.Loop.{Visit, Empty, Wins, Again, visit_at, visit_of_new, visit_of_old, with_quantum_paid, Standing, visit_from, onward, after_visits, LoopEnds, HasEnd, EndLaw}
use Rattle.wf_law_rules.proofs.Lemmas.Numbers.{on_bool}
use Rattle.wf_law_rules.proofs.Lemmas.Members.{has_head}
use Rattle.wf_law_rules.proofs.Lemmas.Visits.{others, gets}
use Rattle.wf_law_rules.proofs.Order.{eq_false, distinct_apart}
use Rattle.wf_law_rules.proofs.LoopLaw.{IsApart, apart}

-- The sum of the quanta that the keys of a list need.
abbrev needs : (ℕ → ℕ) → (ℕ → ℤ) → List ℕ → ℕ
needs quantum deficit [] = 0
needs quantum deficit (y ∷ ys) = need_of (quantum y) (deficit y) + needs quantum deficit ys

needs-append : (quantum : ℕ → ℕ) (deficit : ℕ → ℤ) (xs ys : List ℕ) →
    needs quantum deficit (xs ++ ys) ≡ needs quantum deficit xs + needs quantum deficit ys
needs-append quantum deficit [] ys = omega arith
needs-append quantum deficit (x ∷ xs) ys = omega (arith, needs-append quantum deficit xs ys)

-- The work that is left: the quanta that are needed, one visit for each key of the old list and two for
-- each key of the new list.
abbrev work : (ℕ → ℕ) → Standing → ℕ
work quantum s = needs quantum s.deficit (in_order s.lists) + (2 * length s.lists.new + length s.lists.old)

abbrev Falls : (ℕ → ℕ) → Standing → Visit → Type 0
Falls quantum s Empty = Unit {0}
Falls quantum s (Wins key) = Unit {0}
Falls quantum s (Again lists deficit) = work quantum (record { lists = lists; deficit = deficit })
    < work quantum s

once_back : (xs ys : List ℕ) → IsOnce (xs ++ ys) → IsOnce ys
once_back [] ys h = h
once_back (x ∷ xs) ys h = once_back xs ys h.1

not_ahead : (key : ℕ) (xs ys : List ℕ) → IsOnce (xs ++ key ∷ ys) → has xs key ≡ false
not_ahead key xs ys h = on_bool (has xs key) (λ yes.
    absurd (cc (distinct_apart xs (key ∷ ys) key h yes, has_head key ys))) (λ no. no)

module _ (quantum : ℕ → ℕ) (deficit : ℕ → ℤ) (ready : ℕ → Bool) (key : ℕ)
    (some : (y : ℕ) → 1 ≤ quantum y) where
  -- The other keys need as many quanta as before.
  needs-others : (xs : List ℕ) → has xs key ≡ false →
      needs quantum (with_quantum_paid quantum deficit key) xs ≡ needs quantum deficit xs
  needs-others [] h = refl
  needs-others (x ∷ xs) h =
      let parts : ((x == key) ≡ false) × (has xs key ≡ false) = or_parts (x == key) (has xs key) h in
      let other : (key == x) ≡ false = ne_eqb key x (λ e. eq_false x key parts.0 (sym e)) in
      omega (arith, others quantum deficit ready key some x other, needs-others xs parts.1)

  falls_new : (keys old : List ℕ) → IsOnce (old ++ key ∷ keys) →
      Falls quantum (record { lists = record { new = key ∷ keys; old = old }; deficit = deficit })
      (visit_of_new quantum deficit ready key keys old)
  falls_new keys old h = go (int_le (deficit key) (pos 0)) refl (ready key)
    where
      go : (low : Bool) → int_le (deficit key) (pos 0) ≡ low → (is : Bool) →
          Falls quantum (record { lists = record { new = key ∷ keys; old = old }; deficit = deficit })
          (if low then Again (record { new = keys; old = old ++ key ∷ [] })
          (with_quantum_paid quantum deficit key) else
          (if is then Wins key else Again (record { new = keys; old = old ++ key ∷ [] }) deficit))
      go true low is =
          let front : needs quantum (with_quantum_paid quantum deficit key) old ≡ needs quantum deficit old =
          needs-others old (not_ahead key old keys h) in
          let back : needs quantum (with_quantum_paid quantum deficit key) keys ≡ needs quantum deficit keys =
          needs-others keys (once_back old (key ∷ keys) h).0 in
          omega (
            arith,
            front,
            back,
            gets quantum deficit ready key some low,
            needs-append quantum (with_quantum_paid quantum deficit key) (old ++ key ∷ []) keys,
            needs-append quantum (with_quantum_paid quantum deficit key) old (key ∷ []),
            needs-append quantum deficit old (key ∷ keys),
            length-append old (key ∷ []),
          )
      go false low true = tt
      go false low false =
          omega (
            arith,
            needs-append quantum deficit (old ++ key ∷ []) keys,
            needs-append quantum deficit old (key ∷ []),
            needs-append quantum deficit old (key ∷ keys),
            length-append old (key ∷ []),
          )

  falls_old : (keys : List ℕ) → IsOnce (key ∷ keys) →
      Falls quantum (record { lists = record { new = []; old = key ∷ keys }; deficit = deficit })
      (visit_of_old quantum deficit ready key keys)
  falls_old keys h = go (int_le (deficit key) (pos 0)) refl (ready key)
    where
      go : (low : Bool) → int_le (deficit key) (pos 0) ≡ low → (is : Bool) →
          Falls quantum (record { lists = record { new = []; old = key ∷ keys }; deficit = deficit })
          (if low then Again (record { new = []; old = keys ++ key ∷ [] })
          (with_quantum_paid quantum deficit key) else
          (if is then Wins key else Again (record { new = []; old = keys }) deficit))
      go true low is =
          let rest : needs quantum (with_quantum_paid quantum deficit key) keys ≡ needs quantum deficit keys =
          needs-others keys h.0 in
          omega (
            arith,
            rest,
            gets quantum deficit ready key some low,
            needs-append quantum (with_quantum_paid quantum deficit key) (keys ++ key ∷ []) [],
            needs-append quantum (with_quantum_paid quantum deficit key) keys (key ∷ []),
            needs-append quantum deficit (key ∷ keys) [],
            length-append keys (key ∷ []),
          )
      go false low true = tt
      go false low false = omega (
        arith,
        needs-append quantum deficit keys [],
        needs-append quantum deficit (key ∷ keys) [],
      )

module _ (quantum : ℕ → ℕ) (ready : ℕ → Bool) (some : (y : ℕ) → 1 ≤ quantum y) where
  falls : (deficit : ℕ → ℤ) (news olds : List ℕ) → IsOnce (olds ++ news) →
      Falls quantum (record { lists = record { new = news; old = olds }; deficit = deficit })
      (visit_at quantum deficit ready news olds)
  falls deficit [] [] h = tt
  falls deficit [] (key ∷ keys) h = falls_old quantum deficit ready key some keys (once_front (key ∷ keys) h)
    where
      once_front : (xs : List ℕ) → IsOnce (xs ++ []) → IsOnce xs
      once_front xs h = subst IsOnce (append_nothing xs) h
        where
          append_nothing : (xs : List ℕ) → xs ++ [] ≡ xs
          append_nothing [] = refl
          append_nothing (x ∷ xs) = ap (λ (ys : List ℕ). x ∷ ys) (append_nothing xs)
  falls deficit (key ∷ keys) old h = falls_new quantum deficit ready key some keys old h

  -- The loop ends from a state, if it ends from each state with less work left.
  ends_from : (s : Standing) → ((next : Standing) → work quantum next < work quantum s →
      IsOnce (in_order next.lists) → HasEnd quantum ready next) → (t : Visit) →
      visit_from quantum ready s ≡ t →
      Falls quantum s t → IsApart t → HasEnd quantum ready s
  ends_from s below Empty e fall kept = record {
    visits = 0;
    winner = None;
    ends =
        subst (λ (t : Visit). LoopEnds t None) (sym e) refl;
  }
  ends_from s below (Wins key) e fall kept = record {
    visits = 0;
    winner = Some key;
    ends =
        subst (λ (t : Visit). LoopEnds t (Some key)) (sym e) refl;
  }
  ends_from s below (Again lists deficit) e fall kept =
      let later : HasEnd quantum ready (record { lists = lists; deficit = deficit }) =
      below (record { lists = lists; deficit = deficit }) fall kept in
      record {
        visits = suc later.visits;
        winner = later.winner;
        ends = subst (λ (t : Visit). LoopEnds (visit_from quantum ready
            (after_visits quantum ready later.visits (onward s t))) later.winner) (sym e) later.ends;
      }

  ends_within : (most : ℕ) (s : Standing) → work quantum s < most → IsOnce (in_order s.lists) →
      HasEnd quantum ready s
  ends_within zero s less once = absurd (omega arith)
  ends_within (suc most) s less once =
      ends_from s (λ next fewer kept. ends_within most next (omega (arith, fewer, less)) kept)
      (visit_from quantum ready s) refl (falls s.deficit s.lists.new s.lists.old once)
      (apart quantum s.deficit ready s.lists.new s.lists.old once)

pub end_law : EndLaw
end_law quantum ready s some once = ends_within quantum ready some (suc (work quantum s)) s (omega arith) once
