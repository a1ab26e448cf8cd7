-- Proves that a move of B is the same as moving to the next stored frame first, and then on.
use Rattle.std.proofs.Common.{◌≡◌, ℕ, ◌+◌, ◌<◌, ◌≤◌, ◌==◌, nat_lt, false, ◌⊎◌, inl, inr, List, [], ◌∷◌, ◌++◌, Some, refl, sym, ◌∙◌, ap, ap₂, subst, arith, append_assoc, if◌then◌else◌}
use Rattle.std.proofs.lemmas.Bool.{cases_lt}
use Rattle.std.proofs.lemmas.Bool.Decides.{nat_tests}
use Rattle.std.proofs.lemmas.List.{append-nil}
use Rattle.wf_uplink.specs.Reordering.{Reordering, Stored, Released, ReorderingOutcome, stored_from, first_number, least_stored, first_hole, gap, holes_told, passed_to, moved_to}
use Rattle.wf_uplink.specs.Soundness.{StoredFrom}
use Rattle.wf_uplink.proofs.Moves.{choose, hole_from}
use Rattle.wf_uplink.proofs.Standing.{this, not_this, all_stored_from}

-- B moves to n, if it is not there yet
abbrev pub onto : ℕ → Reordering → ReorderingOutcome
onto n r = if nat_lt r.start n then moved_to n r else record { passed = []; old = false; after = r }

hole_covers : (n t : ℕ) (xs : List Stored) → StoredFrom n xs → n ≤ t → t ≤ first_hole n xs →
    first_hole t (stored_from t xs) ≡ first_hole n xs
hole_covers n t [] s least most = omega (arith, least, most)
hole_covers n t (x ∷ xs) s least most =
    choose (λ h. t ≤ h → first_hole t (stored_from t (x ∷ xs)) ≡ h) (x.number == n) (first_hole (n + 1) xs) n
    (λ here far. elim (cases_lt n t) [
      | inl below ↦
          let at : x.number ≡ n = grind (arith, nat_tests, here) in
          ap (first_hole t) (this (nat_lt x.number t) (stored_from t xs) (x ∷ xs)
          (grind (arith, nat_tests, at, below)))
          ∙ hole_covers (n + 1) t xs (subst (λ m. StoredFrom (m + 1) xs) at s.1) (omega (arith, below)) far
      | inr above ↦
          let same : n ≡ t = omega (arith, above, least) in
          subst (λ m. first_hole m (stored_from m (x ∷ xs)) ≡ first_hole (n + 1) xs) same
          (ap (first_hole n) (all_stored_from n (x ∷ xs) s)
          ∙ this (x.number == n) (first_hole (n + 1) xs) n here)
    ])
    (λ other far.
    let same : n ≡ t = omega (arith, far, least) in
    subst (λ m. first_hole m (stored_from m (x ∷ xs)) ≡ n) same
    (ap (first_hole n) (all_stored_from n (x ∷ xs) s)
    ∙ not_this (x.number == n) (first_hole (n + 1) xs) n other)) most

from_twice : (e t : ℕ) (xs : List Stored) → e ≤ t → stored_from t (stored_from e xs) ≡ stored_from t xs
from_twice e t [] le = refl
from_twice e t (x ∷ xs) le =
    choose (λ ys. stored_from t ys ≡ stored_from t (x ∷ xs)) (nat_lt x.number e) (stored_from e xs) (x ∷ xs)
    (λ below. from_twice e t xs le ∙ sym (this (nat_lt x.number t) (stored_from t xs) (x ∷ xs)
    (grind (arith, nat_tests, below, le)))) (λ _. refl)

-- the items of a run of frames, and those after it
told_split : (n e : ℕ) (xs : List Stored) → StoredFrom n xs → first_hole n xs ≤ e →
    holes_told n e xs ≡ holes_told n (first_hole n xs) xs
    ++ holes_told (first_hole n xs) e (stored_from (first_hole n xs) xs)
told_split n e [] s le = ap (λ ys. ys ++ gap n e)
    (sym (not_this (nat_lt n n) _ [] (grind (arith, nat_tests))))
told_split n e (x ∷ xs) s most =
    choose (λ h. h ≤ e → holes_told n e (x ∷ xs) ≡ holes_told n h (x ∷ xs)
    ++ holes_told h e (stored_from h (x ∷ xs))) (x.number == n) (first_hole (n + 1) xs) n
    (λ here le.
    let at : x.number ≡ n = grind (arith, nat_tests, here) in
    let h : ℕ = first_hole (n + 1) xs in
    let past : n + 1 ≤ h = hole_from (n + 1) xs in
    let rising : StoredFrom (x.number + 1) xs = s.1 in
    let rest : holes_told (x.number + 1) e xs ≡ holes_told (x.number + 1) h xs
    ++ holes_told h e (stored_from h xs) =
    subst (λ m. holes_told (m + 1) e xs ≡ holes_told (m + 1) h xs ++ holes_told h e (stored_from h xs))
    (sym at) (told_split (n + 1) e xs (subst (λ m. StoredFrom (m + 1) xs) at rising) le) in
    this (nat_lt x.number e) (gap n x.number ++ (Released x.id x.number ∷ holes_told (x.number + 1) e xs))
    (gap n e) (grind (arith, nat_tests, at, past, le))
    ∙ ap (λ ys. gap n x.number ++ (Released x.id x.number ∷ ys)) rest
    ∙ sym (append_assoc (gap n x.number) (Released x.id x.number ∷ holes_told (x.number + 1) h xs)
    (holes_told h e (stored_from h xs)))
    ∙ sym (ap₂ (λ ys zs. ys ++ holes_told h e zs)
    (this (nat_lt x.number h) (gap n x.number ++ (Released x.id x.number ∷ holes_told (x.number + 1) h xs))
    (gap n h) (grind (arith, nat_tests, at, past)))
    (this (nat_lt x.number h) (stored_from h xs) (x ∷ xs) (grind (arith, nat_tests, at, past)))))
    (λ other le.
    let least = s.0 in
    sym (ap₂ (λ ys zs. ys ++ holes_told n e zs)
    (not_this (nat_lt x.number n) _ (gap n n) (grind (arith, nat_tests, least))
    ∙ not_this (nat_lt n n) _ [] (grind (arith, nat_tests)))
    (all_stored_from n (x ∷ xs) s))) most

-- the items of a gap, of the run of frames after it, and of the rest
told_parts : (from e : ℕ) (x : Stored) (xs : List Stored) → from ≤ x.number → StoredFrom x.number (x ∷ xs) →
    first_hole x.number (x ∷ xs) ≤ e →
    holes_told from e (x ∷ xs) ≡ holes_told from (first_hole x.number (x ∷ xs)) (x ∷ xs)
    ++ holes_told (first_hole x.number (x ∷ xs)) e (stored_from (first_hole x.number (x ∷ xs)) (x ∷ xs))
told_parts from e x xs le s most =
    let h : ℕ = first_hole (x.number + 1) xs in
    let is : first_hole x.number (x ∷ xs) ≡ h = this (x.number == x.number)
    (first_hole (x.number + 1) xs) x.number (grind (arith, nat_tests)) in
    let past : x.number + 1 ≤ h = hole_from (x.number + 1) xs in
    let far : h ≤ e = omega (arith, is, most) in
    subst (λ m. holes_told from e (x ∷ xs) ≡ holes_told from m (x ∷ xs)
    ++ holes_told m e (stored_from m (x ∷ xs))) (sym is)
    (this (nat_lt x.number e) (gap from x.number ++ (Released x.id x.number ∷ holes_told (x.number + 1) e xs))
    (gap from e) (grind (arith, nat_tests, past, far))
    ∙ ap (λ ys. gap from x.number ++ (Released x.id x.number ∷ ys)) (told_split (x.number + 1) e xs s.1 far)
    ∙ sym (append_assoc (gap from x.number) (Released x.id x.number ∷ holes_told (x.number + 1) h xs)
    (holes_told h e (stored_from h xs)))
    ∙ sym (ap₂ (λ ys zs. ys ++ holes_told h e zs)
    (this (nat_lt x.number h) (gap from x.number ++ (Released x.id x.number ∷ holes_told (x.number + 1) h xs))
    (gap from h) (grind (arith, nat_tests, past)))
    (this (nat_lt x.number h) (stored_from h xs) (x ∷ xs) (grind (arith, nat_tests, past)))))

-- one step, and the rest of the move
pub record IsStep (next target : ℕ) (r : Reordering) : Type 0 where
  pub passed : (moved_to next r).passed ++ (onto target (moved_to next r).after).passed
      ≡ (moved_to target r).passed
  pub after : (onto target (moved_to next r).after).after ≡ (moved_to target r).after

from_least : (b n : ℕ) (xs : List Stored) → StoredFrom b xs → n ≤ least_stored n xs → StoredFrom n xs
from_least b n [] s le = tt
from_least b n (x ∷ xs) s le = (le, s.1)

last_step : (next target : ℕ) (r : Reordering) → StoredFrom next r.stored → next ≤ target →
    target ≤ first_hole next (stored_from next r.stored) → IsStep next target r
last_step next target r s le over =
    let e : ℕ = first_hole next (stored_from next r.stored) in
    let all = all_stored_from next r.stored s in
    let same : first_hole target (stored_from target r.stored) ≡ e =
    hole_covers next target r.stored s le (subst (λ xs. target ≤ first_hole next xs) all over)
    ∙ ap (first_hole next) (sym all) in
    let stay : onto target (moved_to next r).after
    ≡ record { passed = []; old = false; after = (moved_to next r).after } =
    not_this (nat_lt e target) _ _ (grind (arith, nat_tests, over)) in
    record {
      passed = ap (λ (o : ReorderingOutcome). (moved_to next r).passed ++ o.passed) stay
          ∙ append-nil (moved_to next r).passed ∙ ap (λ n. (passed_to n r).passed) (sym same);
      after = ap (λ (o : ReorderingOutcome). o.after) stay ∙ ap (λ n. (passed_to n r).after) (sym same);
    }

first_step : (next target start window since : ℕ) (xs : List Stored) → first_number xs ≡ Some next →
    StoredFrom next xs → start ≤ next →
    first_hole next (stored_from next xs) < target →
    IsStep next target (record { start = start; window = window; stored = xs; since = since })
first_step next target start window since [] first s le short = absurd (grind (arith, first))
first_step next target start window since (x ∷ xs) first s le short =
    let r : Reordering = record { start = start; window = window; stored = x ∷ xs; since = since } in
    let at : x.number ≡ next = grind (arith, first) in
    let all = all_stored_from next (x ∷ xs) s in
    let h : ℕ = first_hole next (stored_from next (x ∷ xs)) in
    let his : h ≡ first_hole x.number (x ∷ xs) = ap (first_hole next) all
    ∙ ap (λ n. first_hole n (x ∷ xs)) (sym at) in
    let e : ℕ = first_hole target (stored_from target (x ∷ xs)) in
    let far : target ≤ e = hole_from target (stored_from target (x ∷ xs)) in
    let near : h ≤ e = omega (arith, far, short) in
    let low : h ≤ target = omega (arith, short) in
    let go : onto target (moved_to next r).after ≡ moved_to target (moved_to next r).after =
    this (nat_lt h target) _ _ (grind (arith, nat_tests, short)) in
    let end : first_hole target (stored_from target (stored_from h (x ∷ xs))) ≡ e =
    ap (first_hole target) (from_twice h target (x ∷ xs) low) in
    let parts : holes_told start e (x ∷ xs) ≡ holes_told start h (x ∷ xs)
    ++ holes_told h e (stored_from h (x ∷ xs)) =
    subst (λ m. holes_told start e (x ∷ xs) ≡ holes_told start m (x ∷ xs)
    ++ holes_told m e (stored_from m (x ∷ xs))) (sym his)
    (told_parts start e x xs (omega (arith, le, at)) (subst (λ n. StoredFrom n (x ∷ xs)) (sym at) s)
    (omega (arith, his, near))) in
    record {
      passed = ap (λ (o : ReorderingOutcome). (moved_to next r).passed ++ o.passed) go
          ∙ ap (λ n. holes_told start h (x ∷ xs) ++ holes_told h n (stored_from h (x ∷ xs))) end ∙ sym parts;
      after = ap (λ (o : ReorderingOutcome). o.after) go
          ∙ ap (λ n. record {
            start = n;
            window = window;
            stored = stored_from n (stored_from h (x ∷ xs));
            since = since;
          }) end
          ∙ ap (λ (ys : List Stored). record { start = e; window = window; stored = ys; since = since })
          (from_twice h e (x ∷ xs) near);
    }

pub step : (next target : ℕ) (r : Reordering) → StoredFrom r.start r.stored → r.start ≤ next → next ≤ target →
    next ≤ least_stored next r.stored →
    (next ≡ target) ⊎ (first_number r.stored ≡ Some next) → IsStep next target r
step next target r s from le least which =
    let rising : StoredFrom next r.stored = from_least r.start next r.stored s least in
    elim (cases_lt (first_hole next (stored_from next r.stored)) target) [
      | inl short ↦ elim which [
        | inl same ↦ absurd (let past = hole_from next (stored_from next r.stored) in
            omega (arith, past, short, same))
        | inr first ↦ first_step next target r.start r.window r.since r.stored first rising from short
      ]
      | inr over ↦ last_step next target r rising le over
    ]
