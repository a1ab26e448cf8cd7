-- Proves that the rising list of a TID's queues is the list of all queue numbers below a bound, filtered
-- by whether its rotation lists them.
use Rattle.std.proofs.Common.{◌≡◌, refl, ap, sym, ◌∙◌, arith, ℕ, zero, suc, ◌+◌, ◌<◌, ◌≤◌, ◌==◌, Bool, true, false, ◌||◌, if◌then◌else◌, List, [], ◌∷◌, filter, eq-eqb, inl, inr}
use Rattle.std.proofs.Math.Path.{fun_ext}
use Rattle.std.proofs.lemmas.Bool.{cases_Bool, cases_eq, ne_eqb, lt-ltb, le-ltb}
use Rattle.wf_def_lists.specs.Table.{has, count_from, upto, with_member}
use Rattle.wf_def_rotation.specs.Rotation.{Rotation, has_key, in_order}
use Rattle.wf_def_world.specs.Step.{in_rising_order}
use Rattle.wf_law_rules.proofs.Lemmas.Numbers.{same_bool, or_left, or_right}
use Rattle.wf_law_rules.proofs.Lemmas.Picks.{listed_in, in_listed}

-- two tests that agree from a number on
filter_same : (n from : ℕ) (p q : ℕ → Bool) → ((k : ℕ) → from ≤ k → p k ≡ q k) →
    filter p (count_from from n) ≡ filter q (count_from from n)
filter_same zero from p q h = refl
filter_same (suc n) from p q h =
    ap (λ (b : Bool). if b then from ∷ filter p (count_from (suc from) n)
    else filter p (count_from (suc from) n)) (h from (omega arith))
    ∙ ap (λ (l : List ℕ). if q from then from ∷ l else l)
    (filter_same n (suc from) p q (λ k low. h k (omega (arith, low))))

filter_none : (n from : ℕ) → filter (λ k. false) (count_from from n) ≡ []
filter_none zero from = refl
filter_none (suc n) from = filter_none n (suc from)

-- a number below all others is inserted first
member_first : (n from x : ℕ) (p : ℕ → Bool) → x < from →
    with_member x (filter p (count_from from n)) ≡ x ∷ filter p (count_from from n)
member_first zero from x p low = refl
member_first (suc n) from x p low = elim (cases_Bool (p from)) [
  | inl holds ↦ rw (holds, lt-ltb x from low) refl
  | inr fails ↦ rw fails (member_first n (suc from) x p (omega (arith, low)))
]

member_in : (n from x : ℕ) (p : ℕ → Bool) → from ≤ x → x < from + n →
    with_member x (filter p (count_from from n)) ≡ filter (λ k. (x == k) || p k) (count_from from n)
member_in zero from x p low high = absurd (omega (arith, low, high))
member_in (suc n) from x p low high = elim (cases_eq from x) [
  | inl e ↦
      let here : (x == from) ≡ true = eq-eqb x from (sym e) in
      let there : (from == x) ≡ true = eq-eqb from x e in
      let others : filter p (count_from (suc from) n)
      ≡ filter (λ k. (x == k) || p k) (count_from (suc from) n) =
      filter_same n (suc from) p (λ k. (x == k) || p k)
      (λ k above. sym (ap (λ (b : Bool). b || p k)
      (ne_eqb x k (λ same. absurd (omega (arith, e, same, above)))))) in
      elim (cases_Bool (p from)) [
        | inl holds ↦ rw (holds, here, le-ltb x from (omega (arith, e)), there)
            (ap (λ (l : List ℕ). from ∷ l) others)
        | inr fails ↦ rw (fails, here) (member_first n (suc from) x p (omega (arith, e))
            ∙ ap (λ (m : ℕ). m ∷ filter p (count_from (suc from) n)) (sym e)
            ∙ ap (λ (l : List ℕ). from ∷ l) others)
      ]
  | inr other ↦
      let above : from < x = omega (arith, low, other) in
      let differs : (x == from) ≡ false = ne_eqb x from (λ same. other (sym same)) in
      let rest = member_in n (suc from) x p (omega (arith, above)) (omega (arith, high)) in
      elim (cases_Bool (p from)) [
        | inl holds ↦ rw (holds, differs, le-ltb x from (omega (arith, above)), ne_eqb from x other)
            (ap (λ (l : List ℕ). from ∷ l) rest)
        | inr fails ↦ rw (fails, differs) rest
      ]
]

rising_is : (xs : List ℕ) (n : ℕ) → ((k : ℕ) → has xs k ≡ true → k < n) →
    in_rising_order xs ≡ filter (has xs) (upto n)
rising_is [] n low = sym (filter_none n 0)
rising_is (x ∷ xs) n low =
    ap (with_member x) (rising_is xs n (λ k h. low k (or_right (x == k) (has xs k) h)))
    ∙ member_in n 0 x (has xs) (omega arith) (omega
    (arith, low x (or_left (x == x) (has xs x) (eq-eqb x x refl))))

pub rising_listed : (r : Rotation) (n : ℕ) → ((k : ℕ) → has_key r k ≡ true → k < n) →
    in_rising_order (in_order r) ≡ filter (has_key r) (upto n)
rising_listed r n low =
    rising_is (in_order r) n (λ k h. low k (listed_in r k h))
    ∙ ap (λ (p : ℕ → Bool). filter p (upto n)) (fun_ext
    (λ k. same_bool (has (in_order r) k) (has_key r k) (listed_in r k) (in_listed r k)))
