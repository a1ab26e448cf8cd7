-- Proves how often a key occurs in a list, and how often one key occurs before another, for appended,
-- filtered and split lists. By induction on the list.
use Rattle.std.proofs.Common.{◌≡◌, refl, ap, sym, ◌∙◌, arith, ℕ, ◌+◌, ◌*◌, ◌<◌, ◌≤◌, Bool, true, false, if◌then◌else◌, ◌==◌, List, [], ◌∷◌, ◌++◌, filter, eq-eqb, inl, inr}
use Rattle.std.proofs.lemmas.Bool.{cases_Bool, cases_lt, ne_eqb, or_parts}
use Rattle.wf_def_lists.specs.Table.{has}
use Rattle.wf_def_lists.specs.Lists.{on}
use Rattle.wf_def_rotation.specs.Rotation.{Rotation, has_key, in_order, keys_before, keys_from}

-- Returns the number of pairs of places in which j is before i.
unfoldable pub ahead : ℕ → ℕ → List ℕ → ℕ
ahead j i [] = 0
ahead j i (x ∷ xs) = (if x == j then 1 else 0) * on xs i + ahead j i xs

pub on-nil : (y : ℕ) → on [] y ≡ 0
unfolding on
on-nil y = refl

pub on-cons : (x y : ℕ) (xs : List ℕ) → on (x ∷ xs) y ≡ (if x == y then 1 else 0) + on xs y
unfolding on
on-cons x y xs = refl

pub on-cons_same : (y : ℕ) (ys : List ℕ) → on (y ∷ ys) y ≡ 1 + on ys y
unfolding on
on-cons_same y ys = rw (eq-eqb y y refl) refl

pub on-cons_other : (y z : ℕ) (ys : List ℕ) → (y ≡ z → ⊥) → on (y ∷ ys) z ≡ on ys z
unfolding on
on-cons_other y z ys other = rw (ne_eqb y z other) (omega arith)

pub on-append : (xs ys : List ℕ) (z : ℕ) → on (xs ++ ys) z ≡ on xs z + on ys z
unfolding on
on-append [] ys z = omega arith
on-append (x ∷ xs) ys z = omega (arith, on-append xs ys z)

-- The head of a list, counted separately.
pub on-first : (x y : ℕ) (xs : List ℕ) → on (x ∷ xs) y ≡ on (x ∷ []) y + on xs y
unfolding on
on-first x y xs = omega arith

-- Moving the head of a list to its end does not change how often a number occurs.
pub on-rotated : (xs : List ℕ) (x y : ℕ) → on (xs ++ x ∷ []) y ≡ on (x ∷ xs) y
on-rotated xs x y = omega (arith, on-append xs (x ∷ []) y, on-first x y xs)

pub ahead-append : (j i : ℕ) (xs ys : List ℕ) →
    ahead j i (xs ++ ys) ≡ ahead j i xs + on xs j * on ys i + ahead j i ys
unfolding on ahead
ahead-append j i [] ys = omega arith
ahead-append j i (x ∷ xs) ys = step (if x == j then 1 else 0) (on xs i) (on ys i) (on xs j) (ahead j i xs)
    (ahead j i ys) _ _ (on-append xs ys i) (ahead-append j i xs ys)
  where
    step : (b p q r c d u v : ℕ) → u ≡ p + q → v ≡ c + r * q + d → b * u + v ≡ (b * p + c) + (b + r) * q + d
    step b p q r c d u v e f = rw (e, f) (omega arith)

pub ahead-none : (j i : ℕ) (xs : List ℕ) → on xs i ≡ 0 → ahead j i xs ≡ 0
unfolding on ahead
ahead-none j i [] h = refl
ahead-none j i (x ∷ xs) h =
    let none : on xs i ≡ 0 = omega arith in
    let rest : ahead j i xs ≡ 0 = ahead-none j i xs none in
    rw (none, rest) (omega arith)

pub on-filter : (p : ℕ → Bool) (xs : List ℕ) (y : ℕ) → p y ≡ true → on (filter p xs) y ≡ on xs y
unfolding on
on-filter p [] y h = refl
on-filter p (x ∷ xs) y h = elim (cases_Bool (p x)) [
  | inl ht ↦ rw ht (ap (λ (n : ℕ). (if x == y then 1 else 0) + n) (on-filter p xs y h))
  | inr hf ↦
      let other : (x ≡ y → ⊥) = λ e. absurd (cc (ap p e)) in
      rw (hf, ne_eqb x y other) (omega (arith, on-filter p xs y h))
]

pub on-filter_out : (p : ℕ → Bool) (xs : List ℕ) (y : ℕ) → p y ≡ false → on (filter p xs) y ≡ 0
unfolding on
on-filter_out p [] y h = refl
on-filter_out p (x ∷ xs) y h = elim (cases_Bool (p x)) [
  | inl ht ↦
      let other : (x ≡ y → ⊥) = λ e. absurd (cc (ap p e)) in
      rw (ht, ne_eqb x y other) (omega (arith, on-filter_out p xs y h))
  | inr hf ↦ rw hf (on-filter_out p xs y h)
]

pub on-filter_le : (p : ℕ → Bool) (xs : List ℕ) (y : ℕ) → on (filter p xs) y ≤ on xs y
on-filter_le p xs y = elim (cases_Bool (p y)) [
  | inl ht ↦ omega (arith, on-filter p xs y ht)
  | inr hf ↦ omega (arith, on-filter_out p xs y hf)
]

pub ahead-filter : (p : ℕ → Bool) (j i : ℕ) (xs : List ℕ) → p j ≡ true → p i ≡ true →
    ahead j i (filter p xs) ≡ ahead j i xs
unfolding ahead
ahead-filter p j i [] h k = refl
ahead-filter p j i (x ∷ xs) h k = elim (cases_Bool (p x)) [
  | inl ht ↦ rw (ht, on-filter p xs i k, ahead-filter p j i xs h k) refl
  | inr hf ↦
      let other : (x ≡ j → ⊥) = λ e. absurd (cc (ap p e)) in
      rw (hf, ne_eqb x j other, ahead-filter p j i xs h k) (omega arith)
]

-- ---- counts and `has`

pub has-on : (xs : List ℕ) (y : ℕ) → has xs y ≡ true → 0 < on xs y
unfolding on
has-on [] y h = absurd (cc h)
has-on (x ∷ xs) y h = elim (cases_Bool (x == y)) [
  | inl ht ↦ rw ht (omega arith)
  | inr hf ↦ omega (arith, has-on xs y (rw hf at h))
]

pub hasnot-on : (xs : List ℕ) (y : ℕ) → has xs y ≡ false → on xs y ≡ 0
unfolding on
hasnot-on [] y h = refl
hasnot-on (x ∷ xs) y h =
    let both : ((x == y) ≡ false) × (has xs y ≡ false) = or_parts (x == y) (has xs y) h in
    rw both.0 (omega (arith, hasnot-on xs y both.1))

pub on-has : (xs : List ℕ) (y : ℕ) → 0 < on xs y → has xs y ≡ true
on-has xs y h = elim (cases_Bool (has xs y)) [
  | inl ht ↦ ht
  | inr hf ↦ absurd (omega (arith, hasnot-on xs y hf))
]

pub on-hasnot : (xs : List ℕ) (y : ℕ) → on xs y ≡ 0 → has xs y ≡ false
on-hasnot xs y h = elim (cases_Bool (has xs y)) [
  | inl ht ↦ absurd (omega (arith, has-on xs y ht))
  | inr hf ↦ hf
]

-- ---- the lists of a rotation

pub listed-none : (r : Rotation) (k : ℕ) → on (in_order r) k ≡ 0 → has_key r k ≡ false
listed-none r k none = rw (
  on-hasnot r.new k (omega (arith, on-append r.old r.new k)),
  on-hasnot r.old k (omega (arith, on-append r.old r.new k)),
) refl

pub listed-some : (r : Rotation) (k : ℕ) → 0 < on (in_order r) k → has_key r k ≡ true
listed-some r k some = elim (cases_lt 0 (on r.new k)) [
  | inl new ↦ rw (on-has r.new k new) refl
  | inr none ↦ rw (on-hasnot r.new k (omega arith), on-has r.old k (omega (arith, on-append r.old r.new k)))
      refl
]

pub on_order-none : (r : Rotation) (k : ℕ) → has_key r k ≡ false → on (in_order r) k ≡ 0
on_order-none r k none = elim (cases_lt 0 (on (in_order r) k)) [
  | inl some ↦ absurd (cc (none, listed-some r k some))
  | inr less ↦ omega arith
]

-- ---- a list that is split at a key

pub before_from : (v : ℕ) (xs : List ℕ) → keys_before v xs ++ keys_from v xs ≡ xs
before_from v [] = refl
before_from v (x ∷ xs) = elim (cases_Bool (x == v)) [
  | inl ht ↦ rw ht refl
  | inr hf ↦ rw hf (ap (λ (t : List ℕ). x ∷ t) (before_from v xs))
]

pub on-before_self : (v : ℕ) (xs : List ℕ) → on (keys_before v xs) v ≡ 0
unfolding on
on-before_self v [] = refl
on-before_self v (x ∷ xs) = elim (cases_Bool (x == v)) [
  | inl ht ↦ rw ht refl
  | inr hf ↦ rw (hf, hf) (omega (arith, on-before_self v xs))
]

pub on-split : (v : ℕ) (xs : List ℕ) (y : ℕ) → on (keys_before v xs) y + on (keys_from v xs) y ≡ on xs y
on-split v xs y = sym (on-append (keys_before v xs) (keys_from v xs) y)
    ∙ ap (λ (t : List ℕ). on t y) (before_from v xs)
