-- Proves that a list has no repeats exactly if each key occurs at most once, and counts how often a key
-- occurs in the lists of a rotation.
use Rattle.std.proofs.Common.{◌≡◌, refl, subst, arith, ℕ, ◌+◌, ◌<◌, ◌≤◌, Bool, true, false, ◌||◌, List, [], ◌∷◌, ◌++◌, not, ◌==◌, eq-eqb, inl, inr}
use Rattle.std.proofs.lemmas.Bool.{cases_eq, or_parts, cases_Bool, not_from_true}
use Rattle.wf_def_lists.specs.Table.{has}
use Rattle.wf_def_rotation.specs.Rotation.{Rotation, has_key, in_order, with_key_listed, without_key}
use Rattle.wf_def_lists.specs.Lists.{IsOnce, on}
use Rattle.wf_law_rules.proofs.Lemmas.Counts.{on-nil, on-cons_same, on-cons_other, on-append, on-filter_le, on-filter_out, has-on, hasnot-on, on-hasnot}

pub once_on : (xs : List ℕ) (y : ℕ) → IsOnce xs → on xs y ≤ 1
once_on [] y h = omega (arith, on-nil y)
once_on (x ∷ xs) y h = elim (cases_eq x y) [
  | inl e ↦ subst (λ (z : ℕ). on (x ∷ xs) z ≤ 1) e (omega (arith, on-cons_same x xs, hasnot-on xs x h.0))
  | inr other ↦ omega (arith, on-cons_other x y xs other, once_on xs y h.1)
]

fewer : (x : ℕ) (xs : List ℕ) (y : ℕ) → on xs y ≤ on (x ∷ xs) y
fewer x xs y = elim (cases_eq x y) [
  | inl e ↦ subst (λ (z : ℕ). on xs z ≤ on (x ∷ xs) z) e (omega (arith, on-cons_same x xs))
  | inr other ↦ omega (arith, on-cons_other x y xs other)
]

pub on_once : (xs : List ℕ) → ((y : ℕ) → on xs y ≤ 1) → IsOnce xs
on_once [] h = tt
on_once (x ∷ xs) h = (
  on-hasnot xs x (omega (arith, h x, on-cons_same x xs)),
  on_once xs (λ y. omega (arith, h y, fewer x xs y)),
)

-- ---- the two lists of a rotation

pub in_order-on : (r : Rotation) (y : ℕ) → on (in_order r) y ≡ on r.old y + on r.new y
in_order-on r y = on-append r.old r.new y

pub unlisted-on : (r : Rotation) (y : ℕ) → has_key r y ≡ false → on (in_order r) y ≡ 0
unlisted-on r y h =
    let both : (has r.new y ≡ false) × (has r.old y ≡ false) = or_parts _ _ h in
    omega (arith, in_order-on r y, hasnot-on r.new y both.0, hasnot-on r.old y both.1)

or_right : (a b : Bool) → b ≡ true → (a || b) ≡ true
or_right true b h = refl
or_right false b h = h

pub listed-on : (r : Rotation) (y : ℕ) → has_key r y ≡ true → 0 < on (in_order r) y
listed-on r y h = elim (cases_Bool (has r.new y)) [
  | inl here ↦ omega (arith, in_order-on r y, has-on r.new y here)
  | inr off ↦ omega (
    arith,
    in_order-on r y,
    has-on r.old y
        (subst (λ (b : Bool). (b || has r.old y) ≡ true) off h),
  )
]

pub on-listed : (r : Rotation) (y : ℕ) → 0 < on (in_order r) y → has_key r y ≡ true
on-listed r y h = elim (cases_Bool (has_key r y)) [
  | inl here ↦ here
  | inr off ↦ absurd (omega (arith, unlisted-on r y off))
]

pub added-on_other : (ready : Bool) (r : Rotation) (s y : ℕ) → (s ≡ y → ⊥) →
    on (in_order (with_key_listed ready r s)) y ≡ on (in_order r) y
added-on_other true r s y other = omega (
  arith,
  on-append r.old (r.new ++ s ∷ []) y,
  on-append r.new (s ∷ []) y,
  in_order-on r y,
  on-cons_other s y [] other,
  on-nil y,
)
added-on_other false r s y other = omega (
  arith,
  on-append (r.old ++ s ∷ []) r.new y,
  on-append r.old (s ∷ []) y,
  in_order-on r y,
  on-cons_other s y [] other,
  on-nil y,
)

pub added-on_same : (ready : Bool) (r : Rotation) (s : ℕ) →
    on (in_order (with_key_listed ready r s)) s ≡ on (in_order r) s + 1
added-on_same true r s = omega (
  arith,
  on-append r.old (r.new ++ s ∷ []) s,
  on-append r.new (s ∷ []) s,
  in_order-on r s,
  on-cons_same s [],
  on-nil s,
)
added-on_same false r s = omega (
  arith,
  on-append (r.old ++ s ∷ []) r.new s,
  on-append r.old (s ∷ []) s,
  in_order-on r s,
  on-cons_same s [],
  on-nil s,
)

pub without-on : (r : Rotation) (s y : ℕ) → on (in_order (without_key r s)) y ≤ on (in_order r) y
without-on r s y = omega (
  arith,
  in_order-on (without_key r s) y,
  in_order-on r y,
  on-filter_le (λ z. not (z == s)) r.old y,
  on-filter_le (λ z. not (z == s)) r.new y,
)

pub without-on_self : (r : Rotation) (s : ℕ) → on (in_order (without_key r s)) s ≡ 0
without-on_self r s =
    let gone : not (s == s) ≡ false = not_from_true _ (eq-eqb s s refl) in
    omega (
      arith,
      in_order-on (without_key r s) s,
      on-filter_out (λ z. not (z == s)) r.old s gone,
      on-filter_out (λ z. not (z == s)) r.new s gone,
    )
