-- Proves properties of rising lists of numbers as sets: adding a member, filtering, and the numbers of a
-- range.
use Rattle.std.proofs.Common.{◌≡◌, ℕ, zero, suc, ◌+◌, ◌-◌, ◌<◌, ◌≤◌, ◌==◌, nat_lt, nat_le, Bool, true, false, cond, ◌&&◌, ◌||◌, List, [], ◌∷◌, map, filter, refl, sym, ◌∙◌, ap, subst, inl, inr, arith}
use Rattle.std.proofs.lemmas.Bool.{cases_eq, cases_lt, or_left, or_right, eq-eqb, ne_eqb, eqb-true, le-leb, lt-leb, lt-ltb, le-ltb, both_ways}
use Rattle.wf_def_lists.specs.Table.{has, with_member, count_from}
use Rattle.wf_octets.specs.Offsets.{RisesBetween, moved_down}
use Rattle.wf_octets.proofs.Sets.{has_from, has_not_below, has_not_above, rises_wider, same_members, has-with_member, rises-with_member}

-- ---- one more member

pub has-with : (n : ℕ) (xs : List ℕ) (k : ℕ) → has (with_member n xs) k ≡ ((n == k) || has xs k)
has-with n xs k = has-with_member n xs k

pub has_new : (n : ℕ) (xs : List ℕ) → has (with_member n xs) n ≡ true
has_new n xs = has-with n xs n ∙ or_left (n == n) (has xs n) (eq-eqb n n refl)

pub has_old : (n : ℕ) (xs : List ℕ) (k : ℕ) → has xs k ≡ true → has (with_member n xs) k ≡ true
has_old n xs k h = has-with n xs k ∙ or_right (n == k) (has xs k) h

pub has_other : (n : ℕ) (xs : List ℕ) (k : ℕ) → (n ≡ k → ⊥) → has (with_member n xs) k ≡ has xs k
has_other n xs k h = has-with n xs k ∙ ap (λ (b : Bool). b || has xs k) (ne_eqb n k h)

pub rises-with : (end n : ℕ) (xs : List ℕ) → n < end → RisesBetween 0 end xs →
    RisesBetween 0 end (with_member n xs)
rises-with end n xs high r = rises-with_member 0 end n xs (omega arith) high r

-- adding a number that is already a member changes nothing
pub with_known : (end n : ℕ) (xs : List ℕ) → RisesBetween 0 end xs → has xs n ≡ true → with_member n xs ≡ xs
with_known end n xs r h =
    let below : (0 ≤ n) × (n < end) = has_from 0 end xs n r h in
    same_members 0 0 end end (with_member n xs) xs (rises-with end n xs below.1 r) r
    (λ k. has-with n xs k ∙ known k)
  where
    known : (k : ℕ) → ((n == k) || has xs k) ≡ has xs k
    known k = elim (cases_eq n k) [
      | inl same ↦ or_left (n == k) (has xs k) (eq-eqb n k same)
          ∙ sym (subst (λ (i : ℕ). has xs i ≡ true) same h)
      | inr other ↦ ap (λ (b : Bool). b || has xs k) (ne_eqb n k other)
    ]

-- ---- the members that pass a test

pub has-filter : (p : ℕ → Bool) (xs : List ℕ) (n : ℕ) → has (filter p xs) n ≡ (p n && has xs n)
has-filter p [] n = none (p n)
  where
    none : (b : Bool) → false ≡ (b && false)
    none true = refl
    none false = refl
has-filter p (x ∷ xs) n = first (p x) refl (has-filter p xs n)
  where
    missed : (b a c : Bool) → (a ≡ true → b ≡ false) → (b && c) ≡ (b && (a || c))
    missed b true c h = ap (λ (t : Bool). t && c) (h refl) ∙ sym (ap (λ (t : Bool). t && true) (h refl))
    missed b false c h = refl

    passed : (b a c : Bool) → (a ≡ true → b ≡ true) → (a || (b && c)) ≡ (b && (a || c))
    passed b true c h = sym (ap (λ (t : Bool). t && true) (h refl))
    passed b false c h = refl

    first : (b : Bool) → p x ≡ b → has (filter p xs) n ≡ (p n && has xs n) →
        has (cond b (x ∷ filter p xs) (filter p xs)) n ≡ (p n && ((x == n) || has xs n))
    first true e h = ap (λ (c : Bool). (x == n) || c) h
        ∙ passed (p n) (x == n) (has xs n) (λ q. ap p (sym (eqb-true x n q)) ∙ e)
    first false e h = h ∙ missed (p n) (x == n) (has xs n) (λ q. ap p (sym (eqb-true x n q)) ∙ e)

pub rises-filter : (p : ℕ → Bool) (from end : ℕ) (xs : List ℕ) → RisesBetween from end xs →
    RisesBetween from end (filter p xs)
rises-filter p from end [] r = tt
rises-filter p from end (x ∷ xs) r = first (p x) (rises-filter p (suc x) end xs r.2)
  where
    first : (b : Bool) → RisesBetween (suc x) end (filter p xs) →
        RisesBetween from end (cond b (x ∷ filter p xs) (filter p xs))
    first true h = (r.0, r.1, h)
    first false h = let low : from ≤ x = r.0 in rises_wider (suc x) end from end (filter p xs) (omega arith)
        (omega arith) h

-- ---- a range of numbers

pub rises-count : (from n : ℕ) → RisesBetween from (from + n) (count_from from n)
rises-count from zero = tt
rises-count from (suc n) = (
  omega arith,
  omega arith,
  rises_wider (suc from) (suc from + n) (suc from) (from + suc n) (count_from (suc from) n) (omega arith)
      (omega arith) (rises-count (suc from) n),
)

pub has-count : (from n k : ℕ) → has (count_from from n) k ≡ (nat_le from k && nat_lt k (from + n))
has-count from n k = elim (cases_lt k from) [
  | inl below ↦ has_not_below from (from + n) (count_from from n) k (rises-count from n) below
      ∙ sym (ap (λ (b : Bool). b && nat_lt k (from + n)) (lt-leb from k below))
  | inr at ↦ elim (cases_lt k (from + n)) [
    | inl inside ↦ there from n at inside ∙ sym (ap (λ (b : Bool). b && nat_lt k (from + n))
        (le-leb from k at) ∙ lt-ltb k (from + n) inside)
    | inr past ↦ has_not_above from (from + n) (count_from from n) k (rises-count from n) past
        ∙ sym (ap (λ (b : Bool). b && nat_lt k (from + n)) (le-leb from k at) ∙ le-ltb k (from + n) past)
  ]
]
  where
    there : (from n : ℕ) → from ≤ k → k < from + n → has (count_from from n) k ≡ true
    there from zero low high = absurd (omega arith)
    there from (suc n) low high = elim (cases_eq from k) [
      | inl here ↦ or_left (from == k) (has (count_from (suc from) n) k) (eq-eqb from k here)
      | inr later ↦ or_right (from == k) (has (count_from (suc from) n) k)
          (there (suc from) n (omega arith) (omega arith))
    ]

-- the members in a range, in order
pub stretch_of : (end from n : ℕ) (xs : List ℕ) → RisesBetween 0 end xs →
    filter (has xs) (count_from from n) ≡ filter (λ k. nat_le from k && nat_lt k (from + n)) xs
stretch_of end from n xs r =
    let inside : ℕ → Bool = λ k. nat_le from k && nat_lt k (from + n) in
    same_members from 0 (from + n) end (filter (has xs) (count_from from n)) (filter inside xs)
    (rises-filter (has xs) from (from + n) (count_from from n) (rises-count from n))
    (rises-filter inside 0 end xs r)
    (λ k. has-filter (has xs) (count_from from n) k ∙ ap (λ (b : Bool). has xs k && b) (has-count from n k)
    ∙ turned (has xs k) (inside k) ∙ sym (has-filter inside xs k))
  where
    turned : (a b : Bool) → (a && b) ≡ (b && a)
    turned true true = refl
    turned true false = refl
    turned false true = refl
    turned false false = refl

-- if no member is past the end, the members from s on are those from s to the end
pub down_from : (from s end : ℕ) (xs : List ℕ) → RisesBetween from end xs →
    map (λ n. n - s) (filter (λ n. nat_le s n && nat_lt n end) xs) ≡ moved_down s xs
down_from from s end [] r = refl
down_from from s end (x ∷ xs) r = first (nat_le s x) (nat_lt x end) (lt-ltb x end r.1)
    (down_from (suc x) s end xs r.2)
  where
    first : (a b : Bool) → b ≡ true → map (λ n. n - s) (filter (λ n. nat_le s n && nat_lt n end) xs)
        ≡ moved_down s xs
        → map (λ n. n - s) (cond (a && b) (x ∷ filter (λ n. nat_le s n && nat_lt n end) xs)
        (filter (λ n. nat_le s n && nat_lt n end) xs))
        ≡ map (λ n. n - s) (cond a (x ∷ filter (λ n. nat_le s n) xs) (filter (λ n. nat_le s n) xs))
    first true true e h = ap (λ (ys : List ℕ). (x - s) ∷ ys) h
    first false true e h = h
    first a false e h = absurd (both_ways false refl e)
