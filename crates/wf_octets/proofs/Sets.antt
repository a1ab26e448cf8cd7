-- Proves laws of sets of offsets as rising lists: sets with the same offsets are the same list, and the
-- members after each change.
use Rattle.std.proofs.Common.{◌≡◌, ℕ, ◌+◌, ◌-◌, ◌<◌, ◌≤◌, ◌==◌, nat_lt, nat_le, zero, suc, Bool, true, false, cond, ◌||◌, List, [], ◌∷◌, map, filter, refl, sym, ◌∙◌, ap, inl, inr, arith}
use Rattle.std.proofs.lemmas.Bool.{cases_Bool, cases_eq, cases_lt, or_cases, or_left, or_from, eq-eqb, ne_eqb, eqb-true, le-leb, lt-leb, lt-ltb, le-ltb, both_ways, false_from_ne_true, cond-true, cond-false}
use Rattle.std.specs.List.{range_with_len}
use Rattle.wf_def_lists.specs.Table.{has, with_member}
use Rattle.wf_octets.specs.Offsets.{RisesBetween, moved_down}

pub has_from : (from end : ℕ) (xs : List ℕ) (i : ℕ) → RisesBetween from end xs → has xs i ≡ true →
    (from ≤ i) × (i < end)
has_from from end [] i r h = absurd (both_ways false refl h)
has_from from end (x ∷ xs) i r h = elim (or_cases (x == i) (has xs i) h) [
  | inl e ↦ (let same : x ≡ i = eqb-true x i e in let low : from ≤ x = r.0 in let high : x < end = r.1 in
      (omega arith, omega arith))
  | inr e ↦ (let later : (suc x ≤ i) × (i < end) = has_from (suc x) end xs i r.2 e in
      let low : from ≤ x = r.0 in (omega (arith, later.0), later.1))
]

pub has_not_below : (from end : ℕ) (xs : List ℕ) (i : ℕ) → RisesBetween from end xs → i < from →
    has xs i ≡ false
has_not_below from end xs i r low = false_from_ne_true (has xs i)
    (λ h. let b : (from ≤ i) × (i < end) = has_from from end xs i r h in omega (arith, b.0))

pub has_not_above : (from end : ℕ) (xs : List ℕ) (i : ℕ) → RisesBetween from end xs → end ≤ i →
    has xs i ≡ false
has_not_above from end xs i r high = false_from_ne_true (has xs i)
    (λ h. let b : (from ≤ i) × (i < end) = has_from from end xs i r h in omega (arith, b.1))

pub rises_wider : (from end low high : ℕ) (xs : List ℕ) → low ≤ from → end ≤ high → RisesBetween from end xs →
    RisesBetween low high xs
rises_wider from end low high [] p q r = tt
rises_wider from end low high (x ∷ xs) p q r =
    let first : from ≤ x = r.0 in let last : x < end = r.1 in
    (omega arith, omega arith, rises_wider (suc x) end (suc x) high xs (omega arith) q r.2)

-- membership of the first member and of later ones
has_first : (x : ℕ) (xs : List ℕ) → has (x ∷ xs) x ≡ true
has_first x xs = or_left (x == x) (has xs x) (eq-eqb x x refl)

pub has_later : (x : ℕ) (xs : List ℕ) (i : ℕ) → (x ≡ i → ⊥) → has (x ∷ xs) i ≡ has xs i
has_later x xs i other = ap (λ b. b || has xs i) (ne_eqb x i other)

first_not_less : (x y : ℕ) (xs ys : List ℕ) (e : ℕ) → RisesBetween (suc y) e ys →
    ((i : ℕ) → has (x ∷ xs) i ≡ has (y ∷ ys) i) → y ≤ x
first_not_less x y xs ys e r same = elim (cases_lt x y) [
  | inl less ↦
      let there : has (y ∷ ys) x ≡ true = sym (same x) ∙ has_first x xs in
      let not_here : has (y ∷ ys) x ≡ false = or_from (y == x) (has ys x) (ne_eqb y x (λ q. omega arith))
      (has_not_below (suc y) e ys x r (omega arith)) in
      absurd (both_ways (has (y ∷ ys) x) not_here there)
  | inr more ↦ more
]

-- two sets with the same offsets are the same list
pub same_members : (a b c d : ℕ) (xs ys : List ℕ) → RisesBetween a c xs → RisesBetween b d ys →
    ((i : ℕ) → has xs i ≡ has ys i) → xs ≡ ys
same_members a b c d [] [] p q same = refl
same_members a b c d [] (y ∷ ys) p q same = absurd (both_ways false refl (same y ∙ has_first y ys))
same_members a b c d (x ∷ xs) [] p q same = absurd (both_ways false refl (sym (same x) ∙ has_first x xs))
same_members a b c d (x ∷ xs) (y ∷ ys) p q same =
    ap (λ h. h ∷ xs) heads ∙ ap (λ t. y ∷ t) (same_members (suc x) (suc y) c d xs ys p.2 q.2 tails)
  where
    heads : x ≡ y
    heads =
        let up : y ≤ x = first_not_less x y xs ys d q.2 same in
        let down : x ≤ y = first_not_less y x ys xs c p.2 (λ i. sym (same i)) in
        omega arith

    tails : (i : ℕ) → has xs i ≡ has ys i
    tails i = elim (cases_lt x i) [
      | inl past ↦ sym (has_later x xs i (λ e. omega arith)) ∙ same i
          ∙ has_later y ys i (λ e. omega (arith, heads))
      | inr at ↦ has_not_below (suc x) c xs i p.2 (omega arith)
          ∙ sym (has_not_below (suc y) d ys i q.2 (omega (arith, heads)))
    ]

-- ---- with_member
pub has-with_member : (i : ℕ) (xs : List ℕ) (j : ℕ) → has (with_member i xs) j ≡ ((i == j) || has xs j)
has-with_member i [] j = refl
has-with_member i (x ∷ xs) j = elim (cases_Bool (nat_lt i x)) [
  | inl before ↦ ap (λ ys. has ys j) (cond-true (nat_lt i x) (i ∷ x ∷ xs) rest before)
  | inr after ↦ ap (λ ys. has ys j) (cond-false (nat_lt i x) (i ∷ x ∷ xs) rest after)
      ∙ elim (cases_Bool (x == i)) [
        | inl here ↦ ap (λ ys. has ys j) (cond-true (x == i) (x ∷ xs) (x ∷ with_member i xs) here)
            ∙ known (eqb-true x i here)
        | inr past ↦ ap (λ ys. has ys j) (cond-false (x == i) (x ∷ xs) (x ∷ with_member i xs) past)
            ∙ ap (λ b. (x == j) || b) (has-with_member i xs j) ∙ turned (x == j) (i == j) (has xs j)
      ]
]
  where
    rest : List ℕ
    rest = cond (x == i) (x ∷ xs) (x ∷ with_member i xs)

    turned : (a b c : Bool) → (a || (b || c)) ≡ (b || (a || c))
    turned true true c = refl
    turned true false c = refl
    turned false true c = refl
    turned false false c = refl

    twice : (a c : Bool) → (a || c) ≡ (a || (a || c))
    twice true c = refl
    twice false c = refl

    known : x ≡ i → ((x == j) || has xs j) ≡ ((i == j) || ((x == j) || has xs j))
    known e = twice (x == j) (has xs j) ∙ ap (λ k. (k == j) || ((x == j) || has xs j)) e

pub rises-with_member : (from end i : ℕ) (xs : List ℕ) → from ≤ i → i < end → RisesBetween from end xs →
    RisesBetween from end (with_member i xs)
rises-with_member from end i [] low high r = (low, high, tt)
rises-with_member from end i (x ∷ xs) low high r = elim (cases_lt i x) [
  | inl before ↦ rw (lt-ltb i x before) (low, high, (omega arith, r.1, r.2))
  | inr after ↦ rw (le-ltb i x after) (elim (cases_eq x i) [
    | inl here ↦ rw (eq-eqb x i here) r
    | inr past ↦ rw (ne_eqb x i past) (r.0, r.1, rises-with_member (suc x) end i xs (omega arith) high r.2)
  ])
]

-- ---- moved_down
pub has-moved_down : (n : ℕ) (xs : List ℕ) (j : ℕ) → has (moved_down n xs) j ≡ has xs (j + n)
has-moved_down n [] j = refl
has-moved_down n (x ∷ xs) j = elim (cases_lt x n) [
  | inl gone ↦ ap (λ b. has (map (λ i. i - n) (cond b (x ∷ filter (λ i. nat_le n i) xs)
      (filter (λ i. nat_le n i) xs))) j) (lt-leb n x gone) ∙ has-moved_down n xs j
      ∙ sym (has_later x xs (j + n) (λ e. omega arith))
  | inr stays ↦ ap (λ b. has (map (λ i. i - n) (cond b (x ∷ filter (λ i. nat_le n i) xs)
      (filter (λ i. nat_le n i) xs))) j) (le-leb n x stays)
      ∙ ap (λ b. b || has (moved_down n xs) j) (places stays)
      ∙ ap (λ b. (x == j + n) || b) (has-moved_down n xs j)
]
  where
    places : n ≤ x → (x - n == j) ≡ (x == j + n)
    places stays = elim (cases_eq x (j + n)) [
      | inl e ↦ eq-eqb (x - n) j (omega arith) ∙ sym (eq-eqb x (j + n) e)
      | inr o ↦ ne_eqb (x - n) j (λ q. o (omega arith)) ∙ sym (ne_eqb x (j + n) o)
    ]

pub rises-moved_down : (from end n : ℕ) (xs : List ℕ) → RisesBetween from end xs →
    RisesBetween (from - n) (end - n) (moved_down n xs)
rises-moved_down from end n [] r = tt
rises-moved_down from end n (x ∷ xs) r = elim (cases_lt x n) [
  | inl gone ↦ rw (lt-leb n x gone) (let low : from ≤ x = r.0 in
      rises_wider (suc x - n) (end - n) (from - n) (end - n) (moved_down n xs) (omega arith)
      (le_refl_of (end - n)) (rises-moved_down (suc x) end n xs r.2))
  | inr stays ↦ rw (le-leb n x stays) (let low : from ≤ x = r.0 in let high : x < end = r.1 in (
    omega arith,
    omega arith,
    rises_wider (suc x - n) (end - n) (suc (x - n)) (end - n) (moved_down n xs)
        (omega arith) (le_refl_of (end - n)) (rises-moved_down (suc x) end n xs r.2),
  ))
]
  where
    le_refl_of : (k : ℕ) → k ≤ k
    le_refl_of k = omega arith

-- ---- the numbers of a range that pass a test
pub rises-filter_range : (p : ℕ → Bool) (from n : ℕ) →
    RisesBetween from (from + n) (filter p (range_with_len from n))
rises-filter_range p from zero = tt
rises-filter_range p from (suc n) = cases (rises-filter_range p (from + 1) n) (p from)
  where
    rest : List ℕ
    rest = filter p (range_with_len (from + 1) n)

    cases : RisesBetween (from + 1) (from + 1 + n) rest → (b : Bool) →
        RisesBetween from (from + suc n) (cond b (from ∷ rest) rest)
    cases r true = (
      omega arith,
      omega arith,
      rises_wider (from + 1) (from + 1 + n) (suc from)
          (from + suc n) rest (omega arith) (omega arith) r,
    )
    cases r false = rises_wider (from + 1) (from + 1 + n) from (from + suc n) rest (omega arith)
        (omega arith) r

pub has-filter_range : (p : ℕ → Bool) (from n i : ℕ) → from ≤ i → i < from + n →
    has (filter p (range_with_len from n)) i ≡ p i
has-filter_range p from zero i low high = absurd (omega arith)
has-filter_range p from (suc n) i low high = elim (cases_eq from i) [
  | inl here ↦ first (p from) here ∙ ap p here
  | inr past ↦ later (p from) past ∙ has-filter_range p (from + 1) n i (omega arith) (omega arith)
]
  where
    rest : List ℕ
    rest = filter p (range_with_len (from + 1) n)

    first : (b : Bool) → from ≡ i → has (cond b (from ∷ rest) rest) i ≡ b
    first true e = or_left (from == i) (has rest i) (eq-eqb from i e)
    first false e = has_not_below (from + 1) (from + 1 + n) rest i (rises-filter_range p (from + 1) n)
        (omega arith)

    later : (b : Bool) → (from ≡ i → ⊥) → has (cond b (from ∷ rest) rest) i ≡ has rest i
    later true other = has_later from rest i other
    later false other = refl
