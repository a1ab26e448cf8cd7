-- Proves how the receiver's two starts change: the least missing number, and the start of the scoreboard. By
-- induction over the numbers that arrived.
use Rattle.std.proofs.Common.{◌≡◌, ℕ, suc, ◌+◌, ◌-◌, ◌<◌, ◌≤◌, ◌==◌, max, nat_lt, Bool, true, false, cond, ◌||◌, List, [], ◌∷◌, map, refl, sym, ◌∙◌, ap, inl, inr, arith}
use Rattle.std.proofs.lemmas.Bool.{cases_eq, cases_lt, or_left, or_right, eq-eqb, ne_eqb, eqb-true, both_ways}
use Rattle.wf_def_lists.specs.Table.{has, with_member}
use Rattle.wf_def_agreement.specs.Receiver.{Receiver, with_arrived, with_start, greatest, first_missing, release_start, score_start}
use Rattle.wf_octets.specs.Offsets.{RisesBetween}
use Rattle.wf_octets.proofs.Sets.{has_from, has_not_below, has_not_above, has_later, rises_wider}
use Rattle.wf_recv_peer_refines.specs.Half.{IsOrderly, IsInReach}
use Rattle.wf_recv_peer_refines.proofs.Rising.{has_old, rises-with}

-- ---- the greatest

pub greatest_least : (n : ℕ) (xs : List ℕ) → n ≤ greatest n xs
greatest_least n [] = omega arith
greatest_least n (x ∷ xs) = omega (arith, greatest_least n xs)

-- starting from a greater number
pub greatest_max : (f n : ℕ) (xs : List ℕ) → greatest (max f n) xs ≡ max f (greatest n xs)
greatest_max f n [] = refl
greatest_max f n (x ∷ xs) = ap (λ (k : ℕ). max x k) (greatest_max f n xs) ∙ omega arith

pub greatest_with : (f n : ℕ) (xs : List ℕ) → greatest n (with_member f xs) ≡ max f (greatest n xs)
greatest_with f n [] = refl
greatest_with f n (x ∷ xs) = step (nat_lt f x) (x == f) (λ e. eqb-true x f e) (greatest_with f n xs)
  where
    step : (a b : Bool) → (b ≡ true → x ≡ f) → greatest n (with_member f xs) ≡ max f (greatest n xs)
        → greatest n (cond a (f ∷ x ∷ xs) (cond b (x ∷ xs) (x ∷ with_member f xs)))
        ≡ max f (max x (greatest n xs))
    step true b e h = refl
    step false true e h = let same : x ≡ f = e refl in omega arith
    step false false e h = ap (λ (k : ℕ). max x k) h ∙ omega arith

-- the start of a scoreboard when a number arrives
pub score_with : (n g w : ℕ) (xs : List ℕ) →
    greatest g (map (λ k. suc k - w) (with_member n xs))
    ≡ max (suc n - w) (greatest g (map (λ k. suc k - w) xs))
score_with n g w [] = refl
score_with n g w (x ∷ xs) = step (nat_lt n x) (x == n) (λ e. eqb-true x n e) (score_with n g w xs)
  where
    step : (a b : Bool) → (b ≡ true → x ≡ n) →
        greatest g (map (λ k. suc k - w) (with_member n xs))
        ≡ max (suc n - w) (greatest g (map (λ k. suc k - w) xs))
        → greatest g (map (λ k. suc k - w) (cond a (n ∷ x ∷ xs) (cond b (x ∷ xs) (x ∷ with_member n xs))))
        ≡ max (suc n - w) (max (suc x - w) (greatest g (map (λ k. suc k - w) xs)))
    step true b e h = refl
    step false true e h = let same : x ≡ n = e refl in omega arith
    step false false e h = ap (λ (k : ℕ). max (suc x - w) k) h ∙ omega arith

-- ---- the least missing number

pub missing_least : (n : ℕ) (xs : List ℕ) → n ≤ first_missing n xs
missing_least n [] = omega arith
missing_least n (x ∷ xs) = step (x == n) (missing_least (suc n) xs) (missing_least n xs)
  where
    step : (b : Bool) → suc n ≤ first_missing (suc n) xs → n ≤ first_missing n xs →
        n ≤ first_missing (cond b (suc n) n) xs
    step true h k = omega (arith, h)
    step false h k = k

-- each number below it is in the list
pub missing_below : (n : ℕ) (xs : List ℕ) (k : ℕ) → n ≤ k → k < first_missing n xs → has xs k ≡ true
missing_below n [] k low high = absurd (omega (arith, high))
missing_below n (x ∷ xs) k low high = step (x == n) (λ e. eqb-true x n e) (missing_below (suc n) xs k)
    (missing_below n xs k low) high
  where
    step : (b : Bool) → (b ≡ true → x ≡ n) → (suc n ≤ k → k < first_missing (suc n) xs → has xs k ≡ true) →
        (k < first_missing n xs → has xs k ≡ true)
        → k < first_missing (cond b (suc n) n) xs → ((x == k) || has xs k) ≡ true
    step true e f g h = let same : x ≡ n = e refl in elim (cases_eq n k) [
      | inl here ↦ or_left (x == k) (has xs k) (eq-eqb x k (omega arith))
      | inr later ↦ or_right (x == k) (has xs k) (f (omega arith) h)
    ]
    step false e f g h = or_right (x == k) (has xs k) (g h)

-- it is the only number that is not in the list while all from n to below it are
pub missing_is : (from end n m : ℕ) (xs : List ℕ) → RisesBetween from end xs → n ≤ m →
    ((k : ℕ) → n ≤ k → k < m → has xs k ≡ true) →
    has xs m ≡ false → first_missing n xs ≡ m
missing_is from end n m [] r low below not_there = elim (cases_lt n m) [
  | inl less ↦ absurd (both_ways false refl (below n (omega arith) less))
  | inr at ↦ omega arith
]
missing_is from end n m (x ∷ xs) r low below not_there = elim (cases_eq x n) [
  | inl here ↦ ap (λ (b : Bool). first_missing (cond b (suc n) n) xs) (eq-eqb x n here)
      ∙ missing_is (suc x) end (suc n) m xs r.2 (omega (arith, here, apart))
      (λ k p q. sym (has_later x xs k (λ e. omega arith)) ∙ below k (omega arith) q) out
  | inr other ↦ ap (λ (b : Bool). first_missing (cond b (suc n) n) xs) (ne_eqb x n other)
      ∙ missing_is (suc x) end n m xs r.2 low (λ k p q. sym (has_later x xs k (λ e. past other k p q e))
      ∙ below k p q) out
]
  where
    apart : x ≡ m → ⊥
    apart e = both_ways (has (x ∷ xs) m) not_there (or_left (x == m) (has xs m) (eq-eqb x m e))

    out : has xs m ≡ false
    out = sym (has_later x xs m apart) ∙ not_there

    -- the number n itself is in the list and at or past x, so x is not past it
    past : (x ≡ n → ⊥) → (k : ℕ) → n ≤ k → k < m → x ≡ k → ⊥
    past other k p q e =
        let least : (x ≤ n) × (n < end) = has_from x end (x ∷ xs) n (omega arith, r.1, r.2)
        (below n (omega arith) (omega arith)) in
        omega (arith, least.0)

pub missing_not : (from end n : ℕ) (xs : List ℕ) → RisesBetween from end xs →
    has xs (first_missing n xs) ≡ false
missing_not from end n [] r = refl
missing_not from end n (x ∷ xs) r = elim (cases_eq x n) [
  | inl here ↦ ap (λ (b : Bool). has (x ∷ xs) (first_missing (cond b (suc n) n) xs)) (eq-eqb x n here)
      ∙ later (suc n) (missing_not (suc x) end (suc n) xs r.2) (λ e. omega (arith, missing_least (suc n) xs))
  | inr other ↦ ap (λ (b : Bool). has (x ∷ xs) (first_missing (cond b (suc n) n) xs)) (ne_eqb x n other)
      ∙ later n (missing_not (suc x) end n xs r.2) (apart other)
]
  where
    later : (m : ℕ) → has xs (first_missing m xs) ≡ false → (x ≡ first_missing m xs → ⊥) →
        has (x ∷ xs) (first_missing m xs) ≡ false
    later m h ne = has_later x xs (first_missing m xs) ne ∙ h

    apart : (x ≡ n → ⊥) → x ≡ first_missing n xs → ⊥
    apart other e = elim (cases_lt x n) [
      | inl less ↦ omega (arith, missing_least n xs)
      | inr at ↦ other (e ∙ missing_is (suc x) end n n xs r.2 (omega arith) (λ k p q. absurd (omega arith))
          (has_not_below (suc x) end xs n r.2 (omega arith)))
    ]

-- with more members, and from a later number on, it is at least the same
pub missing_grows : (from end n m : ℕ) (xs ys : List ℕ) → RisesBetween from end ys → n ≤ m →
    ((k : ℕ) → has xs k ≡ true → has ys k ≡ true) →
    first_missing n xs ≤ first_missing m ys
missing_grows from end n m xs ys r low more = elim (cases_lt (first_missing m ys) (first_missing n xs)) [
  | inl less ↦
      let k : ℕ = first_missing m ys in
      absurd (both_ways (has ys k) (missing_not from end m ys r)
      (more k (missing_below n xs k (omega (arith, missing_least m ys)) less)))
  | inr at ↦ at
]

-- ---- properties of a receiver

-- the greatest of the first number and all starts of requests
abbrev pub told : Receiver → ℕ
told r = greatest r.first r.starts

pub told_score : (r : Receiver) → told r ≤ score_start r
told_score r = greatest_least (told r) (map (λ n. suc n - r.size) r.arrived)

pub told_release : (r : Receiver) → told r ≤ release_start r
told_release r = missing_least (told r) r.arrived

pub arrived_below : (r : Receiver) → IsOrderly r → (n : ℕ) → has r.arrived n ≡ true →
    n < score_start r + r.size
arrived_below r o n h = (has_from 0 (score_start r + r.size) r.arrived n o.rising h).1

-- no number arrived that is a window or more past the next number to be passed up
pub none_past : (r : Receiver) → IsOrderly r → (n : ℕ) → release_start r + r.size ≤ n →
    has r.arrived n ≡ false
none_past r o n h = has_not_above 0 (score_start r + r.size) r.arrived n o.rising
    (omega (arith, o.score_release))

pub passed_up : (r : Receiver) (n : ℕ) → told r ≤ n → n < release_start r → has r.arrived n ≡ true
passed_up r n = missing_below (told r) r.arrived n

pub not_passed_up : (r : Receiver) → IsOrderly r → has r.arrived (release_start r) ≡ false
not_passed_up r o = missing_not 0 (score_start r + r.size) (told r) r.arrived o.rising

-- the next number to be passed up is at most a window past the scoreboard's start
pub release_score : (r : Receiver) → IsOrderly r → release_start r ≤ score_start r + r.size
release_score r o = elim (cases_lt (told r) (release_start r)) [
  | inl more ↦
      let last : ℕ = release_start r - 1 in
      let below : last < score_start r + r.size = arrived_below r o last
      (passed_up r last (omega arith) (omega arith)) in omega arith
  | inr none ↦ omega (arith, told_score r)
]

-- ---- one more number

pub score_arrived : (r : Receiver) (n : ℕ) → score_start (with_arrived n r)
    ≡ max (suc n - r.size) (score_start r)
score_arrived r n = score_with n (told r) r.size r.arrived

pub orderly_arrived : (r : Receiver) (n : ℕ) → IsOrderly r → IsInReach r n → IsOrderly (with_arrived n r)
orderly_arrived r n o reach = record {
  least = o.least;
  most = o.most;
  rising = rising;
  score_release = omega (arith, score_arrived r n, o.score_release, reach.release, grows);
}
  where
    end : ℕ
    end = score_start (with_arrived n r) + r.size

    rising : RisesBetween 0 end (with_member n r.arrived)
    rising =
        rises-with end n r.arrived (omega (arith, score_arrived r n, o.least))
        (rises_wider 0 (score_start r + r.size) 0 end r.arrived (omega arith)
        (omega (arith, score_arrived r n)) o.rising)

    grows : release_start r ≤ release_start (with_arrived n r)
    grows = missing_grows 0 end (told r) (told r) r.arrived (with_member n r.arrived) rising (omega arith)
        (has_old n r.arrived)

-- ---- one more start of a request

pub told_start : (r : Receiver) (f : ℕ) → told (with_start f r) ≡ max f (told r)
told_start r f = greatest_with f r.first r.starts

pub score_requested : (r : Receiver) (f : ℕ) → score_start (with_start f r) ≡ max f (score_start r)
score_requested r f = ap (λ (k : ℕ). greatest k (map (λ n. suc n - r.size) r.arrived)) (told_start r f)
    ∙ greatest_max f (told r) (map (λ n. suc n - r.size) r.arrived)

pub orderly_requested : (r : Receiver) (f : ℕ) → IsOrderly r → IsOrderly (with_start f r)
orderly_requested r f o = record {
  least = o.least;
  most = o.most;
  rising = rising;
  score_release = omega (
    arith,
    score_requested r f,
    o.score_release,
    grows,
    told_start r f,
    told_release (with_start f r),
  );
}
  where
    end : ℕ
    end = score_start (with_start f r) + r.size

    rising : RisesBetween 0 end r.arrived
    rising = rises_wider 0 (score_start r + r.size) 0 end r.arrived (omega arith)
        (omega (arith, score_requested r f)) o.rising

    grows : release_start r ≤ release_start (with_start f r)
    grows = missing_grows 0 end (told r) (told (with_start f r)) r.arrived r.arrived rising
        (omega (arith, told_start r f)) (λ k h. h)
