-- Proves that the longest queue is the first of those with the most octets, by induction over the list
-- of queues. Proofs of other crates use this module.
use Rattle.std.proofs.Common.{◌≡◌, refl, sym, subst, arith, ℕ, zero, suc, ◌+◌, ◌<◌, ◌≤◌, Bool, true, false, if◌then◌else◌, List, [], ◌∷◌, length, Some, inl, inr}
use Rattle.std.specs.Prelude.{nat_le, find, unwrap_or}
use Rattle.std.specs.List.{list_all}
use Rattle.std.proofs.lemmas.Bool.{cases_Bool, cases_lt, and_parts, and_from, le-leb, leb-true}
use Rattle.wf_def_lists.specs.Table.{at, count_from}
use Rattle.wf_def_codel.specs.Codel.{octets}
use Rattle.wf_def_world.specs.World.{Queue, new_queue}
use Rattle.wf_def_world.specs.FlowQueues.{has_most, longest_of}

-- the octets of queue k
unfoldable pub octets_at : List Queue → ℕ → ℕ
octets_at queues k = octets (at new_queue queues k).items

-- q is the first of the numbers for which f is greatest
pub record IsFirstMost (f : ℕ → ℕ) (q : ℕ) : Type 0 where
  pub most : (k : ℕ) → f k ≤ f q
  pub first : (k : ℕ) → k < q → f k < f q

-- there is only one such number, also for an equal function
pub first_most_once : (f g : ℕ → ℕ) (p q : ℕ) → ((k : ℕ) → f k ≡ g k) → IsFirstMost f p → IsFirstMost g q →
    p ≡ q
first_most_once f g p q same a b = elim (cases_lt p q) [
  | inl before ↦ absurd (omega (arith, b.first p before, a.most q, same p, same q))
  | inr not_before ↦ elim (cases_lt q p) [
    | inl after ↦ absurd (omega (arith, a.first q after, b.most p, same p, same q))
    | inr not_after ↦ omega (arith, not_before, not_after)
  ]
]

-- the test of `has_most` passes if and only if no queue has more than n octets
all_below : (queues : List Queue) (n : ℕ) → list_all (λ x. nat_le (octets x.items) n) queues ≡ true →
    (k : ℕ) → octets_at queues k ≤ n
unfolding octets_at
all_below [] n h k = omega arith
all_below (x ∷ xs) n h zero = leb-true (octets x.items) n (and_parts (nat_le (octets x.items) n) _ h).0
all_below (x ∷ xs) n h (suc k) = all_below xs n (and_parts (nat_le (octets x.items) n) _ h).1 k

below_all : (queues : List Queue) (n : ℕ) → ((k : ℕ) → octets_at queues k ≤ n) →
    list_all (λ x. nat_le (octets x.items) n) queues ≡ true
unfolding octets_at
below_all [] n h = refl
below_all (x ∷ xs) n h = and_from (nat_le (octets x.items) n) _ (le-leb (octets x.items) n (h 0))
    (below_all xs n (λ k. h (suc k)))

-- the first number of a range that passes a test, if one does
record IsFirst (test : ℕ → Bool) (from n found : ℕ) : Type 0 where
  passes : test found ≡ true
  within : found < from + n
  others : (k : ℕ) → from ≤ k → k < found → test k ≡ false

found_first : (test : ℕ → Bool) (from n q : ℕ) → from ≤ q → q < from + n → test q ≡ true →
    IsFirst test from n (unwrap_or (find test (count_from from n)) 0)
found_first test from zero q low high passes = absurd (omega (arith, low, high))
found_first test from (suc n) q low high passes = elim (cases_Bool (test from)) [
  | inl here ↦ subst (λ (b : Bool). IsFirst test from (suc n)
      (unwrap_or (if b then Some from else find test (count_from (suc from) n)) 0)) (sym here)
      (record { passes = here; within = omega arith; others = λ k h k'. absurd (omega (arith, h, k')) })
  | inr fails ↦
      let past : suc from ≤ q = elim (cases_lt from q) [
        | inl less ↦ omega (arith, less)
        | inr not_less ↦
            let e : from ≡ q = omega (arith, low, not_less) in absurd (cc (fails, passes, e))
      ] in
      let f : IsFirst test (suc from) n (unwrap_or (find test (count_from (suc from) n)) 0) =
      found_first test (suc from) n q past (omega (arith, high)) passes in
      subst (λ (b : Bool). IsFirst test from (suc n)
      (unwrap_or (if b then Some from else find test (count_from (suc from) n)) 0)) (sym fails)
      (record {
        passes = f.passes;
        within = omega (arith, f.within);
        others = λ k h k'. elim (cases_lt from k) [
          | inl less ↦ f.others k (omega (arith, less)) k'
          | inr not_less ↦ let e : from ≡ k = omega (arith, h, not_less) in
              subst (λ (i : ℕ). test i ≡ false) e fails
        ];
      })
]

-- some queue has at least as many octets as each other
record HasMost (queues : List Queue) : Type 0 where
  number : ℕ
  within : number < length queues
  most : (k : ℕ) → octets_at queues k ≤ octets_at queues number

some_most : (x : Queue) (xs : List Queue) → HasMost (x ∷ xs)
unfolding octets_at
some_most x [] = record {
  number = 0;
  within = omega arith;
  most = λ k. one_most k;
}
  where
    one_most : (k : ℕ) → octets_at (x ∷ []) k ≤ octets x.items
    one_most zero = omega arith
    one_most (suc k) = omega arith
some_most x (y ∷ ys) =
    let m : HasMost (y ∷ ys) = some_most y ys in
    elim (cases_lt (octets x.items) (octets_at (y ∷ ys) m.number)) [
      | inl less ↦ record { number = suc m.number; within = omega (arith, m.within); most = later m less }
      | inr not_less ↦ record { number = 0; within = omega arith; most = here m not_less }
    ]
  where
    later : (m : HasMost (y ∷ ys)) → octets x.items < octets_at (y ∷ ys) m.number → (k : ℕ) →
        octets_at (x ∷ y ∷ ys) k ≤ octets_at (y ∷ ys) m.number
    later m less zero = omega (arith, less)
    later m less (suc k) = m.most k

    here : (m : HasMost (y ∷ ys)) → octets_at (y ∷ ys) m.number ≤ octets x.items → (k : ℕ) →
        octets_at (x ∷ y ∷ ys) k ≤ octets x.items
    here m not_less zero = omega arith
    here m not_less (suc k) = omega (arith, m.most k, not_less)

-- the longest queue of a list is the first of those with the most octets
pub longest_first_most : (queues : List Queue) → IsFirstMost (octets_at queues) (longest_of queues)
unfolding octets_at
longest_first_most [] = record { most = λ k. omega arith; first = λ k h. absurd (omega (arith, h)) }
longest_first_most (x ∷ xs) =
    let m : HasMost (x ∷ xs) = some_most x xs in
    let f : IsFirst (has_most (x ∷ xs)) 0 (length (x ∷ xs)) (longest_of (x ∷ xs)) =
    found_first (has_most (x ∷ xs)) 0 (length (x ∷ xs)) m.number (omega arith) (omega (arith, m.within))
    (below_all (x ∷ xs) _ m.most) in
    let most : (k : ℕ) → octets_at (x ∷ xs) k ≤ octets_at (x ∷ xs) (longest_of (x ∷ xs)) =
    all_below (x ∷ xs) _ f.passes in
    record {
      most = most;
      first = λ k h. less k (f.others k (omega arith) h) most;
    }
  where
    less : (k : ℕ) → has_most (x ∷ xs) k ≡ false →
        ((j : ℕ) → octets_at (x ∷ xs) j ≤ octets_at (x ∷ xs) (longest_of (x ∷ xs))) →
        octets_at (x ∷ xs) k < octets_at (x ∷ xs) (longest_of (x ∷ xs))
    less k fails most = elim (cases_lt (octets_at (x ∷ xs) k) (octets_at (x ∷ xs) (longest_of (x ∷ xs)))) [
      | inl is ↦ is
      | inr at_least ↦
          let yes : has_most (x ∷ xs) k ≡ true = below_all (x ∷ xs) (octets_at (x ∷ xs) k)
          (λ j. omega (arith, most j, at_least)) in
          absurd (cc (yes, fails))
    ]

-- a number whose queue has at least as many octets as each, and more than those before it, is the
-- longest queue
pub longest_is : (queues : List Queue) (f : ℕ → ℕ) (q : ℕ) → ((k : ℕ) → f k ≡ octets_at queues k) →
    IsFirstMost f q → longest_of queues ≡ q
longest_is queues f q same is = first_most_once (octets_at queues) f (longest_of queues) q (λ k. sym (same k))
    (longest_first_most queues) is

-- lists with the same octets have the same longest queue
pub longest_same : (xs ys : List Queue) → ((k : ℕ) → octets_at xs k ≡ octets_at ys k) →
    longest_of xs ≡ longest_of ys
longest_same xs ys same = first_most_once (octets_at xs) (octets_at ys) (longest_of xs) (longest_of ys) same
    (longest_first_most xs) (longest_first_most ys)
