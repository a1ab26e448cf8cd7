-- Proves that items which cover a range contain each number of it exactly once.
use Rattle.std.proofs.Common.{◌≡◌, ℕ, ◌+◌, ◌<◌, ◌≤◌, ◌==◌, ◌&&◌, nat_lt, nat_le, Bool, true, false, ◌⊎◌, List, [], ◌∷◌, ◌++◌, sym, ap, subst, inl, inr, arith}
use Rattle.std.proofs.lemmas.Bool.Decides.{nat_tests}
use Rattle.wf_uplink.specs.Reordering.{Passed, Released, GivenUp}
use Rattle.wf_uplink.specs.World.{released_in, given_up_in, count_of}
use Rattle.wf_uplink.specs.Laws.{Covers, RisesFrom, released_numbers, times_released, times_given_up}

pub covers_append : (a b c : ℕ) (xs ys : List Passed) → Covers a b xs → Covers b c ys → Covers a c (xs ++ ys)
covers_append a b c [] ys h k = subst (λ n. Covers n c ys) (sym h) k
covers_append a b c (Released id number ∷ xs) ys h k = (h.0, covers_append (a + 1) b c xs ys h.1 k)
covers_append a b c (GivenUp first count ∷ xs) ys h k = (h.0, h.1, covers_append (a + count) b c xs ys h.2 k)

-- the length of the range is the count of the numbers in the items
pub covers_count : (a b : ℕ) (xs : List Passed) → Covers a b xs → a + (released_in xs + given_up_in xs) ≡ b
covers_count a b [] h = omega (arith, h)
covers_count a b (Released id number ∷ xs) h = let e = covers_count (a + 1) b xs h.1 in omega (arith, e)
covers_count a b (GivenUp first count ∷ xs) h = let e = covers_count (a + count) b xs h.2 in omega (arith, e)

pub covers_le : (a b : ℕ) (xs : List Passed) → Covers a b xs → a ≤ b
covers_le a b xs h = let e = covers_count a b xs h in omega (arith, e)

pub released_append : (xs ys : List Passed) → released_in (xs ++ ys) ≡ released_in xs + released_in ys
released_append [] ys = omega arith
released_append (Released id number ∷ xs) ys = let e = released_append xs ys in omega (arith, e)
released_append (GivenUp first count ∷ xs) ys = let e = released_append xs ys in omega (arith, e)

pub given_up_append : (xs ys : List Passed) → given_up_in (xs ++ ys) ≡ given_up_in xs + given_up_in ys
given_up_append [] ys = omega arith
given_up_append (Released id number ∷ xs) ys = let e = given_up_append xs ys in omega (arith, e)
given_up_append (GivenUp first count ∷ xs) ys = let e = given_up_append xs ys in omega (arith, e)

pub rises_from_less : (n m : ℕ) (xs : List ℕ) → n ≤ m → RisesFrom m xs → RisesFrom n xs
rises_from_less n m [] le h = tt
rises_from_less n m (x ∷ xs) le h = (omega (arith, le, h.0), h.1)

pub covers_rises : (a b : ℕ) (xs : List Passed) → Covers a b xs → RisesFrom a (released_numbers xs)
covers_rises a b [] h = tt
covers_rises a b (Released id number ∷ xs) h = (
  omega (arith, h.0),
  subst (λ n. RisesFrom (n + 1) (released_numbers xs)) (sym h.0)
      (covers_rises (a + 1) b xs h.1),
)
covers_rises a b (GivenUp first count ∷ xs) h =
    rises_from_less a (a + count) (released_numbers xs) (omega arith) (covers_rises (a + count) b xs h.2)

-- ---- how often a number is in the items

abbrev pub times : ℕ → List Passed → ℕ
times n xs = times_released n xs + times_given_up n xs

not_counted : (b : Bool) → b ≡ false → count_of b ≡ 0
not_counted b e = ap count_of e

counted : (b : Bool) → b ≡ true → count_of b ≡ 1
counted b e = ap count_of e

pub no_other_below : (a b n : ℕ) (xs : List Passed) → Covers a b xs → n < a → times n xs ≡ 0
no_other_below a b n [] h below = omega arith
no_other_below a b n (Released id number ∷ xs) h below =
    let rest = no_other_below (a + 1) b n xs h.1 (omega (arith, below)) in
    let here = not_counted (number == n) (grind (arith, nat_tests, h.0, below)) in
    omega (arith, rest, here)
no_other_below a b n (GivenUp first count ∷ xs) h below =
    let rest = no_other_below (a + count) b n xs h.2 (omega (arith, below)) in
    let here = not_counted (nat_le first n && nat_lt n (first + count))
    (grind (arith, nat_tests, h.0, below)) in
    omega (arith, rest, here)

pub no_other_above : (a b n : ℕ) (xs : List Passed) → Covers a b xs → b ≤ n → times n xs ≡ 0
no_other_above a b n [] h above = omega arith
no_other_above a b n (Released id number ∷ xs) h above =
    let rest = no_other_above (a + 1) b n xs h.1 above in
    let le = covers_le (a + 1) b xs h.1 in
    let here = not_counted (number == n) (grind (arith, nat_tests, h.0, le, above)) in
    omega (arith, rest, here)
no_other_above a b n (GivenUp first count ∷ xs) h above =
    let rest = no_other_above (a + count) b n xs h.2 above in
    let le = covers_le (a + count) b xs h.2 in
    let here = not_counted (nat_le first n && nat_lt n (first + count))
    (grind (arith, nat_tests, h.0, le, above)) in
    omega (arith, rest, here)

pub no_other : (a b n : ℕ) (xs : List Passed) → Covers a b xs → (n < a) ⊎ (b ≤ n) → times n xs ≡ 0
no_other a b n xs h out = elim out [
  | inl below ↦ no_other_below a b n xs h below
  | inr above ↦
      no_other_above a b n xs h above
]

pub each_once : (a b n : ℕ) (xs : List Passed) → Covers a b xs → a ≤ n → n < b → times n xs ≡ 1
each_once a b n [] h least below = absurd (omega (arith, h, least, below))
each_once a b n (Released id number ∷ xs) h least below =
    elim (here_or_later n (a + 1)) [
      | inl here ↦
          let rest = no_other_below (a + 1) b n xs h.1 here in
          let one = counted (number == n) (grind (arith, nat_tests, h.0, least, here)) in
          omega (arith, rest, one)
      | inr later ↦
          let rest = each_once (a + 1) b n xs h.1 later below in
          let none = not_counted (number == n) (grind (arith, nat_tests, h.0, later)) in
          omega (arith, rest, none)
    ]
  where
    here_or_later : (n m : ℕ) → (n < m) ⊎ (m ≤ n)
    here_or_later n m = grind arith
each_once a b n (GivenUp first count ∷ xs) h least below =
    elim (within_or_later n (a + count)) [
      | inl within ↦
          let rest = no_other_below (a + count) b n xs h.2 within in
          let one = counted (nat_le first n && nat_lt n (first + count))
          (grind (arith, nat_tests, h.0, least, within)) in
          omega (arith, rest, one)
      | inr later ↦
          let rest = each_once (a + count) b n xs h.2 later below in
          let none = not_counted (nat_le first n && nat_lt n (first + count))
          (grind (arith, nat_tests, h.0, later)) in
          omega (arith, rest, none)
    ]
  where
    within_or_later : (n m : ℕ) → (n < m) ⊎ (m ≤ n)
    within_or_later n m = grind arith
