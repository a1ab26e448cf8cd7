-- Defines the tables, sets and ranges of whole numbers that the other definitions use. A table maps each
-- number to a value: a list holds the values of the first numbers, and every other number has the value
-- `d`.
use Rattle.std.specs.Prelude.{ℕ, zero, suc, ◌+◌, ◌-◌, ◌*◌, ◌/◌, ◌^◌, ◌==◌, nat_lt, nat_le, List, [], ◌∷◌, if◌then◌else◌, Bool, false, ◌&&◌, ◌||◌, sum_by, length, take}

-- Returns the value of a table at k.
abbrev pub at : {X : Type 0} → X → List X → ℕ → X
at d [] k = d
at d (x ∷ xs) zero = x
at d (x ∷ xs) (suc k) = at d xs k

-- Returns the table with the value v at k.
abbrev pub put : {X : Type 0} → X → List X → ℕ → X → List X
put d [] zero v = v ∷ []
put d [] (suc k) v = d ∷ put d [] k v
put d (x ∷ xs) zero v = v ∷ xs
put d (x ∷ xs) (suc k) v = x ∷ put d xs k v

-- Replaces the value of a table at k by f of it.
abbrev pub change : {X : Type 0} → X → List X → ℕ → (X → X) → List X
change d t k f = put d t k (f (at d t k))

-- Returns the n numbers from, from + 1, ..
abbrev pub count_from : ℕ → ℕ → List ℕ
count_from from zero = []
count_from from (suc n) = from ∷ count_from (suc from) n

-- Returns the numbers below n in increasing order.
abbrev pub upto : ℕ → List ℕ
upto n = count_from 0 n

-- Returns whether a number is in a list.
abbrev pub has : List ℕ → ℕ → Bool
has [] k = false
has (x ∷ xs) k = (x == k) || has xs k

-- Adds n to a set. A set of numbers is a strictly increasing list.
abbrev pub with_member : ℕ → List ℕ → List ℕ
with_member n [] = n ∷ []
with_member n (x ∷ xs) =
    if nat_lt n x then n ∷ x ∷ xs else (if x == n then x ∷ xs else x ∷ with_member n xs)

-- Returns the greatest number of 1 to n that passes a test, or 0 if none does.
abbrev pub greatest_upto : (ℕ → Bool) → ℕ → ℕ
greatest_upto test zero = 0
greatest_upto test (suc n) = if test (suc n) then suc n else greatest_upto test n

-- Returns the longest prefix of a list that passes a test, or the empty list if none does.
abbrev pub longest_front : {X : Type 0} → (List X → Bool) → List X → List X
longest_front test xs = take (greatest_upto (λ n. test (take n xs)) (length xs)) xs

-- Returns word k of a set's bitmap: bit j is set if 64 k + j is a member.
abbrev pub bits_word : ℕ → List ℕ → ℕ
bits_word k xs = sum_by (λ i. if nat_le (64 * k) i && nat_lt i (64 * k + 64) then 2 ^ (i - 64 * k) else 0) xs

-- Returns a / b, rounded up.
abbrev pub ceil_div : ℕ → ℕ → ℕ
ceil_div a b = (a + (b - 1)) / b
