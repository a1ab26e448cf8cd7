-- Proves that a set's words can be computed from the set. `Copy` and `==` of the sets depend on this.
use Rattle.std.specs.Prelude.{◌≡◌, ℕ, ◌+◌, ◌-◌, ◌*◌, ◌/◌, ◌%◌, ◌^◌, ◌<◌, ◌≤◌, ◌==◌, nat_lt, nat_le, zero, suc, min, ◌&&◌, List, [], ◌∷◌, ◌++◌, length, filter, sum_by, if◌then◌else◌}
use Rattle.std.proofs.Common.{◌∙◌, refl, sym, ap, subst, inl, inr, cond, get_or, arith, mod-eq_of_lt, mul-le-mul_right}
use Rattle.std.proofs.lemmas.Bool.{cases_Bool, cases_lt, le-leb, lt-leb, lt-ltb, le-ltb}
use Rattle.std.proofs.lemmas.List.Sums.{sum_by-append}
use Rattle.std.proofs.lemmas.List.Elements.{filter-append}
use Rattle.std.proofs.lemmas.Nat.{pow_pos, pow-add, shr-shr, mod-pow-add, shr_high, mod_low}
use Rattle.std.proofs.lemmas.Nat.Bits.{bit_at-lt}
use Rattle.std.specs.List.{range_with_len}
use Rattle.std.specs.Int.{bit_at}
use Rattle.wf_def_lists.specs.Table.{bits_word}
use Rattle.wf_octets.specs.BitsView.{set_of, number_of_bits}

pub bit_at-shr : (n k i : ℕ) → bit_at (n / 2 ^ k) i ≡ bit_at n (i + k)
bit_at-shr n k i = ap (λ x. x % 2) (shr-shr n k i) ∙ ap (λ e. n / 2 ^ e % 2) (omega arith)

-- ---- sums over the set
range_more : (a n : ℕ) → range_with_len a (suc n) ≡ range_with_len a n ++ (a + n) ∷ []
range_more a zero = ap (λ x. x ∷ []) (omega arith)
range_more a (suc n) = ap (λ xs. a ∷ xs) (range_more (a + 1) n
    ∙ ap (λ x. range_with_len (a + 1) n ++ x ∷ []) (omega arith))

pub set_of_more : (n m : ℕ) → set_of (suc m) n ≡ set_of m n ++ cond (bit_at n m == 1) (m ∷ []) []
unfolding set_of
set_of_more n m =
    ap (λ xs. filter (λ i. bit_at n i == 1) xs) (range_more 0 m)
    ∙ filter-append (λ i. bit_at n i == 1) (range_with_len 0 m) ((0 + m) ∷ [])
    ∙ ap (λ k. filter (λ i. bit_at n i == 1) (range_with_len 0 m) ++ cond (bit_at n k == 1) (k ∷ []) [])
    (omega arith)

pub set_of_none : (n : ℕ) → set_of 0 n ≡ []
unfolding set_of
set_of_none n = refl

pub digit_more : (n m : ℕ) → n % 2 ^ (suc m) ≡ bit_at n m * 2 ^ m + n % 2 ^ m
digit_more n m = ap (λ e. n % 2 ^ e) (omega arith) ∙ mod-pow-add n 1 m

-- ---- the word of the offsets from `low` on
worth : (low size i : ℕ) → ℕ
worth low size i = if nat_le low i && nat_lt i (low + size) then 2 ^ (i - low) else 0

worth_inside : (low size i : ℕ) → low ≤ i → i < low + size → worth low size i ≡ 2 ^ (i - low)
unfolding worth
worth_inside low size i p q = rw (le-leb low i p, lt-ltb i (low + size) q) refl

worth_before : (low size i : ℕ) → i < low → worth low size i ≡ 0
unfolding worth
worth_before low size i p = rw (lt-leb low i p) refl

worth_after : (low size i : ℕ) → low + size ≤ i → worth low size i ≡ 0
unfolding worth
worth_after low size i p = elim (cases_Bool (nat_le low i)) [
  | inl e ↦ rw (e, le-ltb i (low + size) p) refl
  | inr e ↦ rw e refl
]

one_more : (low size m b : ℕ) → b < 2 → sum_by (worth low size) (cond (b == 1) (m ∷ []) [])
    ≡ b * worth low size m
one_more low size m zero p = omega arith
one_more low size m (suc zero) p = omega arith
one_more low size m (suc (suc b)) p = absurd (omega arith)

sum_worth : (low size n m : ℕ) → sum_by (worth low size) (set_of m n) ≡ n / 2 ^ low % 2 ^ (min (m - low) size)
sum_worth low size n zero = ap (sum_by (worth low size)) (set_of_none n)
    ∙ none (n / 2 ^ low) (min (0 - low) size) (omega arith)
  where
    none : (k e : ℕ) → e ≡ 0 → 0 ≡ k % 2 ^ e
    none k e is = sym (ap (λ x. k % 2 ^ x) is ∙ (omega arith))
sum_worth low size n (suc m) =
    ap (sum_by (worth low size)) (set_of_more n m)
    ∙ sum_by-append (worth low size) (set_of m n) (cond (bit_at n m == 1) (m ∷ []) [])
    ∙ ap (λ k. k + sum_by (worth low size) (cond (bit_at n m == 1) (m ∷ []) [])) (sum_worth low size n m)
    ∙ ap (λ k. n / 2 ^ low % 2 ^ (min (m - low) size) + k) (one_more low size m (bit_at n m) (bit_at-lt n m))
    ∙ more
  where
    same : worth low size m ≡ 0 → min (m - low) size ≡ min (suc m - low) size →
        n / 2 ^ low % 2 ^ (min (m - low) size) + bit_at n m * worth low size m
        ≡ n / 2 ^ low % 2 ^ (min (suc m - low) size)
    same none e = ap (λ w. n / 2 ^ low % 2 ^ (min (m - low) size) + bit_at n m * w) none
        ∙ ap (λ x. n / 2 ^ low % 2 ^ x + bit_at n m * 0) e ∙ omega arith

    inside : (j : ℕ) → m ≡ j + low → j < size → n / 2 ^ low % 2 ^
        (min (m - low) size) + bit_at n m * worth low size m ≡ n / 2 ^ low % 2 ^ (min (suc m - low) size)
    inside j is less =
        let here : min (m - low) size ≡ j = omega arith in
        let next : min (suc m - low) size ≡ suc j = omega arith in
        let bit : bit_at n m ≡ bit_at (n / 2 ^ low) j =
        sym (bit_at-shr n low j ∙ ap (λ k. bit_at n k) (sym is)) in
        let power : worth low size m ≡ 2 ^ j = worth_inside low size m (omega arith) (omega arith)
        ∙ ap (λ k. 2 ^ k) (omega arith) in
        ap (λ x. n / 2 ^ low % 2 ^ x + bit_at n m * worth low size m) here
        ∙ ap (λ b. n / 2 ^ low % 2 ^ j + b * worth low size m) bit
        ∙ ap (λ w. n / 2 ^ low % 2 ^ j + bit_at (n / 2 ^ low) j * w) power
        ∙ omega (arith, digit_more (n / 2 ^ low) j) ∙ ap (λ x. n / 2 ^ low % 2 ^ x) (sym next)

    more : n / 2 ^ low % 2 ^ (min (m - low) size) + bit_at n m * worth low size m
        ≡ n / 2 ^ low % 2 ^ (min (suc m - low) size)
    more = elim (cases_lt m low) [
      | inl before ↦ same (worth_before low size m before) (omega arith)
      | inr from ↦ elim (cases_lt m (low + size)) [
        | inl within ↦ inside (m - low) (omega arith) (omega arith)
        | inr after ↦ same (worth_after low size m after) (omega arith)
      ]
    ]

-- the word of a set is the corresponding part of the number
pub word_of-set_of : (k end n : ℕ) → 64 * k + 64 ≤ end →
    bits_word k (set_of end n) ≡ n / 2 ^ (64 * k) % 2 ^ 64
unfolding worth
word_of-set_of k end n room = let whole : min (end - 64 * k) 64 ≡ 64 = omega arith in
    sum_worth (64 * k) 64 n end ∙ ap (λ x. n / 2 ^ (64 * k) % 2 ^ x) whole

-- ---- a number by its digits of `size` bits
-- each digit is below a bound
abbrev pub DigitsBelow : ℕ → List ℕ → Type 0
DigitsBelow bound [] = Unit {0}
DigitsBelow bound (d ∷ ds) = (d < bound) × DigitsBelow bound ds

-- each digit is below a bound, if this holds place by place
pub digits_below : (bound : ℕ) (ds : List ℕ) → ((k : ℕ) → get_or ds k 0 < bound) → DigitsBelow bound ds
digits_below bound [] small = tt
digits_below bound (d ∷ ds) small = (small 0, digits_below bound ds (λ k. small (suc k)))

pub number_of-lt : (size : ℕ) (ds : List ℕ) → DigitsBelow (2 ^ size) ds →
    number_of_bits size ds < 2 ^ (size * length ds)
number_of-lt size [] small = pow_pos (size * 0)
number_of-lt size (d ∷ ds) small = subst (λ e. number_of_bits size ds * 2 ^ size + d < 2 ^ e) (omega arith)
    (cat_lt (size * length ds) size (number_of_bits size ds) d (number_of-lt size ds small.1) small.0)
  where
    cat_lt : (j k a r : ℕ) → a < 2 ^ j → r < 2 ^ k → a * 2 ^ k + r < 2 ^ (j + k)
    cat_lt j k a r p q = let whole : 2 ^ (j + k) ≡ 2 ^ j * 2 ^ k = pow-add 2 j k in
        omega (arith, mul-le-mul_right (2 ^ k) p)

pub word_of_one : (n : ℕ) → n < 2 ^ 64 → bits_word 0 (set_of 64 n) ≡ n
word_of_one n small = word_of-set_of 0 64 n (omega arith) ∙ whole (omega arith)
  where
    whole : n / 1 ≡ n → n / 2 ^ (64 * 0) % 2 ^ 64 ≡ n
    whole e = ap (λ m. m % 2 ^ 64) e ∙ mod-eq_of_lt small

-- digit k of a number
pub digit_of : (size : ℕ) (ds : List ℕ) (k : ℕ) → DigitsBelow (2 ^ size) ds →
    number_of_bits size ds / 2 ^ (size * k) % 2 ^ size ≡ get_or ds k 0
digit_of size [] k small = nothing (2 ^ (size * k)) (2 ^ size)
  where
    nothing : (a b : ℕ) → 0 / a % b ≡ 0
    nothing a b = omega arith
digit_of size (d ∷ ds) zero small = ap (λ e. number_of_bits size (d ∷ ds) / 2 ^ e % 2 ^ size) (none size)
    ∙ ap (λ m. m % 2 ^ size) (by_one (number_of_bits size (d ∷ ds)))
    ∙ mod_low (number_of_bits size ds) size d small.0
  where
    none : (n : ℕ) → n * 0 ≡ 0
    none n = omega arith

    by_one : (n : ℕ) → n / 1 ≡ n
    by_one n = omega arith
digit_of size (d ∷ ds) (suc k) small =
    ap (λ e. number_of_bits size (d ∷ ds) / 2 ^ e % 2 ^ size) (more size k)
    ∙ ap (λ m. m % 2 ^ size) (sym (shr-shr (number_of_bits size (d ∷ ds)) size (size * k)))
    ∙ ap (λ m. m / 2 ^ (size * k) % 2 ^ size) (shr_high (number_of_bits size ds) size d small.0)
    ∙ digit_of size ds k small.1
  where
    more : (n k : ℕ) → n * suc k ≡ n + n * k
    more n k = omega arith

-- the four words of a set of 256 offsets
pub word_of_four : (ds : List ℕ) (k : ℕ) → k < 4 → ((k : ℕ) → get_or ds k 0 < 2 ^ 64) →
    bits_word k (set_of 256 (number_of_bits 64 ds)) ≡ get_or ds k 0
word_of_four ds k few small = word_of-set_of k 256 (number_of_bits 64 ds) (omega arith)
    ∙ digit_of 64 ds k (digits_below (2 ^ 64) ds small)

four : {x y z u : ℕ} (ds : List ℕ) → length ds ≡ 4 → x ≡ get_or ds 0 0 → y ≡ get_or ds 1 0 →
    z ≡ get_or ds 2 0 → u ≡ get_or ds 3 0 → x ∷ y ∷ z ∷ u ∷ [] ≡ ds
four [] long p q r s = absurd (omega arith)
four (a ∷ []) long p q r s = absurd (omega arith)
four (a ∷ b ∷ []) long p q r s = absurd (omega arith)
four (a ∷ b ∷ c ∷ []) long p q r s = absurd (omega arith)
four (a ∷ b ∷ c ∷ d ∷ []) long p q r s = cc
four (a ∷ b ∷ c ∷ d ∷ e ∷ ds) long p q r s = absurd (omega arith)

pub words_of_four : (ds : List ℕ) → length ds ≡ 4 → ((k : ℕ) → get_or ds k 0 < 2 ^ 64) →
    bits_word 0 (set_of 256 (number_of_bits 64 ds)) ∷ bits_word 1 (set_of 256 (number_of_bits 64 ds))
    ∷ bits_word 2 (set_of 256 (number_of_bits 64 ds)) ∷ bits_word 3 (set_of 256 (number_of_bits 64 ds)) ∷ []
    ≡ ds
words_of_four ds long small =
    four ds long (word_of_four ds 0 (omega arith) small) (word_of_four ds 1 (omega arith) small)
    (word_of_four ds 2 (omega arith) small) (word_of_four ds 3 (omega arith) small)
