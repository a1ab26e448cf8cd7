-- Proves that changes of a number's bits are changes of the set of offsets that it represents: set, shift and
-- count.
use Rattle.std.proofs.Common.{◌≡◌, ℕ, ◌+◌, ◌-◌, ◌*◌, ◌/◌, ◌%◌, ◌^◌, ◌<◌, ◌≤◌, ◌==◌, zero, suc, max, Bool, true, false, cond, ◌&&◌, ◌||◌, List, [], ◌∷◌, length, filter, get_or, set, sum_by, length-set, get_or-set_other, mod-eq_of_lt, add_comm, add-one, subst, refl, sym, ◌∙◌, ap, inl, inr, arith, bit_or, count_ones, eqb, length-append}
use Rattle.std.proofs.lemmas.Bool.{cases_eq, cases_lt, eq-eqb, ne_eqb}
use Rattle.std.proofs.Math.Nat.{div-eq_of_lt, div-eq-sub-div, mod-eq-sub-mod}
use Rattle.std.proofs.lemmas.List.Sums.{sum_by-cons}
use Rattle.std.proofs.lemmas.Nat.{pow_pos, ones_cat, one_shl, mod_below, or_lt, shr_split, le_bytes_8}
use Rattle.std.proofs.lemmas.Nat.Bits.{bit_at_or, bit_at-pow_same, bit_at-pow_other, bit_at-lt, bit_at_above, bit_at-zero, bit_at_cat_low, bit_at_cat_high}
use Rattle.std.proofs.lemmas.Grind.{get_or-set_at}
use Rattle.std.proofs.lemmas.List.{set_past, get_or_past}
use Rattle.std.specs.List.{range_with_len}
use Rattle.std.specs.Int.Count.{ones-ones}
use lib.Pointwise.{pointwise}
use Rattle.std.specs.Int.{bit_at, to_le_bytes, from_le_bytes, w64}
use Rattle.wf_def_lists.specs.Table.{has, with_member, bits_word}
use Rattle.wf_octets.specs.Offsets.{IsOffsets, moved_down, offsets_in}
use Rattle.wf_octets.specs.BitsView.{set_of, number_of_bits}
use Rattle.wf_octets.specs.BitsInverse.{bit_at-shr, set_of_more, set_of_none, digit_more, DigitsBelow, digits_below, number_of-lt, words_of_four}
use Rattle.wf_octets.proofs.Sets.{rises-filter_range, has-filter_range, has_not_above, same_members, has-with_member, rises-with_member, has-moved_down, rises-moved_down, rises_wider}

-- ---- a set and its number
pub set_of_is_offsets : (end n : ℕ) → IsOffsets end (set_of end n)
unfolding set_of
set_of_is_offsets end n = rises_wider 0 (0 + end) 0 end (filter (λ i. bit_at n i == 1) (range_with_len 0 end))
    (omega arith) (omega arith) (rises-filter_range (λ i. bit_at n i == 1) 0 end)

pub has-set_of : (end n i : ℕ) → i < end → has (set_of end n) i ≡ (bit_at n i == 1)
unfolding set_of
has-set_of end n i below = has-filter_range (λ i. bit_at n i == 1) 0 end i (omega arith) (omega arith)

-- the set of a number whose bits say which offsets are in the set
pub set_of_from_bits : (end n : ℕ) (xs : List ℕ) → IsOffsets end xs →
    ((i : ℕ) → i < end → (bit_at n i == 1) ≡ has xs i) → set_of end n ≡ xs
set_of_from_bits end n xs offsets same = same_members 0 0 end end (set_of end n) xs
    (set_of_is_offsets end n) offsets each
  where
    each : (i : ℕ) → has (set_of end n) i ≡ has xs i
    each i = elim (cases_lt i end) [
      | inl below ↦ has-set_of end n i below ∙ same i below
      | inr above ↦ has_not_above 0 end (set_of end n) i (set_of_is_offsets end n) above
          ∙ sym (has_not_above 0 end xs i offsets above)
    ]

-- ---- a bit as a test
pub bit_test_or : (a b i : ℕ) → (bit_at (bit_or a b) i == 1) ≡ ((bit_at a i == 1) || (bit_at b i == 1))
bit_test_or a b i = ap (λ x. x == 1) (bit_at_or a b i)
    ∙ larger (bit_at a i) (bit_at b i) (bit_at-lt a i) (bit_at-lt b i)
  where
    larger : (x y : ℕ) → x < 2 → y < 2 → (max x y == 1) ≡ ((x == 1) || (y == 1))
    larger zero zero p q = refl
    larger zero (suc zero) p q = refl
    larger (suc zero) zero p q = refl
    larger (suc zero) (suc zero) p q = refl
    larger (suc (suc x)) y p q = absurd (omega arith)
    larger zero (suc (suc y)) p q = absurd (omega arith)
    larger (suc zero) (suc (suc y)) p q = absurd (omega arith)

pub bit_test_pow : (k i : ℕ) → (bit_at (2 ^ k) i == 1) ≡ (k == i)
bit_test_pow k i = elim (cases_eq i k) [
  | inl same ↦ eq-eqb (bit_at (2 ^ k) i) 1 (ap (λ j. bit_at (2 ^ k) j) same ∙ bit_at-pow_same k)
      ∙ sym (eq-eqb k i (sym same))
  | inr other ↦ ap (λ x. x == 1) (bit_at-pow_other k i other) ∙ sym (ne_eqb k i (λ e. other (sym e)))
]

-- ---- the changes
pub set_of-or_pow : (end n i : ℕ) → i < end → set_of end (bit_or n (2 ^ i)) ≡ with_member i (set_of end n)
set_of-or_pow end n i below = set_of_from_bits end (bit_or n (2 ^ i)) (with_member i (set_of end n))
    (rises-with_member 0 end i (set_of end n) (omega arith) below (set_of_is_offsets end n)) each
  where
    turned : (a b : Bool) → (a || b) ≡ (b || a)
    turned true true = refl
    turned true false = refl
    turned false true = refl
    turned false false = refl

    each : (j : ℕ) → j < end → (bit_at (bit_or n (2 ^ i)) j == 1) ≡ has (with_member i (set_of end n)) j
    each j within =
        bit_test_or n (2 ^ i) j ∙ turned (bit_at n j == 1) (bit_at (2 ^ i) j == 1)
        ∙ ap (λ b. b || (bit_at n j == 1)) (bit_test_pow i j)
        ∙ ap (λ b. (i == j) || b) (sym (has-set_of end n j within)) ∙ sym (has-with_member i (set_of end n) j)

pub set_of-shifted : (end n m k : ℕ) → ((i : ℕ) → i < end → bit_at m i ≡ bit_at n (i + k)) → n < 2 ^ end →
    set_of end m ≡ moved_down k (set_of end n)
set_of-shifted end n m k bits small = set_of_from_bits end m (moved_down k (set_of end n)) offsets each
  where
    offsets : IsOffsets end (moved_down k (set_of end n))
    offsets = rises_wider (0 - k) (end - k) 0 end (moved_down k (set_of end n)) (omega arith) (omega arith)
        (rises-moved_down 0 end k (set_of end n) (set_of_is_offsets end n))

    each : (i : ℕ) → i < end → (bit_at m i == 1) ≡ has (moved_down k (set_of end n)) i
    each i within = ap (λ x. x == 1) (bits i within) ∙ elim (cases_lt (i + k) end) [
      | inl low ↦ sym (has-set_of end n (i + k) low) ∙ sym (has-moved_down k (set_of end n) i)
      | inr high ↦ ap (λ x. x == 1) (bit_at_above n end (i + k) small high)
          ∙ sym (has_not_above 0 end (set_of end n) (i + k) (set_of_is_offsets end n) high)
          ∙ sym (has-moved_down k (set_of end n) i)
    ]

pub set_of-zero : (end : ℕ) → set_of end 0 ≡ []
set_of-zero end = set_of_from_bits end 0 [] tt (λ i below. ap (λ x. x == 1) (bit_at-zero i))

-- the size of the set is the number of ones
pub length-set_of_mod : (n m : ℕ) → length (set_of m n) ≡ count_ones (n % 2 ^ m)
length-set_of_mod n zero = ap length (set_of_none n) ∙ sym (ap count_ones (mod_one n) ∙ ones-ones 0)
  where
    mod_one : (n : ℕ) → n % 2 ^ 0 ≡ 2 ^ 0 - 1
    mod_one n = omega arith
length-set_of_mod n (suc m) =
    ap length (set_of_more n m) ∙ length-append (set_of m n) (cond (bit_at n m == 1) (m ∷ []) [])
    ∙ ap (λ k. k + length (cond (bit_at n m == 1) (m ∷ []) [])) (length-set_of_mod n m)
    ∙ last (bit_at n m) (bit_at-lt n m) ∙ sym (ones_cat m (bit_at n m) (n % 2 ^ m)
    (mod_below n (2 ^ m) (pow_pos m))) ∙ ap count_ones (sym (digit_more n m))
  where
    last : (b : ℕ) → b < 2 → count_ones (n % 2 ^ m) + length (cond (b == 1) (m ∷ []) [])
        ≡ count_ones b + count_ones (n % 2 ^ m)
    last zero p = omega (arith, ones-ones 0)
    last (suc zero) p = omega (arith, ones-ones 1)
    last (suc (suc b)) p = absurd (omega arith)

pub length-set_of : (end n : ℕ) → n < 2 ^ end → length (set_of end n) ≡ count_ones n
length-set_of end n small = length-set_of_mod n end ∙ ap count_ones (mod-eq_of_lt small)

-- ---- a number by its digits of `size` bits
pub bit_at-number_of : (size : ℕ) (ds : List ℕ) (i : ℕ) → 0 < size → DigitsBelow (2 ^ size) ds →
    bit_at (number_of_bits size ds) i ≡ bit_at (get_or ds (i / size) 0) (i % size)
bit_at-number_of size [] i some small = bit_at-zero i ∙ sym (bit_at-zero (i % size))
bit_at-number_of size (d ∷ ds) i some small = elim (cases_lt i size) [
  | inl low ↦ bit_at_cat_low (number_of_bits size ds) size d i low
      ∙ ap (λ k. bit_at (get_or (d ∷ ds) k 0) i) (sym (div-eq_of_lt low))
      ∙ ap (λ k. bit_at (get_or (d ∷ ds) (i / size) 0) k) (sym (mod-eq_of_lt low))
  | inr high ↦
      bit_at_cat_high (number_of_bits size ds) size d i small.0 high
      ∙ bit_at-number_of size ds (i - size) some small.1
      ∙ ap (λ k. bit_at (get_or (d ∷ ds) k 0) ((i - size) % size))
      (sym (div-eq-sub-div some high ∙ add-one ((i - size) / size)))
      ∙ ap (λ k. bit_at (get_or (d ∷ ds) (i / size) 0) k) (sym (mod-eq-sub-mod high))
]

pub length-set_of-number_of : (ds : List ℕ) → DigitsBelow (2 ^ 64) ds →
    count_ones (number_of_bits 64 ds) ≡ sum_by count_ones ds
length-set_of-number_of [] small = ones-ones 0
length-set_of-number_of (d ∷ ds) small =
    ones_cat 64 (number_of_bits 64 ds) d small.0 ∙ ap (λ k. k + count_ones d)
    (length-set_of-number_of ds small.1) ∙ add_comm (sum_by count_ones ds) (count_ones d)
    ∙ sym (sum_by-cons count_ones d ds)

-- ---- the offsets in a bitmap of octets
pub offsets_in_are_offsets : (octets : List ℕ) → IsOffsets (8 * length octets) (offsets_in octets)
unfolding offsets_in
offsets_in_are_offsets octets = rises_wider 0 (0 + 8 * length octets) 0 (8 * length octets)
    (offsets_in octets) (omega arith) (omega arith)
    (rises-filter_range (λ i. bit_at (get_or octets (i / 8) 0) (i % 8) == 1) 0 (8 * length octets))

pub has-offsets_in : (octets : List ℕ) (i : ℕ) → i < 8 * length octets →
    has (offsets_in octets) i ≡ (bit_at (get_or octets (i / 8) 0) (i % 8) == 1)
unfolding offsets_in
has-offsets_in octets i below = has-filter_range (λ i. bit_at (get_or octets (i / 8) 0) (i % 8) == 1) 0
    (8 * length octets) i (omega arith) (omega arith)

pub set_of-octets : (end n : ℕ) (octets : List ℕ) → end ≡ 8 * length octets →
    ((i : ℕ) → i < end → bit_at n i ≡ bit_at (get_or octets (i / 8) 0) (i % 8)) →
    set_of end n ≡ offsets_in octets
set_of-octets end n octets is bits =
    set_of_from_bits end n (offsets_in octets) (rises_wider 0 (8 * length octets) 0 end (offsets_in octets)
    (omega arith) (omega arith) (offsets_in_are_offsets octets))
    (λ i below. ap (λ b. b == 1) (bits i below) ∙ sym (has-offsets_in octets i (omega arith)))

-- bit j of octet k of a number is its bit 8 k + j
pub bit_at-byte : (n k j : ℕ) → j < 8 → bit_at (n / 2 ^ (8 * k) % 256) j ≡ bit_at n (8 * k + j)
bit_at-byte n k j small =
    sym (bit_at_cat_low (n / 2 ^ (8 * k) / 2 ^ 8) 8 (n / 2 ^ (8 * k) % 2 ^ 8) j small)
    ∙ ap (λ m. bit_at m j) (shr_split (n / 2 ^ (8 * k)) 8)
    ∙ bit_at-shr n (8 * k) j ∙ ap (λ i. bit_at n i) (omega arith)

-- octet k of a word of 64 bits
pub octet_of : (n k : ℕ) → k < 8 → get_or (to_le_bytes w64 n) k 0 ≡ n / 2 ^ (8 * k) % 256
octet_of n zero p = omega arith
octet_of n (suc zero) p = refl
octet_of n (suc (suc zero)) p = refl
octet_of n (suc (suc (suc zero))) p = refl
octet_of n (suc (suc (suc (suc zero)))) p = refl
octet_of n (suc (suc (suc (suc (suc zero))))) p = refl
octet_of n (suc (suc (suc (suc (suc (suc zero)))))) p = refl
octet_of n (suc (suc (suc (suc (suc (suc (suc zero))))))) p = refl
octet_of n (suc (suc (suc (suc (suc (suc (suc (suc k)))))))) p = absurd (omega arith)

-- the octets of a word of 64 bits represent the same set as the word
pub bit_at-octets : (n i : ℕ) → i < 64 → bit_at (get_or (to_le_bytes w64 n) (i / 8) 0) (i % 8) ≡ bit_at n i
bit_at-octets n i below =
    ap (λ o. bit_at o (i % 8)) (octet_of n (i / 8) (omega arith))
    ∙ bit_at-byte n (i / 8) (i % 8) (omega arith) ∙ ap (λ k. bit_at n k) (omega arith)

pub set_of-to_le_bytes : (n : ℕ) → offsets_in (to_le_bytes w64 n) ≡ set_of 64 n
set_of-to_le_bytes n = sym (set_of-octets 64 n (to_le_bytes w64 n) refl
    (λ i below. sym (bit_at-octets n i below)))

pub set_of-from_le_bytes : (octets : List ℕ) (n : ℕ) → length octets ≡ 8 →
    ((i : ℕ) → get_or octets i 0 < 256) → n ≡ from_le_bytes w64 octets → set_of 64 n ≡ offsets_in octets
set_of-from_le_bytes octets n long small is =
    sym (set_of-to_le_bytes n) ∙ ap offsets_in (le_bytes_8 octets n long small is)

-- ---- four words
pub bit_at-words : (ds : List ℕ) (i : ℕ) → ((k : ℕ) → get_or ds k 0 < 2 ^ 64) →
    bit_at (number_of_bits 64 ds) i ≡ bit_at (get_or ds (i / 64) 0) (i % 64)
bit_at-words ds i small = bit_at-number_of 64 ds i (omega arith) (digits_below (2 ^ 64) ds small)

-- the words after a bit was set in one of them
abbrev pub set_word : List ℕ → ℕ → ℕ → List ℕ
set_word ds k i = set ds k (bit_or (get_or ds k 0) (1 * 2 ^ (i % 64) % 2 ^ 64))

pub length-set_word : (ds : List ℕ) (k i : ℕ) → length ds ≡ 4 → length (set_word ds k i) ≡ 4
length-set_word ds k i long = length-set ds k (bit_or (get_or ds k 0) (1 * 2 ^ (i % 64) % 2 ^ 64)) ∙ long

pub small-set_word : (ds : List ℕ) (k i : ℕ) → ((k : ℕ) → get_or ds k 0 < 2 ^ 64) → (j : ℕ) →
    get_or (set_word ds k i) j 0 < 2 ^ 64
small-set_word ds k i small j = elim (cases_eq j k) [
  | inl same ↦ elim (cases_lt k (length ds)) [
    | inl inside ↦ subst (λ w. w < 2 ^ 64) (sym (get_or-set_at ds k j word 0 same inside))
        (or_lt 64 (get_or ds k 0) (1 * 2 ^ (i % 64) % 2 ^ 64) (small k)
        (mod_below (1 * 2 ^ (i % 64)) (2 ^ 64) (omega arith)))
    | inr outside ↦ subst (λ ws. get_or ws j 0 < 2 ^ 64) (sym (set_past ds k word outside)) (small j)
  ]
  | inr other ↦ subst (λ w. w < 2 ^ 64) (sym (get_or-set_other ds k j word 0 other)) (small j)
]
  where
    word : ℕ
    word = bit_or (get_or ds k 0) (1 * 2 ^ (i % 64) % 2 ^ 64)

pub set_of-set_word : (ds : List ℕ) (k i : ℕ) → i < 256 → length ds ≡ 4 → ((k : ℕ) → get_or ds k 0 < 2 ^ 64) →
    k ≡ i / 64 → set_of 256 (number_of_bits 64 (set_word ds k i))
    ≡ with_member i (set_of 256 (number_of_bits 64 ds))
set_of-set_word ds k i below long small is = set_of_from_bits 256 (number_of_bits 64 (set_word ds k i))
    (with_member i (set_of 256 (number_of_bits 64 ds)))
    (rises-with_member 0 256 i (set_of 256 (number_of_bits 64 ds)) (omega arith) below
    (set_of_is_offsets 256 (number_of_bits 64 ds))) each
  where
    number : ℕ
    number = number_of_bits 64 ds

    word : ℕ
    word = bit_or (get_or ds k 0) (1 * 2 ^ (i % 64) % 2 ^ 64)

    turned : (a b : Bool) → (a || b) ≡ (b || a)
    turned true true = refl
    turned true false = refl
    turned false true = refl
    turned false false = refl

    before : (j : ℕ) → (bit_at (get_or ds (j / 64) 0) (j % 64) == 1) ≡ (bit_at number j == 1)
    before j = ap (λ b. b == 1) (sym (bit_at-words ds j small))

    here : (j : ℕ) → j / 64 ≡ k → (bit_at word (j % 64) == 1) ≡ ((i == j) || (bit_at number j == 1))
    here j same =
        ap (λ power. bit_at (bit_or (get_or ds k 0) power) (j % 64) == 1) (one_shl (i % 64) 64 (omega arith))
        ∙ bit_test_or (get_or ds k 0) (2 ^ (i % 64)) (j % 64)
        ∙ turned (bit_at (get_or ds k 0) (j % 64) == 1) (bit_at (2 ^ (i % 64)) (j % 64) == 1)
        ∙ ap (λ b. b || (bit_at (get_or ds k 0) (j % 64) == 1))
        (bit_test_pow (i % 64) (j % 64) ∙ places j same)
        ∙ ap (λ m. (i == j) || (bit_at (get_or ds m 0) (j % 64) == 1)) (sym same)
        ∙ ap (λ b. (i == j) || b) (before j)
      where
        places : (j : ℕ) → j / 64 ≡ k → (i % 64 == j % 64) ≡ (i == j)
        places j same = elim (cases_eq i j) [
          | inl e ↦ eq-eqb (i % 64) (j % 64) (ap (λ x. x % 64) e) ∙ sym (eq-eqb i j e)
          | inr o ↦ ne_eqb (i % 64) (j % 64) (λ q. o (omega arith)) ∙ sym (ne_eqb i j o)
        ]

    there : (j : ℕ) → (j / 64 ≡ k → ⊥) → (bit_at (get_or ds (j / 64) 0) (j % 64) == 1)
        ≡ ((i == j) || (bit_at number j == 1))
    there j other = before j ∙ ap (λ b. b || (bit_at number j == 1))
        (sym (ne_eqb i j (λ e. other (omega arith))))

    set_at : (j : ℕ) → (bit_at (get_or (set_word ds k i) (j / 64) 0) (j % 64) == 1)
        ≡ ((i == j) || (bit_at number j == 1))
    set_at j = elim (cases_eq (j / 64) k) [
      | inl same ↦ ap (λ w. bit_at w (j % 64) == 1) (get_or-set_at ds k (j / 64) word 0 same (omega arith))
          ∙ here j same
      | inr other ↦ ap (λ w. bit_at w (j % 64) == 1) (get_or-set_other ds k (j / 64) word 0 other)
          ∙ there j other
    ]

    each : (j : ℕ) → j < 256 → (bit_at (number_of_bits 64 (set_word ds k i)) j == 1)
        ≡ has (with_member i (set_of 256 number)) j
    each j within =
        ap (λ b. b == 1) (bit_at-words (set_word ds k i) j (small-set_word ds k i small)) ∙ set_at j
        ∙ ap (λ b. (i == j) || b) (sym (has-set_of 256 number j within))
        ∙ sym (has-with_member i (set_of 256 number) j)

-- four words and their bits
pub bit_at-four : (a b c d : ℕ) (bit : ℕ → ℕ) → a < 2 ^ 64 → b < 2 ^ 64 → c < 2 ^ 64 → d < 2 ^ 64
    → ((i : ℕ) → i < 64 → bit_at a i ≡ bit i) → ((i : ℕ) → i < 64 → bit_at b i ≡ bit (i + 64))
    → ((i : ℕ) → i < 64 → bit_at c i ≡ bit (i + 128)) → ((i : ℕ) → i < 64 → bit_at d i ≡ bit (i + 192))
    → (i : ℕ) → i < 256 → bit_at (number_of_bits 64 (a ∷ b ∷ c ∷ d ∷ [])) i ≡ bit i
bit_at-four a b c d bit sa sb sc sd pa pb pc pd i below =
    bit_at-number_of 64 (a ∷ b ∷ c ∷ d ∷ []) i (omega arith) (sa, (sb, (sc, (sd, tt))))
    ∙ pick (i / 64) (i % 64) (omega arith) (omega arith) ∙ ap bit (omega arith)
  where
    pick : (k j : ℕ) → k < 4 → j < 64 → bit_at (get_or (a ∷ b ∷ c ∷ d ∷ []) k 0) j ≡ bit (j + 64 * k)
    pick zero j few low = pa j low ∙ ap bit (omega arith)
    pick (suc zero) j few low = pb j low
    pick (suc (suc zero)) j few low = pc j low
    pick (suc (suc (suc zero))) j few low = pd j low
    pick (suc (suc (suc (suc k)))) j few low = absurd (omega arith)

-- 64 bits across two words
pub bit_at-pair : (ds : List ℕ) (from i : ℕ) → ((k : ℕ) → get_or ds k 0 < 2 ^ 64) → 0 < from % 64 → i < 64
    → bit_at (bit_or (get_or ds (from / 64) 0 / 2 ^ (from % 64))
    (get_or ds (from / 64 + 1) 0 * 2 ^ (64 - from % 64) % 2 ^ 64)) i
    ≡ bit_at (get_or ds ((i + from) / 64) 0) ((i + from) % 64)
bit_at-pair ds from i small some below = bit_at_or (low / 2 ^ (from % 64))
    (high * 2 ^ (64 - from % 64) % 2 ^ 64) i ∙ elim (cases_lt (i + from % 64) 64) [
      | inl inside ↦
          largest_left (bit_at (low / 2 ^ (from % 64)) i) (bit_at (high * 2 ^ (64 - from % 64) % 2 ^ 64) i)
          (bit_at-mod i below ∙ bit_at-shl_low i (omega arith)) ∙ bit_at-shr low (from % 64) i
          ∙ ap (λ k. bit_at (get_or ds k 0) (i + from % 64)) (omega arith)
          ∙ ap (λ j. bit_at (get_or ds ((i + from) / 64) 0) j) (omega arith)
      | inr outside ↦
          largest_right (bit_at (low / 2 ^ (from % 64)) i) (bit_at (high * 2 ^ (64 - from % 64) % 2 ^ 64) i)
          (bit_at-shr low (from % 64) i ∙ bit_at_above low 64 (i + from % 64) (small (from / 64)) outside)
          ∙ bit_at-mod i below ∙ bit_at-shl_high i (omega arith)
          ∙ ap (λ k. bit_at (get_or ds k 0) (i - (64 - from % 64))) (omega arith)
          ∙ ap (λ j. bit_at (get_or ds ((i + from) / 64) 0) j) (omega arith)
    ]
  where
    low : ℕ
    low = get_or ds (from / 64) 0

    high : ℕ
    high = get_or ds (from / 64 + 1) 0

    largest_left : (a b : ℕ) → b ≡ 0 → max a b ≡ a
    largest_left a b e = omega arith

    largest_right : (a b : ℕ) → a ≡ 0 → max a b ≡ b
    largest_right a b e = omega arith

    bit_at-mod : (i : ℕ) → i < 64 → bit_at (high * 2 ^ (64 - from % 64) % 2 ^ 64) i
        ≡ bit_at (high * 2 ^ (64 - from % 64)) i
    bit_at-mod i below = sym (bit_at_cat_low (high * 2 ^ (64 - from % 64) / 2 ^ 64) 64
        (high * 2 ^ (64 - from % 64) % 2 ^ 64) i below)
        ∙ ap (λ m. bit_at m i) (shr_split (high * 2 ^ (64 - from % 64)) 64)

    bit_at-shl_low : (i : ℕ) → i < 64 - from % 64 → bit_at (high * 2 ^ (64 - from % 64)) i ≡ 0
    bit_at-shl_low i less = ap (λ m. bit_at m i) (omega arith) ∙ bit_at_cat_low high (64 - from % 64) 0 i less
        ∙ bit_at-zero i

    bit_at-shl_high : (i : ℕ) → 64 - from % 64 ≤ i →
        bit_at (high * 2 ^ (64 - from % 64)) i ≡ bit_at high (i - (64 - from % 64))
    bit_at-shl_high i more = ap (λ m. bit_at m i) (omega arith)
        ∙ bit_at_cat_high high (64 - from % 64) 0 i (pow_pos (64 - from % 64)) more

-- the octets of the words represent the same set as the words, octet by octet
pub set_of-words : (ds octets : List ℕ) → length octets ≡ 32 → ((k : ℕ) → get_or ds k 0 < 2 ^ 64)
    → ((k : ℕ) → k < 32 → get_or octets k 0 ≡ get_or (to_le_bytes w64 (get_or ds (k / 8) 0)) (k % 8) 0) →
    set_of 256 (number_of_bits 64 ds) ≡ offsets_in octets
set_of-words ds octets long small each = set_of-octets 256 (number_of_bits 64 ds) octets (omega arith) bits
  where
    bits : (i : ℕ) → i < 256 → bit_at (number_of_bits 64 ds) i ≡ bit_at (get_or octets (i / 8) 0) (i % 8)
    bits i below =
        bit_at-words ds i small ∙ sym (bit_at-octets (get_or ds (i / 64) 0) (i % 64) (omega arith))
        ∙ ap (λ k. bit_at (get_or (to_le_bytes w64 (get_or ds (i / 64) 0)) k 0) (i % 64 % 8)) (omega arith)
        ∙ ap (λ k. bit_at (get_or (to_le_bytes w64 (get_or ds k 0)) (i / 8 % 8) 0) (i % 64 % 8)) (omega arith)
        ∙ ap (λ j. bit_at (get_or (to_le_bytes w64 (get_or ds (i / 8 / 8) 0)) (i / 8 % 8) 0) j) (omega arith)
        ∙ ap (λ o. bit_at o (i % 8)) (sym (each (i / 8) (omega arith)))

-- the word of eight octets of a list
pub bit_at-eight : (octets : List ℕ) (from n i : ℕ) → ((k : ℕ) → get_or octets k 0 < 256) → i < 64
    → n ≡ from_le_bytes w64 (get_or octets from 0 ∷ get_or octets (from + 1) 0 ∷ get_or octets (from + 2) 0
    ∷ get_or octets (from + 3) 0 ∷ get_or octets (from + 4) 0 ∷ get_or octets (from + 5) 0
    ∷ get_or octets (from + 6) 0 ∷ get_or octets (from + 7) 0 ∷ [])
    → bit_at n i ≡ bit_at (get_or octets (from + i / 8) 0) (i % 8)
bit_at-eight octets from n i small below is =
    sym (bit_at-octets n i below) ∙ ap (λ os. bit_at (get_or os (i / 8) 0) (i % 8))
    (le_bytes_8 eight n refl eight_small is) ∙ ap (λ o. bit_at o (i % 8)) (pick (i / 8) (omega arith))
  where
    eight : List ℕ
    eight = get_or octets from 0 ∷ get_or octets (from + 1) 0 ∷ get_or octets (from + 2) 0
        ∷ get_or octets (from + 3) 0 ∷ get_or octets (from + 4) 0 ∷ get_or octets (from + 5) 0
        ∷ get_or octets (from + 6) 0 ∷ get_or octets (from + 7) 0 ∷ []

    pick : (k : ℕ) → k < 8 → get_or eight k 0 ≡ get_or octets (from + k) 0
    pick zero few = ap (λ k. get_or octets k 0) (omega arith)
    pick (suc zero) few = refl
    pick (suc (suc zero)) few = refl
    pick (suc (suc (suc zero))) few = refl
    pick (suc (suc (suc (suc zero)))) few = refl
    pick (suc (suc (suc (suc (suc zero))))) few = refl
    pick (suc (suc (suc (suc (suc (suc zero)))))) few = refl
    pick (suc (suc (suc (suc (suc (suc (suc zero))))))) few = refl
    pick (suc (suc (suc (suc (suc (suc (suc (suc k)))))))) few = absurd (omega arith)

    eight_small : (k : ℕ) → get_or eight k 0 < 256
    eight_small k = elim (cases_lt k 8) [
      | inl few ↦ subst (λ o. o < 256) (sym (pick k few)) (small (from + k))
      | inr past ↦ subst (λ o. o < 256) (sym (get_or_past eight k 0 past)) (omega arith)
    ]

pub four_words-lt : (ds : List ℕ) → length ds ≡ 4 → ((k : ℕ) → get_or ds k 0 < 2 ^ 64) →
    number_of_bits 64 ds < 2 ^ 256
four_words-lt ds long small = subst (λ n. number_of_bits 64 ds < 2 ^ (64 * n)) long
    (number_of-lt 64 ds (digits_below (2 ^ 64) ds small))

-- the size of a set of 256 offsets is the number of ones in its four words
pub length-words : (ds : List ℕ) → length ds ≡ 4 → ((k : ℕ) → get_or ds k 0 < 2 ^ 64) →
    sum_by count_ones ds ≡ length (set_of 256 (number_of_bits 64 ds))
length-words ds long small = sym (length-set_of 256 (number_of_bits 64 ds) (four_words-lt ds long small)
    ∙ length-set_of-number_of ds (digits_below (2 ^ 64) ds small))

-- two sets of 256 offsets are compared word by word
pub same_words : (a b xs ys : List ℕ) → length a ≡ 4 → ((k : ℕ) → get_or a k 0 < 2 ^ 64) → length b ≡ 4 →
    ((k : ℕ) → get_or b k 0 < 2 ^ 64)
    → set_of 256 (number_of_bits 64 a) ≡ xs → set_of 256 (number_of_bits 64 b) ≡ ys
    → pointwise eqb a b ≡ (eqb (bits_word 0 xs) (bits_word 0 ys)
    && (eqb (bits_word 1 xs) (bits_word 1 ys)
    && (eqb (bits_word 2 xs) (bits_word 2 ys) && (eqb (bits_word 3 xs) (bits_word 3 ys) && true))))
same_words a b xs ys la sa lb sb va vb = ap (λ ws. pointwise eqb ws b) (sym (words_of_four a la sa))
    ∙ ap (pointwise eqb (words (set_of 256 (number_of_bits 64 a)))) (sym (words_of_four b lb sb))
    ∙ ap (λ s. pointwise eqb (words s) (words (set_of 256 (number_of_bits 64 b)))) va
    ∙ ap (λ s. pointwise eqb (words xs) (words s)) vb
  where
    words : List ℕ → List ℕ
    words s = bits_word 0 s ∷ bits_word 1 s ∷ bits_word 2 s ∷ bits_word 3 s ∷ []
