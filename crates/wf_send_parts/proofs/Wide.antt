-- Proves that octets of zeros after a bitmap add no offset to it.
use Rattle.std.proofs.Common.{◌≡◌, refl, ap, ◌∙◌, arith, ℕ, zero, suc, ◌+◌, ◌*◌, ◌^◌, ◌<◌, ◌≤◌, ◌==◌, Bool, false, List, [], ◌∷◌, ◌++◌, ◌-◌, length, length-append, filter, replicate, inl, inr}
use Rattle.std.specs.Prelude.{◌/◌, ◌%◌, slice_index}
use Rattle.std.specs.List.{range_with_len}
use Rattle.std.specs.Int.{bit_at}
use Rattle.std.proofs.lemmas.Bool.{cases_Bool, ne_eqb}
use Rattle.std.proofs.lemmas.List.{get_or_append_left, get_or-append_right, length-replicate}
use Rattle.wf_octets.specs.Offsets.{offsets_in}

none_pass : (p : ℕ → Bool) (from n : ℕ) → ((i : ℕ) → from ≤ i → p i ≡ false) →
    filter p (range_with_len from n) ≡ []
none_pass p from zero none = refl
none_pass p from (suc n) none = rw (none from (omega arith))
    (none_pass p (from + 1) n (λ i low. none i (omega (arith, low))))

-- two tests that agree on the first n numbers, if the first test passes none after these
first_pass : (p q : ℕ → Bool) (from n more : ℕ) → ((i : ℕ) → from ≤ i → i < from + n → p i ≡ q i) →
    ((i : ℕ) → from + n ≤ i → p i ≡ false) → filter p (range_with_len from (n + more))
    ≡ filter q (range_with_len from n)
first_pass p q from zero more agree none = let e : 0 + more ≡ more = omega arith in
    rw e (none_pass p from more (λ i low. none i (omega (arith, low))))
first_pass p q from (suc n) more agree none =
    let e : suc n + more ≡ suc (n + more) = omega arith in
    let rest : filter p (range_with_len (from + 1) (n + more)) ≡ filter q (range_with_len (from + 1) n) =
    first_pass p q (from + 1) n more (λ i low high. agree i (omega (arith, low)) (omega (arith, high)))
    (λ i low. none i (omega (arith, low))) in
    rw e (elim (cases_Bool (q from)) [
      | inl passes ↦ rw (agree from (omega arith) (omega arith) ∙ passes, passes)
          (ap (λ (xs : List ℕ). from ∷ xs) rest)
      | inr fails ↦ rw (agree from (omega arith) (omega arith) ∙ fails, fails) rest
    ])

-- the number 0 has no bit
no_bit : (j : ℕ) → (bit_at 0 j == 1) ≡ false
no_bit j = ne_eqb (bit_at 0 j) 1 (λ e. omega (arith, e, nothing (2 ^ j)))
  where
    nothing : (a : ℕ) → 0 / a % 2 ≡ 0
    nothing a = omega arith

zero_at : (n k : ℕ) → slice_index (replicate n 0) k ≡ 0
zero_at zero k = refl
zero_at (suc n) zero = refl
zero_at (suc n) (suc k) = zero_at n k

pub shown_wide : (narrow : List ℕ) (more : ℕ) → offsets_in (narrow ++ replicate more 0) ≡ offsets_in narrow
unfolding offsets_in
shown_wide narrow more =
    let wide : List ℕ = narrow ++ replicate more 0 in
    let eight : 8 * length wide ≡ 8 * length narrow + 8 * more =
    omega (arith, length-append narrow (replicate more 0), length-replicate {A = ℕ} more 0) in
    ap (λ (n : ℕ). filter (λ i. bit_at (slice_index wide (i / 8)) (i % 8) == 1) (range_with_len 0 n)) eight
    ∙ first_pass (λ i. bit_at (slice_index wide (i / 8)) (i % 8) == 1)
    (λ i. bit_at (slice_index narrow (i / 8)) (i % 8) == 1) 0 (8 * length narrow) (8 * more)
    (λ i low high. ap (λ (x : ℕ). bit_at x (i % 8) == 1)
    (get_or_append_left narrow (replicate more 0) 0 (i / 8) (omega (arith, high))))
    (λ i low. ap (λ (x : ℕ). bit_at x (i % 8) == 1)
    (get_or-append_right narrow (replicate more 0) (length narrow) (i / 8) 0 refl (omega (arith, low))
    ∙ zero_at more (i / 8 - length narrow)) ∙ no_bit (i % 8))
