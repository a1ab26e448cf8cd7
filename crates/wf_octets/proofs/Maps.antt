-- Computes the bitmap of the AIDs that are present: its octets as sums of powers of 2, and their bits.
use Rattle.std.proofs.Common.{◌≡◌, ℕ, ◌+◌, ◌-◌, ◌*◌, ◌/◌, ◌%◌, ◌^◌, ◌<◌, ◌≤◌, ◌==◌, nat_lt, zero, suc, min, Bool, true, false, cond, ◌&&◌, List, [], ◌∷◌, ◌++◌, filter, get_or, sum_by, refl, sym, ◌∙◌, ap, subst, inl, inr, arith, if◌then◌else◌, pow_mono}
use Rattle.std.proofs.lemmas.Bool.{cases_Bool, cases_eq, cases_lt, eq-eqb, ne_eqb, lt-ltb, le-ltb, and_right}
use Rattle.std.proofs.lemmas.List.Sums.{sum_by-append}
use Rattle.std.proofs.lemmas.List.Elements.{filter-append}
use Rattle.std.proofs.lemmas.Nat.{pow_pos, pow-add}
use Rattle.std.proofs.lemmas.Nat.Bits.{bit_at_cat_low, bit_at_cat_high, bit_at-zero, bit_at-suc}
use Rattle.std.specs.List.{range_with_len}
use Rattle.wf_octets.specs.Fields.{is_set}
use Rattle.wf_def_tim.specs.Tim.{map_octet}

-- the numbers below m whose entry is true
abbrev pub below : List Bool → ℕ → List ℕ
below present m = filter (λ n. get_or present n false) (range_with_len 0 m)

range_more : (a n : ℕ) → range_with_len a (suc n) ≡ range_with_len a n ++ (a + n) ∷ []
range_more a zero = ap (λ x. x ∷ []) (omega arith)
range_more a (suc n) = ap (λ xs. a ∷ xs) (range_more (a + 1) n
    ∙ ap (λ x. range_with_len (a + 1) n ++ x ∷ []) (omega arith))

pub below_more : (present : List Bool) (m : ℕ) →
    below present (suc m) ≡ below present m ++ cond (get_or present m false) (m ∷ []) []
below_more present m =
    ap (λ xs. filter (λ n. get_or present n false) xs) (range_more 0 m)
    ∙ filter-append (λ n. get_or present n false) (range_with_len 0 m) ((0 + m) ∷ [])
    ∙ ap (λ k. below present m ++ cond (get_or present k false) (k ∷ []) []) (omega arith)

-- ---- an octet of the bitmap
worth : ℕ → ℕ → ℕ
worth k a = if a / 8 == k then 2 ^ (a % 8) else 0

worth_here : (k a : ℕ) → a / 8 ≡ k → worth k a ≡ 2 ^ (a % 8)
unfolding worth
worth_here k a e = rw (eq-eqb (a / 8) k e) refl

worth_other : (k a : ℕ) → (a / 8 ≡ k → ⊥) → worth k a ≡ 0
unfolding worth
worth_other k a o = rw (ne_eqb (a / 8) k o) refl

octet_more : (present : List Bool) (k m : ℕ) →
    map_octet (below present (suc m)) k ≡ map_octet (below present m) k + cond (get_or present m false)
    (worth k m) 0
unfolding worth
octet_more present k m =
    ap (λ xs. map_octet xs k) (below_more present m)
    ∙ sum_by-append (worth k) (below present m) (cond (get_or present m false) (m ∷ []) [])
    ∙ ap (λ n. map_octet (below present m) k + n) (one (get_or present m false))
  where
    one : (b : Bool) → sum_by (worth k) (cond b (m ∷ []) []) ≡ cond b (worth k m) 0
    one true = omega arith
    one false = refl

-- one more AID: its bit is added if it belongs to this octet
pub octet_with : (present : List Bool) (k m : ℕ) → get_or present m false ≡ true → m / 8 ≡ k →
    map_octet (below present (suc m)) k ≡ map_octet (below present m) k + 2 ^ (m % 8)
octet_with present k m here at = octet_more present k m
    ∙ ap (λ b. map_octet (below present m) k + cond b (worth k m) 0) here
    ∙ ap (λ w. map_octet (below present m) k + w) (worth_here k m at)

pub octet_without : (present : List Bool) (k m : ℕ) → get_or present m false ≡ false →
    map_octet (below present (suc m)) k ≡ map_octet (below present m) k
octet_without present k m gone = octet_more present k m
    ∙ ap (λ b. map_octet (below present m) k + cond b (worth k m) 0) gone ∙ omega arith

pub octet_elsewhere : (present : List Bool) (k m : ℕ) → (m / 8 ≡ k → ⊥) →
    map_octet (below present (suc m)) k ≡ map_octet (below present m) k
octet_elsewhere present k m other = octet_more present k m
    ∙ ap (λ w. map_octet (below present m) k + cond (get_or present m false) w 0) (worth_other k m other)
    ∙ none (get_or present m false)
  where
    none : (b : Bool) → map_octet (below present m) k + cond b 0 0 ≡ map_octet (below present m) k
    none true = omega arith
    none false = omega arith

pub octet_small : (present : List Bool) (k m : ℕ) → map_octet (below present m) k < 2 ^ (min (m - 8 * k) 8)
octet_small present k zero = pow_pos (min (0 - 8 * k) 8)
octet_small present k (suc m) = elim (cases_eq (m / 8) k) [
  | inl at ↦ elim (cases_Bool (get_or present m false)) [
    | inl here ↦ subst (λ v. v < 2 ^ (min (suc m - 8 * k) 8)) (sym (octet_with present k m here at))
        (doubled at (octet_small present k m))
    | inr gone ↦ subst (λ v. v < 2 ^ (min (suc m - 8 * k) 8)) (sym (octet_without present k m gone))
        (wider (octet_small present k m))
  ]
  | inr other ↦ subst (λ v. v < 2 ^ (min (suc m - 8 * k) 8)) (sym (octet_elsewhere present k m other))
      (wider (octet_small present k m))
]
  where
    wider : map_octet (below present m) k < 2 ^ (min (m - 8 * k) 8) →
        map_octet (below present m) k < 2 ^ (min (suc m - 8 * k) 8)
    wider small = let more : 2 ^ (min (m - 8 * k) 8) ≤ 2 ^ (min (suc m - 8 * k) 8) = pow_mono (omega arith) in
        omega arith

    doubled : m / 8 ≡ k → map_octet (below present m) k < 2 ^ (min (m - 8 * k) 8) →
        map_octet (below present m) k + 2 ^ (m % 8) < 2 ^ (min (suc m - 8 * k) 8)
    doubled at small =
        let before : min (m - 8 * k) 8 ≡ m % 8 = omega arith in
        let after : min (suc m - 8 * k) 8 ≡ m % 8 + 1 = omega arith in
        let less : map_octet (below present m) k < 2 ^ (m % 8) =
        subst (λ e. map_octet (below present m) k < 2 ^ e) before small in
        let twice : 2 ^ (m % 8 + 1) ≡ 2 ^ (m % 8) * 2 = pow-add 2 (m % 8) 1 in
        subst (λ e. map_octet (below present m) k + 2 ^ (m % 8) < 2 ^ e) (sym after) (omega arith)

-- ---- the bits of an octet are entries
-- whether an entry below m is true
abbrev entry_below : List Bool → ℕ → ℕ → Bool
entry_below present m n = nat_lt n m && get_or present n false

below_same : (present : List Bool) (m n : ℕ) → (n ≡ m → ⊥) →
    entry_below present m n ≡ entry_below present (suc m) n
below_same present m n other = elim (cases_lt n m) [
  | inl less ↦ ap (λ b. b && get_or present n false) (lt-ltb n m less ∙ sym (lt-ltb n (suc m) (omega arith)))
  | inr more ↦ ap (λ b. b && get_or present n false) (le-ltb n m more ∙ sym (le-ltb n (suc m) (past more)))
]
  where
    past : m ≤ n → suc m ≤ n
    past more = elim (cases_lt m n) [ inl less ↦ omega arith | inr not_less ↦ absurd (other (omega arith)) ]

below_gone : (present : List Bool) (m n : ℕ) → get_or present m false ≡ false →
    entry_below present m n ≡ entry_below present (suc m) n
below_gone present m n gone = elim (cases_eq n m) [
  | inl same ↦ and_right (nat_lt n m) (get_or present n false) (nothing same)
      ∙ sym (and_right (nat_lt n (suc m)) (get_or present n false) (nothing same))
  | inr other ↦ below_same present m n other
]
  where
    nothing : n ≡ m → get_or present n false ≡ false
    nothing same = ap (λ i. get_or present i false) same ∙ gone

one_above : (i : ℕ) → 0 < i → is_set 1 i ≡ false
one_above zero some = absurd (omega arith)
one_above (suc i) some = ap (λ b. b == 1) (bit_at-suc 1 i ∙ bit_at-zero i)

-- the bit that one more AID sets, and the other bits
bit_with : (v i j : ℕ) → v < 2 ^ i → j < i → is_set (v + 2 ^ i) j ≡ is_set v j
bit_with v i j small low = ap (λ x. is_set x j) (turned v (2 ^ i))
    ∙ ap (λ b. b == 1) (bit_at_cat_low 1 i v j low)
  where
    turned : (a b : ℕ) → a + b ≡ 1 * b + a
    turned a b = omega arith

bit_from : (v i j : ℕ) → v < 2 ^ i → i ≤ j → is_set (v + 2 ^ i) j ≡ is_set 1 (j - i)
bit_from v i j small high = ap (λ x. is_set x j) (turned v (2 ^ i))
    ∙ ap (λ b. b == 1) (bit_at_cat_high 1 i v j small high)
  where
    turned : (a b : ℕ) → a + b ≡ 1 * b + a
    turned a b = omega arith

bit_more : (present : List Bool) (v k j m : ℕ) → v < 2 ^ (m % 8) → m / 8 ≡ k → j < 8 →
    get_or present m false ≡ true → is_set v j ≡ entry_below present m (8 * k + j)
    → is_set (v + 2 ^ (m % 8)) j ≡ entry_below present (suc m) (8 * k + j)
bit_more present v k j m small at few here before = elim (cases_lt j (m % 8)) [
  | inl low ↦ bit_with v (m % 8) j small low ∙ before ∙ below_same present m (8 * k + j) (λ e. omega arith)
  | inr high ↦ bit_from v (m % 8) j small high ∙ elim (cases_lt (m % 8) j) [
    | inl above ↦ one_above (j - m % 8) (omega arith)
        ∙ sym (ap (λ b. b && get_or present (8 * k + j) false) (le-ltb (8 * k + j) (suc m) (omega arith)))
    | inr equal ↦ ap (λ i. is_set 1 i) (none equal)
        ∙ sym (ap (λ b. b && get_or present (8 * k + j) false) (lt-ltb (8 * k + j) (suc m) (omega arith))
        ∙ ap (λ n. get_or present n false) (place high equal) ∙ here)
  ]
]
  where
    none : j ≤ m % 8 → j - m % 8 ≡ 0
    none equal = omega arith

    place : m % 8 ≤ j → j ≤ m % 8 → 8 * k + j ≡ m
    place high equal = omega arith

-- each bit of the octet is an entry
pub octet_bit : (present : List Bool) (k j m : ℕ) → j < 8 →
    is_set (map_octet (below present m) k) j ≡ (nat_lt (8 * k + j) m && get_or present (8 * k + j) false)
octet_bit present k j zero few = ap (λ b. b == 1) (bit_at-zero j)
    ∙ sym (ap (λ b. b && get_or present (8 * k + j) false) (le-ltb (8 * k + j) 0 (omega arith)))
octet_bit present k j (suc m) few = elim (cases_eq (m / 8) k) [
  | inl at ↦ elim (cases_Bool (get_or present m false)) [
    | inl here ↦ ap (λ v. is_set v j) (octet_with present k m here at)
        ∙ bit_more present (map_octet (below present m) k) k j m (small at) at few here
        (octet_bit present k j m few)
    | inr gone ↦ ap (λ v. is_set v j) (octet_without present k m gone) ∙ octet_bit present k j m few
        ∙ below_gone present m (8 * k + j) gone
  ]
  | inr other ↦ ap (λ v. is_set v j) (octet_elsewhere present k m other) ∙ octet_bit present k j m few
      ∙ below_same present m (8 * k + j) (λ e. other (omega arith))
]
  where
    small : m / 8 ≡ k → map_octet (below present m) k < 2 ^ (m % 8)
    small at = let exponent : min (m - 8 * k) 8 ≡ m % 8 = omega arith in
        subst (λ e. map_octet (below present m) k < 2 ^ e) exponent (octet_small present k m)
