-- Proves that the shortest TIM element has the layout, and that the loop over the entries computes its bitmap
-- and its first and last AID.
use Rattle.std.proofs.Common.{◌≡◌, ℕ, ◌+◌, ◌-◌, ◌*◌, ◌/◌, ◌%◌, ◌^◌, ◌<◌, ◌≤◌, ◌==◌, nat_lt, nat_le, zero, suc, Bool, true, false, cond, ◌&&◌, List, [], ◌∷◌, ◌++◌, length, map, get_or, take, drop, Option, Some, None, IfSome, refl, sym, ◌∙◌, ap, subst, inl, inr, ◌⊎◌, arith, set, add-one, get_or-set_other, min, append-nil, drop-cons, pow_mono, if◌then◌else◌}
use Rattle.std.proofs.lemmas.Bool.{cases_Bool, cases_eq, cases_lt, lt-ltb, le-ltb, le-leb, lt-leb, both_ways, false_from_ne_true}
use Rattle.std.proofs.lemmas.Nat.Bits.{bit_at-zero, bit_at-lt, same_from_bits_below}
use Rattle.std.proofs.lemmas.List.{get_or_past, length-map}
use Rattle.std.proofs.lemmas.Grind.{get_or-set_at}
use Rattle.std.proofs.lemmas.Nat.{one_shl}
use Rattle.std.specs.Int.{bit_at}
use mir.Val.{bool_byte}
use Rattle.wf_octets.specs.Fields.{is_set}
use Rattle.wf_octets.specs.declared.tim.Tim.{Tim}
use Rattle.wf_octets.specs.Tim.{IsTim, whole_octet, aids_of, ends_of, octets_between}
use Rattle.wf_def_tim.specs.Tim.{map_octet, last_of, tim_element, with_group_bit}
use Rattle.wf_def_lists.specs.Table.{count_from}
use Rattle.wf_octets.proofs.Maps.{below, below_more, octet_bit, octet_small, octet_with, octet_without, octet_elsewhere}

-- each bit of the whole bitmap is an entry
pub entry_bit : (present : List Bool) (k j : ℕ) → j < 8 →
    is_set (map_octet (aids_of present) k) j ≡ get_or present (8 * k + j) false
entry_bit present k j few = octet_bit present k j (length present) few
    ∙ elim (cases_lt (8 * k + j) (length present)) [
      | inl inside ↦ ap (λ b. b && get_or present (8 * k + j) false) (lt-ltb (8 * k + j) (length present) inside)
      | inr past ↦ ap (λ b. b && get_or present (8 * k + j) false) (le-ltb (8 * k + j) (length present) past)
          ∙ sym (get_or_past present (8 * k + j) false past)
    ]

-- ---- the first and the last
abbrev pub ends_with : List ℕ → ℕ → Option (ℕ × ℕ)
ends_with [] n = Some (n, n)
ends_with (a ∷ others) n = Some (a, n)

last_push : (others : List ℕ) (a n : ℕ) → last_of a (others ++ n ∷ []) ≡ n
last_push [] a n = refl
last_push (b ∷ others) a n = last_push others b n

pub ends_push : (xs : List ℕ) (n : ℕ) → ends_of (xs ++ n ∷ []) ≡ ends_with xs n
ends_push [] n = refl
ends_push (a ∷ others) n = ap (λ l. Some (a, l)) (last_push others a n)

pub record Span (present : List Bool) (m low high : ℕ) : Type 0 where
  pub least : (n : ℕ) → n < m → get_or present n false ≡ true → low ≤ n
  pub most : (n : ℕ) → n < m → get_or present n false ≡ true → n ≤ high
  pub ordered : low ≤ high
  pub inside : high < m

none_of : (present : List Bool) (m n : ℕ) → below present m ≡ [] → n < m → get_or present n false ≡ true → ⊥
none_of present m n empty less here =
    let shown : is_set (map_octet (below present m) (n / 8)) (n % 8)
    ≡ (nat_lt (8 * (n / 8) + n % 8) m && get_or present (8 * (n / 8) + n % 8) false) =
    octet_bit present (n / 8) (n % 8) m (omega arith) in
    let clear : is_set (map_octet (below present m) (n / 8)) (n % 8) ≡ false =
    ap (λ xs. is_set (map_octet xs (n / 8)) (n % 8)) empty ∙ ap (λ b. b == 1) (bit_at-zero (n % 8)) in
    let at : 8 * (n / 8) + n % 8 ≡ n = omega arith in
    both_ways (is_set (map_octet (below present m) (n / 8)) (n % 8)) clear
    (shown ∙ ap (λ i. nat_lt i m && get_or present i false) at
    ∙ ap (λ b. b && get_or present n false) (lt-ltb n m less) ∙ here)

lower : (m n : ℕ) → (n ≡ m → ⊥) → n < suc m → n < m
lower m n o less = elim (cases_lt n m) [ inl l ↦ l | inr g ↦ absurd (o (omega arith)) ]

-- one more entry, which is false
span_same : (present : List Bool) (m low high : ℕ) → get_or present m false ≡ false →
    Span present m low high → Span present (suc m) low high
span_same present m low high gone s = record {
  least = λ n less here. elim (cases_eq n m) [
    | inl e ↦ absurd (never n e here)
    | inr o ↦
        s.least n (lower m n o less) here
  ];
  most = λ n less here. elim (cases_eq n m) [
    | inl e ↦ absurd (never n e here)
    | inr o ↦
        s.most n (lower m n o less) here
  ];
  ordered = s.ordered;
  inside = omega (arith, s.inside);
}
  where
    never : (n : ℕ) → n ≡ m → get_or present n false ≡ true → ⊥
    never n e here = both_ways (get_or present n false) (ap (λ i. get_or present i false) e ∙ gone) here

-- one more entry, which is true: the first such entry or a later one
span_first : (present : List Bool) (m : ℕ) → below present m ≡ [] → Span present (suc m) m m
span_first present m empty = record {
  least = λ n less here. elim (cases_eq n m) [
    | inl e ↦ omega arith
    | inr o ↦
        absurd (none_of present m n empty (lower m n o less) here)
  ];
  most = λ n less here. omega arith;
  ordered = omega arith;
  inside = omega arith;
}

span_later : (present : List Bool) (m low high : ℕ) → Span present m low high → Span present (suc m) low m
span_later present m low high s =
    let o = s.ordered in let i = s.inside in
    record {
      least = λ n less here. elim (cases_eq n m) [
        | inl e ↦ omega arith
        | inr q ↦
            s.least n (lower m n q less) here
      ];
      most = λ n less here. omega arith;
      ordered = omega arith;
      inside = omega arith;
    }

span_push : (present : List Bool) (m a : ℕ) (others xs : List ℕ) → below present m ≡ xs →
    a ∷ others ≡ xs ++ m ∷ []
    → ((b : ℕ) (bs : List ℕ) → below present m ≡ b ∷ bs → Span present m b (last_of b bs)) →
    Span present (suc m) a (last_of a others)
span_push present m a others [] empty is before =
    let head : m ≡ a = cc in let tail : [] ≡ others = cc in
    subst (λ xs. Span present (suc m) a (last_of a xs)) tail
    (subst (λ x. Span present (suc m) x x) head (span_first present m empty))
span_push present m a others (b ∷ bs) eq is before =
    let head : b ≡ a = cc in let tail : bs ++ m ∷ [] ≡ others = cc in
    subst (λ xs. Span present (suc m) a (last_of a xs)) tail
    (subst (λ x. Span present (suc m) x (last_of x (bs ++ m ∷ []))) head
    (subst (λ l. Span present (suc m) b l) (sym (last_push bs b m))
    (span_later present m b (last_of b bs) (before b bs eq))))

span_more : (present : List Bool) (m a : ℕ) (others : List ℕ) → below present (suc m) ≡ a ∷ others
    → ((b : ℕ) (bs : List ℕ) → below present m ≡ b ∷ bs → Span present m b (last_of b bs)) →
    Span present (suc m) a (last_of a others)
span_more present m a others is before = elim (cases_Bool (get_or present m false)) [
  | inr gone ↦
      let same : below present m ≡ a ∷ others = sym (append-nil (below present m))
      ∙ sym (ap (λ b. below present m ++ cond b (m ∷ []) []) gone) ∙ sym (below_more present m) ∙ is in
      span_same present m a (last_of a others) gone (before a others same)
  | inl here ↦
      let pushed : a ∷ others ≡ below present m ++ m ∷ [] =
      sym is ∙ below_more present m ∙ ap (λ b. below present m ++ cond b (m ∷ []) []) here in
      span_push present m a others (below present m) refl pushed before
]

pub span_of : (present : List Bool) (m a : ℕ) (others : List ℕ) → below present m ≡ a ∷ others →
    Span present m a (last_of a others)
span_of present zero a others is = absurd (cc)
span_of present (suc m) a others is = span_more present m a others is (λ b bs e. span_of present m b bs e)

-- a bit that is not 1 is 0
zero_bit : (b : ℕ) → b < 2 → (b == 1) ≡ false → b ≡ 0
zero_bit zero p q = refl
zero_bit (suc zero) p q = absurd (both_ways true q refl)
zero_bit (suc (suc b)) p q = absurd (omega arith)

-- an octet before the first or after the last is 0
outside_zero : (present : List Bool) (k : ℕ) →
    ((j : ℕ) → j < 8 → get_or present (8 * k + j) false ≡ true → ⊥) → map_octet (aids_of present) k ≡ 0
outside_zero present k none = same_from_bits_below 8 (map_octet (aids_of present) k) 0 small
    (omega arith) each
  where
    small : map_octet (aids_of present) k < 2 ^ 8
    small = let s = octet_small present k (length present) in
        let more : 2 ^ (min (length present - 8 * k) 8) ≤ 2 ^ 8 = pow_mono {j = 8} (omega arith) in
        omega arith

    each : (i : ℕ) → i < 8 → bit_at (map_octet (aids_of present) k) i ≡ bit_at 0 i
    each i few = zero_bit (bit_at (map_octet (aids_of present) k) i)
        (bit_at-lt (map_octet (aids_of present) k) i)
        (entry_bit present k i few ∙ false_from_ne_true (get_or present (8 * k + i) false) (none i few))
        ∙ sym (bit_at-zero i)

length-count_from : (from n : ℕ) → length (count_from from n) ≡ n
length-count_from from zero = refl
length-count_from from (suc n) = ap suc (length-count_from (suc from) n)

get_or-count_from : (f : ℕ → ℕ) (from n i : ℕ) → i < n → get_or (map f (count_from from n)) i 0 ≡ f (from + i)
get_or-count_from f from zero i less = absurd (omega arith)
get_or-count_from f from (suc n) zero less = ap f (omega arith)
get_or-count_from f from (suc n) (suc i) less =
    get_or-count_from f (suc from) n i (omega arith) ∙ ap f (omega arith)

-- a part of a list whose elements are f of their places
pub part_is_map : (f : ℕ → ℕ) (xs : List ℕ) (from n : ℕ) → from + n ≤ length xs →
    ((k : ℕ) → k < length xs → get_or xs k 0 ≡ f k) → take n (drop from xs) ≡ map f (count_from from n)
part_is_map f xs from zero room each = refl
part_is_map f xs from (suc n) room each =
    ap (take (suc n)) (drop-cons xs from 0 (omega arith))
    ∙ ap (λ h. h ∷ take n (drop (suc from) xs)) (each from (omega arith))
    ∙ ap (λ t. f from ∷ t) (part_is_map f xs (suc from) n (omega arith) each)

-- ---- the layout
outside_part : (present : List Bool) (low high k : ℕ) → Span present (length present) low high →
    (k < 2 * (low / 16)) ⊎ (high / 8 < k) → map_octet (aids_of present) k ≡ 0
outside_part present low high k s where_it_is =
    outside_zero present k (λ j few here. never j few here (within (8 * k + j) here) where_it_is)
  where
    within : (n : ℕ) → get_or present n false ≡ true → n < length present
    within n here = elim (cases_lt n (length present)) [
      | inl less ↦ less
      | inr past ↦
          absurd (both_ways (get_or present n false) (get_or_past present n false past) here)
    ]

    never : (j : ℕ) → j < 8 → get_or present (8 * k + j) false ≡ true → 8 * k + j < length present →
        (k < 2 * (low / 16)) ⊎ (high / 8 < k) → ⊥
    never j few here less (inl before) = let l = s.least (8 * k + j) less here in omega arith
    never j few here less (inr after) = let h = s.most (8 * k + j) less here in omega arith

length-tim_element : (count period a : ℕ) (others : List ℕ) →
    length (tim_element count period (a ∷ others)) ≡ 5 + (last_of a others / 8 - 2 * (a / 16) + 1)
length-tim_element count period a others =
    omega (
      arith,
      length-map (count_from (2 * (a / 16)) (last_of a others / 8 - 2 * (a / 16) + 1))
          (map_octet (a ∷ others)),
      length-count_from (2 * (a / 16)) (last_of a others / 8 - 2 * (a / 16) + 1),
    )

sixth : (a b c d e : ℕ) (xs : List ℕ) (i : ℕ) → get_or (a ∷ b ∷ c ∷ d ∷ e ∷ xs) (5 + i) 0 ≡ get_or xs i 0
sixth a b c d e xs i = ap (λ n. get_or (a ∷ b ∷ c ∷ d ∷ e ∷ xs) n 0) (five i)
  where
    five : (i : ℕ) → 5 + i ≡ suc (suc (suc (suc (suc i))))
    five i = omega arith

whole_is : (present : List Bool) (count period a : ℕ) (others : List ℕ) → aids_of present ≡ a ∷ others →
    Span present (length present) a (last_of a others)
    → (k : ℕ) → whole_octet (tim_element count period (a ∷ others)) k ≡ map_octet (aids_of present) k
whole_is present count period a others is s k =
    ap (λ b. if nat_le b k then get_or octets (5 + (k - b)) 0 else 0) begins ∙ elim (cases_lt k n1) [
      | inl before ↦ ap (λ b. if b then get_or octets (5 + (k - n1)) 0 else 0) (lt-leb n1 k before)
          ∙ sym (outside_part present a (last_of a others) k s (inl before))
      | inr from ↦ ap (λ b. if b then get_or octets (5 + (k - n1)) 0 else 0) (le-leb n1 k from)
          ∙ elim (cases_lt n2 k) [
            | inl after ↦ get_or_past octets (5 + (k - n1)) 0
                (omega (arith, length-tim_element count period a others))
                ∙ sym (outside_part present a (last_of a others) k s (inr after))
            | inr to ↦
                sixth 5 (n2 - n1 + 4) count period n1 (map (map_octet (a ∷ others)) (count_from n1 (n2 - n1 + 1)))
                (k - n1) ∙ get_or-count_from (map_octet (a ∷ others)) n1 (n2 - n1 + 1) (k - n1) (omega arith)
                ∙ ap (map_octet (a ∷ others)) (there from) ∙ ap (λ xs. map_octet xs k) (sym is)
          ]
    ]
  where
    n1 : ℕ
    n1 = 2 * (a / 16)

    n2 : ℕ
    n2 = last_of a others / 8

    octets : List ℕ
    octets = tim_element count period (a ∷ others)

    begins : 2 * (2 * (a / 16) / 2) ≡ 2 * (a / 16)
    begins = omega arith

    there : 2 * (a / 16) ≤ k → 2 * (a / 16) + (k - 2 * (a / 16)) ≡ k
    there from = omega arith

empty_whole : (count period k : ℕ) → whole_octet (tim_element count period []) k ≡ 0
empty_whole count period k = elim (cases_eq k 0) [
  | inl e ↦ ap (whole_octet (tim_element count period [])) e
  | inr o ↦ ap (λ b. if b then get_or (tim_element count period []) (5 + (k - 0)) 0 else 0)
      (le-leb 0 k (omega arith)) ∙ get_or_past (tim_element count period []) (5 + (k - 0)) 0 (omega arith)
]

entry_of : (present : List Bool) (o n : ℕ) → o ≡ map_octet (aids_of present) (n / 8) →
    is_set o (n % 8) ≡ get_or present n false
entry_of present o n is = ap (λ x. is_set x (n % 8)) is ∙ entry_bit present (n / 8) (n % 8) (omega arith)
    ∙ ap (λ i. get_or present i false) place
  where
    place : 8 * (n / 8) + n % 8 ≡ n
    place = omega arith

empty_is_tim : (present : List Bool) (tim : Tim) → tim.group ≡ false → aids_of present ≡ [] →
    IsTim (tim_element tim.count tim.period []) tim present
empty_is_tim present tim group empty = record {
  long = omega arith;
  id = refl;
  size = refl;
  ends = omega arith;
  count = refl;
  period = refl;
  group = sym group;
  stations = λ n below. entry_of present (whole_octet (tim_element tim.count tim.period []) (n / 8)) n
      (empty_whole tim.count tim.period (n / 8) ∙ ap (λ xs. map_octet xs (n / 8)) (sym empty));
}

some_is_tim : (present : List Bool) (tim : Tim) (a : ℕ) (others : List ℕ) → length present ≤ 2008 →
    tim.group ≡ false → aids_of present ≡ a ∷ others →
    IsTim (tim_element tim.count tim.period (a ∷ others)) tim present
some_is_tim present tim a others room group is = record {
  long = omega (arith, size);
  id = refl;
  size = omega (arith, size);
  ends = omega (arith, size, s.ordered, s.inside);
  count = refl;
  period = refl;
  group = ap (λ b. b == 1) even ∙ sym group;
  stations = λ n below. entry_of present (whole_octet (tim_element tim.count tim.period (a ∷ others)) (n / 8))
      n (whole_is present tim.count tim.period a others is s (n / 8));
}
  where
    s : Span present (length present) a (last_of a others)
    s = span_of present (length present) a others is

    size : length (tim_element tim.count tim.period (a ∷ others))
        ≡ 5 + (last_of a others / 8 - 2 * (a / 16) + 1)
    size = length-tim_element tim.count tim.period a others

    even : bit_at (2 * (a / 16)) 0 ≡ 0
    even = omega arith

pub shortest_is_tim : (present : List Bool) (tim : Tim) (xs : List ℕ) → length present ≤ 2008 →
    tim.group ≡ false → aids_of present ≡ xs → IsTim (tim_element tim.count tim.period xs) tim present
shortest_is_tim present tim [] room group is = empty_is_tim present tim group is
shortest_is_tim present tim (a ∷ others) room group is = some_is_tim present tim a others room group is

-- ---- the octets that are written
pub element_is : (xs bitmap : List ℕ) (count period first last : ℕ) →
    first ≡ (octets_between (ends_of xs)).0 → last ≡ (octets_between (ends_of xs)).1 → length bitmap ≡ 251
    → ((k : ℕ) → k < 251 → get_or bitmap k 0 ≡ map_octet xs k) → first ≤ last → last < 251
    → (5 ∷ (last - first + 4) ∷ count ∷ period ∷ first ∷ []) ++ take (last + 1 - first) (drop first bitmap)
    ≡ tim_element count period xs
element_is [] bitmap count period first last f l long each order small =
    ap (λ x. (5 ∷ (last - x + 4) ∷ count ∷ period ∷ x ∷ []) ++ take (last + 1 - x) (drop x bitmap)) f
    ∙ ap (λ y. (5 ∷ (y - 0 + 4) ∷ count ∷ period ∷ 0 ∷ []) ++ take (y + 1 - 0) (drop 0 bitmap)) l
    ∙ ap (λ t. 5 ∷ 4 ∷ count ∷ period ∷ 0 ∷ t) (part_is_map (map_octet []) bitmap 0 1 (omega arith)
    (λ k below. each k (omega arith)))
element_is (a ∷ others) bitmap count period first last f l long each order small =
    ap (λ x. (5 ∷ (last - x + 4) ∷ count ∷ period ∷ x ∷ []) ++ take (last + 1 - x) (drop x bitmap)) f
    ∙ ap (λ y. (5 ∷ (y - n1 + 4) ∷ count ∷ period ∷ n1 ∷ []) ++ take (y + 1 - n1) (drop n1 bitmap)) l
    ∙ ap (λ t. 5 ∷ (n2 - n1 + 4) ∷ count ∷ period ∷ n1 ∷ t)
    (ap (λ m. take m (drop n1 bitmap)) one_more
    ∙ part_is_map (map_octet (a ∷ others)) bitmap n1 (n2 - n1 + 1) (omega (arith, f, l))
    (λ k below. each k (omega arith)))
  where
    n1 : ℕ
    n1 = 2 * (a / 16)

    n2 : ℕ
    n2 = last_of a others / 8

    one_more : n2 + 1 - n1 ≡ n2 - n1 + 1
    one_more = omega (arith, f, l)

-- ---- the bit for group frames

-- the octets with this bit, if the bitmap control is its number plus the bit
pub bit_is : (group : Bool) (size count period first : ℕ) (xs : List ℕ) →
    (5 ∷ size ∷ count ∷ period ∷ (first + bool_byte group) ∷ []) ++ xs
    ≡ with_group_bit group ((5 ∷ size ∷ count ∷ period ∷ first ∷ []) ++ xs)
bit_is true size count period first xs = refl
bit_is false size count period first xs = ap (λ c. 5 ∷ size ∷ count ∷ period ∷ c ∷ xs) (omega arith)

-- an element without this bit has the layout with it
pub bit_is_tim : (group : Bool) (tim : Tim) (xs : List ℕ) (present : List Bool) → tim.group ≡ false →
    IsTim xs tim present → IsTim (with_group_bit group xs) (record tim { group = group }) present
bit_is_tim false tim xs present none is = subst (λ g. IsTim xs (record tim { group = g }) present) none is
bit_is_tim true tim [] present none is = absurd (omega (arith, is.long))
bit_is_tim true tim (a ∷ []) present none is = absurd (omega (arith, is.long))
bit_is_tim true tim (a ∷ b ∷ []) present none is = absurd (omega (arith, is.long))
bit_is_tim true tim (a ∷ b ∷ c ∷ []) present none is = absurd (omega (arith, is.long))
bit_is_tim true tim (a ∷ b ∷ c ∷ d ∷ []) present none is = absurd (omega (arith, is.long))
bit_is_tim true tim (a ∷ b ∷ c ∷ d ∷ e ∷ xs) present none is = record {
  long = is.long;
  id = is.id;
  size = is.size;
  ends = subst (λ f. f + (suc (suc (suc (suc (suc (length xs))))) - 5) ≤ 251) same is.ends;
  count = is.count;
  period = is.period;
  group = ap (λ o. o == 1) odd;
  stations = λ n below. ap (λ o. is_set o (n % 8)) (whole (n / 8)) ∙ is.stations n below;
}
  where
    even : bit_at e 0 ≡ 0
    even = zero_bit (bit_at e 0) (bit_at-lt e 0) (is.group ∙ none)

    odd : bit_at (e + 1) 0 ≡ 1
    odd = omega (arith, even)

    same : 2 * (e / 2) ≡ 2 * ((e + 1) / 2)
    same = omega (arith, even)

    whole : (k : ℕ) → whole_octet (a ∷ b ∷ c ∷ d ∷ (e + 1) ∷ xs) k ≡ whole_octet (a ∷ b ∷ c ∷ d ∷ e ∷ xs) k
    whole k =
        ap (λ f. if nat_le f k then get_or (a ∷ b ∷ c ∷ d ∷ (e + 1) ∷ xs) (5 + (k - f)) 0 else 0) (sym same)
        ∙ ap (λ o. if nat_le (2 * (e / 2)) k then o else 0)
        (sixth a b c d (e + 1) xs (k - 2 * (e / 2)) ∙ sym (sixth a b c d e xs (k - 2 * (e / 2))))

-- ---- one iteration of the loop over the entries
pub bit_added : (present : List Bool) (bitmap : List ℕ) (aid : ℕ) → length bitmap ≡ 251 → aid < 2008 →
    get_or present aid false ≡ true
    → ((k : ℕ) → k < 251 → get_or bitmap k 0 ≡ map_octet (below present aid) k) → (k : ℕ) → k < 251
    → get_or (set bitmap (aid / 8) (get_or bitmap (aid / 8) 0 + 1 * 2 ^ (aid % 8) % 256)) k 0
    ≡ map_octet (below present (aid + 1)) k
bit_added present bitmap aid long few here each k within = elim (cases_eq k (aid / 8)) [
  | inl same ↦
      get_or-set_at bitmap (aid / 8) k value 0 same (omega arith)
      ∙ ap (λ w. get_or bitmap (aid / 8) 0 + w) (one_shl (aid % 8) 8 (omega arith))
      ∙ ap (λ o. o + 2 ^ (aid % 8)) (each (aid / 8) (omega arith))
      ∙ sym (octet_with present (aid / 8) aid here refl)
      ∙ ap (λ i. map_octet (below present (suc aid)) i) (sym same)
      ∙ ap (λ m. map_octet (below present m) k) (sym (add-one aid))
  | inr other ↦
      get_or-set_other bitmap (aid / 8) k value 0 other ∙ each k within
      ∙ sym (octet_elsewhere present k aid (λ e. other (sym e)))
      ∙ ap (λ m. map_octet (below present m) k) (sym (add-one aid))
]
  where
    value : ℕ
    value = get_or bitmap (aid / 8) 0 + 1 * 2 ^ (aid % 8) % 256

pub bit_not_added : (present : List Bool) (aid k : ℕ) → get_or present aid false ≡ false →
    map_octet (below present aid) k ≡ map_octet (below present (aid + 1)) k
bit_not_added present aid k gone = sym (octet_without present k aid gone)
    ∙ ap (λ m. map_octet (below present m) k) (sym (add-one aid))

-- the sum fits into an octet
pub bit_fits : (present : List Bool) (bitmap : List ℕ) (aid : ℕ) → aid < 2008 →
    ((k : ℕ) → k < 251 → get_or bitmap k 0 ≡ map_octet (below present aid) k) →
    get_or bitmap (aid / 8) 0 + 1 * 2 ^ (aid % 8) % 256 < 256
bit_fits present bitmap aid few each =
    let exponent : min (aid - 8 * (aid / 8)) 8 ≡ aid % 8 = omega arith in
    let small : map_octet (below present aid) (aid / 8) < 2 ^ (aid % 8) =
    subst (λ e. map_octet (below present aid) (aid / 8) < 2 ^ e) exponent
    (octet_small present (aid / 8) aid) in
    let top : 2 ^ (aid % 8) ≤ 2 ^ 7 = pow_mono {j = 7} (omega arith) in
    omega (arith, each (aid / 8) (omega arith), one_shl (aid % 8) 8 (omega arith))

-- the first and last AID after one more entry
pub ends_added : (present : List Bool) (aid : ℕ) → get_or present aid false ≡ true →
    ends_with (below present aid) aid ≡ ends_of (below present (aid + 1))
ends_added present aid here =
    sym (ends_push (below present aid) aid) ∙ ap (λ b. ends_of (below present aid ++ cond b (aid ∷ []) []))
    (sym here) ∙ ap ends_of (sym (below_more present aid))
    ∙ ap (λ m. ends_of (below present m)) (sym (add-one aid))

pub ends_not_added : (present : List Bool) (aid : ℕ) → get_or present aid false ≡ false →
    ends_of (below present aid) ≡ ends_of (below present (aid + 1))
ends_not_added present aid gone =
    ap ends_of (sym (append-nil (below present aid)))
    ∙ ap (λ b. ends_of (below present aid ++ cond b (aid ∷ []) [])) (sym gone)
    ∙ ap ends_of (sym (below_more present aid)) ∙ ap (λ m. ends_of (below present m)) (sym (add-one aid))

-- computed from the first and last AID before it
pub ends_first : (xs : List ℕ) (n : ℕ) → None ≡ ends_of xs → Some (n, n) ≡ ends_with xs n
ends_first [] n e = refl
ends_first (a ∷ others) n e = absurd (cc)

some_pair : (p q : ℕ × ℕ) → Some p ≡ Some q → p ≡ q
some_pair p q e = cc

pub ends_next : (xs : List ℕ) (low high n : ℕ) → Some (low, high) ≡ ends_of xs →
    Some (low, n) ≡ ends_with xs n
ends_next [] low high n e = absurd (cc)
ends_next (a ∷ others) low high n e = ap (λ p. Some (p.0, n)) (some_pair (low, high) (a, last_of a others) e)

-- bounds of the octets from bounds of the first and last AID
pub octets_bound : (o : Option (ℕ × ℕ)) (n : ℕ) → n ≤ 2008 → IfSome o (λ e. (e.0 ≤ e.1) × (e.1 < n)) →
    ((octets_between o).0 ≤ (octets_between o).1) × ((octets_between o).1 < 251)
octets_bound None n few within = (omega arith, omega arith)
octets_bound (Some e) n few within = let a = within.0 in let b = within.1 in (omega arith, omega arith)

pub within_more : (o : Option (ℕ × ℕ)) (n : ℕ) → IfSome o (λ e. (e.0 ≤ e.1) × (e.1 < n)) →
    IfSome o (λ e. (e.0 ≤ e.1) × (e.1 < n + 1))
within_more None n within = tt
within_more (Some e) n within = let a = within.1 in (within.0, omega arith)
