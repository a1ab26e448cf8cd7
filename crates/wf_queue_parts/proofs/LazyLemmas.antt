-- A leaf of a lazy tree becomes pending or is brought up to date; without pending leaves the tree has all
-- values.
use Rattle.std.proofs.Common.{◌≡◌, ◌≢◌, ℕ, ◌+◌, ◌<◌, ◌≤◌, Bool, true, false, inl, inr, List, [], ◌∷◌, ◌++◌, length, replicate, set, refl, sym, ap, ◌∙◌, arith, get_or-set_other, get_or-set_same, length-append}
use Rattle.std.proofs.Math.ListN.{length-set}
use Rattle.std.proofs.lemmas.List.{ext_get_or, get_or_append_left, get_or_push, get_or-replicate, length-replicate}
use Rattle.std.proofs.lemmas.Bool.{cases_lt}
use Rattle.std.specs.Prelude.{slice_index, slice_set}
use Rattle.wf_queue_parts.specs.Lazy.{is_pending_at, HasLeaf, IsLazy}
use Rattle.wf_queue_parts.proofs.TreeLemmas.{eq_or_ne}

-- no flag is both true and false
both_ways : (b : Bool) → b ≡ true → b ≡ false → ⊥
both_ways b up down = cc

value_same : (values : List ℕ) (leaf value : ℕ) → leaf < length values →
    slice_index (slice_set values leaf value) leaf ≡ value
value_same values leaf value within = get_or-set_same values leaf value 0 within

value_other : (values : List ℕ) (leaf value other : ℕ) → other ≢ leaf →
    slice_index (slice_set values leaf value) other ≡ slice_index values other
value_other values leaf value other ne = get_or-set_other values leaf other value 0 ne

flag_same : (flags : List Bool) (leaf : ℕ) (flag : Bool) → leaf < length flags →
    is_pending_at (slice_set flags leaf flag) leaf ≡ flag
flag_same flags leaf flag within = get_or-set_same flags leaf flag false within

flag_other : (flags : List Bool) (leaf other : ℕ) (flag : Bool) → other ≢ leaf →
    is_pending_at (slice_set flags leaf flag) other ≡ is_pending_at flags other
flag_other flags leaf other flag ne = get_or-set_other flags leaf other flag false ne

-- ---- a tree that is new

lazy_new : (n : ℕ) → n ≤ 65536 → IsLazy (replicate n 0) (replicate n 0) (replicate n false) []
lazy_new n small = record {
  size = refl;
  as_many = length-replicate {A = Bool} n false ∙ sym (length-replicate {A = ℕ} n 0);
  small = omega (arith, length-replicate {A = ℕ} n 0);
  few = omega arith;
  within = λ place here. absurd (omega arith);
  known = λ leaf here down. refl;
  found = λ leaf here up. absurd (both_ways (is_pending_at (replicate n false) leaf) up
      (get_or-replicate n leaf false false (omega (arith, here, length-replicate {A = ℕ} n 0))));
}

pub lazy_made : (n : ℕ) (tree values : List ℕ) (flags : List Bool) (pending : List ℕ) → n ≤ 65536 →
    tree ≡ replicate n 0 → values ≡ replicate n 0 → flags ≡ replicate n false → pending ≡ [] →
    IsLazy tree values flags pending
lazy_made n tree values flags pending small trees zeros downs none =
    rw (trees, zeros, downs, none) (lazy_new n small)

-- ---- without pending leaves

all_known : (tree values : List ℕ) (flags : List Bool) → IsLazy tree values flags [] → tree ≡ values
all_known tree values flags h = ext_get_or 0 tree values h.size
    (λ leaf here. known leaf (omega (arith, here, h.size)) (is_pending_at flags leaf) refl)
  where
    none : (leaf : ℕ) → HasLeaf [] leaf → ⊥
    none leaf at = omega (arith, at.1)

    known : (leaf : ℕ) → leaf < length values → (b : Bool) → is_pending_at flags leaf ≡ b →
        slice_index tree leaf ≡ slice_index values leaf
    known leaf here true up = absurd (none leaf (h.found leaf here up))
    known leaf here false down = h.known leaf here down

pub none_pending : (tree values : List ℕ) (flags : List Bool) (pending : List ℕ) →
    IsLazy tree values flags pending → length pending ≡ 0 → tree ≡ values
none_pending tree values flags [] h none = all_known tree values flags h
none_pending tree values flags (leaf ∷ rest) h none = absurd (omega arith)

-- ---- a leaf is set

module _ (tree values : List ℕ) (flags : List Bool) (pending : List ℕ) (leaf value : ℕ)
    (h : IsLazy tree values flags pending) (here : leaf < length values) where
  longer : length (set values leaf value) ≡ length values
  longer = length-set values leaf value

  -- a leaf becomes pending
  pub set_first : length pending < 256 →
      IsLazy tree (slice_set values leaf value) (slice_set flags leaf true) (pending ++ leaf ∷ [])
  set_first room = record {
    size = h.size ∙ sym longer;
    as_many = length-set flags leaf true ∙ h.as_many ∙ sym longer;
    small = omega (arith, h.small, longer);
    few = omega (arith, room, one_more);
    within = λ place low. omega (arith, last_within place (omega (arith, low, one_more)), longer);
    known = λ other low down. elim (eq_or_ne other leaf) [
      | inl e ↦ absurd (both_ways (is_pending_at (slice_set flags leaf true) leaf)
          (flag_same flags leaf true (omega (arith, here, h.as_many))) (rw e at down))
      | inr ne ↦ h.known other (omega (arith, low, longer))
          (sym (flag_other flags leaf other true ne) ∙ down)
          ∙ sym (value_other values leaf value other ne)
    ];
    found = λ other low up. elim (eq_or_ne other leaf) [
      | inl e ↦ (
        length pending,
        omega (arith, one_more),
        get_or_push pending leaf 0 (length pending) refl ∙ sym e,
      )
      | inr ne ↦ kept_place other
          (h.found other (omega (arith, low, longer)) (sym (flag_other flags leaf other true ne) ∙ up))
    ];
  }
    where
      one_more : length (pending ++ leaf ∷ []) ≡ length pending + 1
      one_more = length-append pending (leaf ∷ [])

      last_within : (place : ℕ) → place < length pending + 1 →
          slice_index (pending ++ leaf ∷ []) place < length values
      last_within place low = elim (cases_lt place (length pending)) [
        | inl before ↦ rw (get_or_append_left pending (leaf ∷ []) 0 place before) (h.within place before)
        | inr last ↦ rw (get_or_push pending leaf 0 place (omega arith)) here
      ]

      kept_place : (other : ℕ) → HasLeaf pending other → HasLeaf (pending ++ leaf ∷ []) other
      kept_place other at = (
        at.0,
        omega (arith, at.1, one_more),
        get_or_append_left pending (leaf ∷ []) 0 at.0 at.1 ∙ at.2,
      )

-- ---- a pending leaf is brought up to date

module _ (tree values : List ℕ) (flags : List Bool) (pending rest : List ℕ) (leaf : ℕ)
    (h : IsLazy tree values flags pending) (last : pending ≡ rest ++ leaf ∷ []) where
  one_more : length pending ≡ length rest + 1
  one_more = ap length last ∙ length-append rest (leaf ∷ [])

  in_place : (place : ℕ) → place < length rest → slice_index rest place ≡ slice_index pending place
  in_place place low = sym (get_or_append_left rest (leaf ∷ []) 0 place low)
      ∙ ap (λ (xs : List ℕ). slice_index xs place) (sym last)

  at_end : slice_index pending (length rest) ≡ leaf
  at_end = ap (λ (xs : List ℕ). slice_index xs (length rest)) last
      ∙ get_or_push rest leaf 0 (length rest) refl

  pub leaf_within : leaf < length values
  leaf_within = omega (arith, at_end, h.within (length rest) (omega (arith, one_more)))

  pub brought : IsLazy (slice_set tree leaf (slice_index values leaf)) values
      (slice_set flags leaf false) rest
  brought = record {
    size = length-set tree leaf (slice_index values leaf) ∙ h.size;
    as_many = length-set flags leaf false ∙ h.as_many;
    small = h.small;
    few = omega (arith, h.few, one_more);
    within = λ place low. rw (in_place place low) (h.within place (omega (arith, low, one_more)));
    known = λ other low down. elim (eq_or_ne other leaf) [
      | inl e ↦ rw e (value_same tree leaf (slice_index values leaf) (omega (arith, leaf_within, h.size)))
      | inr ne ↦ value_other tree leaf (slice_index values leaf) other ne
          ∙ h.known other low (sym (flag_other flags leaf other false ne) ∙ down)
    ];
    found = λ other low up. elim (eq_or_ne other leaf) [
      | inl e ↦ absurd (both_ways (is_pending_at (slice_set flags leaf false) other) up
          (rw e (flag_same flags leaf false (omega (arith, leaf_within, h.as_many)))))
      | inr ne ↦ kept_place other ne (h.found other low (sym (flag_other flags leaf other false ne) ∙ up))
    ];
  }
    where
      kept_place : (other : ℕ) → other ≢ leaf → HasLeaf pending other → HasLeaf rest other
      kept_place other ne at = elim (cases_lt at.0 (length rest)) [
        | inl before ↦ (at.0, before, in_place at.0 before ∙ at.2)
        | inr end ↦ absurd (ne (sym at.2
            ∙ ap (slice_index pending) (omega (arith, end, at.1, one_more)) ∙ at_end))
      ]

-- ---- a leaf becomes pending instead of another

module _ (tree values : List ℕ) (flags : List Bool) (pending : List ℕ) (leaf value place oldest : ℕ)
    (h : IsLazy tree values flags pending) (here : leaf < length values) (at : place < length pending)
    (is : oldest ≡ slice_index pending place) where
  pub oldest_within : oldest < length values
  oldest_within = omega (arith, is, h.within place at)

  pub replaced : IsLazy (slice_set tree oldest (slice_index (slice_set values leaf value) oldest))
      (slice_set values leaf value) (slice_set (slice_set flags leaf true) oldest false)
      (slice_set pending place leaf)
  replaced = record {
    size = length-set tree oldest _ ∙ h.size ∙ sym (length-set values leaf value);
    as_many = length-set (slice_set flags leaf true) oldest false ∙ length-set flags leaf true ∙ h.as_many
        ∙ sym (length-set values leaf value);
    small = omega (arith, h.small, length-set values leaf value);
    few = omega (arith, h.few, length-set pending place leaf);
    within = λ other low. omega (
      arith,
      leaf_low other (omega (arith, low, length-set pending place leaf)),
      length-set values leaf value,
    );
    known = λ other low down. elim (eq_or_ne other oldest) [
      | inl e ↦ rw e (value_same tree oldest (slice_index (slice_set values leaf value) oldest)
          (omega (arith, oldest_within, h.size)))
      | inr ne ↦ value_other tree oldest (slice_index (slice_set values leaf value) oldest) other ne
          ∙ known_before other ne (omega (arith, low, length-set values leaf value))
          (sym (flag_other (slice_set flags leaf true) oldest other false ne) ∙ down)
    ];
    found = λ other low up. elim (eq_or_ne other oldest) [
      | inl e ↦ absurd (both_ways _ up (rw e (flag_same (slice_set flags leaf true) oldest false
          (omega (arith, oldest_within, h.as_many, length-set flags leaf true)))))
      | inr ne ↦ found_after other ne (omega (arith, low, length-set values leaf value))
          (sym (flag_other (slice_set flags leaf true) oldest other false ne) ∙ up)
    ];
  }
    where
      leaf_low : (other : ℕ) → other < length pending →
          slice_index (slice_set pending place leaf) other < length values
      leaf_low other low = elim (eq_or_ne other place) [
        | inl e ↦ rw (e, value_same pending place leaf at) here
        | inr ne ↦ rw (value_other pending place leaf other ne) (h.within other low)
      ]

      known_before : (other : ℕ) → other ≢ oldest → other < length values →
          is_pending_at (slice_set flags leaf true) other ≡ false →
          slice_index tree other ≡ slice_index (slice_set values leaf value) other
      known_before other ne low down = elim (eq_or_ne other leaf) [
        | inl e ↦ absurd (both_ways (is_pending_at (slice_set flags leaf true) leaf)
            (flag_same flags leaf true (omega (arith, here, h.as_many))) (rw e at down))
        | inr away ↦ h.known other low (sym (flag_other flags leaf other true away) ∙ down)
            ∙ sym (value_other values leaf value other away)
      ]

      kept_place : (other : ℕ) → other ≢ oldest → HasLeaf pending other →
          HasLeaf (slice_set pending place leaf) other
      kept_place other ne had = elim (eq_or_ne had.0 place) [
        | inl e ↦ absurd (ne (sym had.2 ∙ ap (slice_index pending) e ∙ sym is))
        | inr away ↦ (
          had.0,
          omega (arith, had.1, length-set pending place leaf),
          value_other pending place leaf had.0 away ∙ had.2,
        )
      ]

      found_after : (other : ℕ) → other ≢ oldest → other < length values →
          is_pending_at (slice_set flags leaf true) other ≡ true →
          HasLeaf (slice_set pending place leaf) other
      found_after other ne low up = elim (eq_or_ne other leaf) [
        | inl e ↦ (
          place,
          omega (arith, at, length-set pending place leaf),
          value_same pending place leaf at ∙ sym e,
        )
        | inr away ↦ kept_place other ne
            (h.found other low (sym (flag_other flags leaf other true away) ∙ up))
      ]
