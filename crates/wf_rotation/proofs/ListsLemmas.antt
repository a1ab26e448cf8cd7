-- The lists of all rotations after one list has changed: the other lists are unchanged.
use Rattle.std.proofs.Common.{◌≡◌, ℕ, ◌+◌, ◌<◌, List, [], ◌∷◌, ◌++◌, length, set, Some, sym, ap, ◌∙◌, inl, inr, arith}
use Rattle.wf_def_rotation.specs.Rotation.{Rotation, no_keys, in_order}
use Rattle.std.proofs.lemmas.List.{get_or-set_same, get_or-set_other, get_or_past, set-get_or, set-set}
use Rattle.std.proofs.lemmas.Bool.{cases_eq, cases_lt}
use Rattle.wf_def_lists.specs.Lists.{on}
use Rattle.wf_rotation.specs.Lists.{AllLists, lists_at, side_of, with_side, keys_at, with_keys, on_at, IsOff, AreDisjoint, first_of, keys_behind}
use Rattle.wf_rotation.specs.declared.side.Side.{Side}
use Rattle.wf_rotation.specs.declared.side.Side.TheVariants.{New, Old}
use Rattle.wf_law_rules.proofs.Lemmas.Counts.{on-cons_same, on-append}

pub first_is : (ks : List ℕ) (key : ℕ) → first_of ks ≡ Some key → ks ≡ key ∷ keys_behind ks
first_is [] key h = cc
first_is (k ∷ ks) key h = cc

-- only a rotation that is there has a key
pub list_there : (all : List Rotation) (l : ℕ) (s : Side) (key : ℕ) → first_of (keys_at all l s) ≡ Some key →
    l < length all
list_there all l s key h = elim (cases_lt l (length all)) [
  | inl low ↦ low
  | inr past ↦ absurd (none s (ap (λ (x : Rotation). first_of (side_of x s))
      (sym (get_or_past all l no_keys past)) ∙ h))
]
  where
    none : (s : Side) → first_of (side_of no_keys s) ≡ Some key → ⊥
    none New e = cc
    none Old e = cc

pub on_cycle : (x : Rotation) (key : ℕ) → on (in_order x) key ≡ on x.old key + on x.new key
on_cycle x key = on-append x.old x.new key

-- the first key of a list is on it, and once less on the rest of the list
pub first_stands : (x : Rotation) (s : Side) (key : ℕ) → first_of (side_of x s) ≡ Some key →
    on (in_order x) key ≡ 1 + on (in_order (with_side x s (keys_behind (side_of x s)))) key
first_stands x New key h = omega (
  arith,
  on_cycle x key,
  on_cycle (with_side x New (keys_behind x.new)) key,
  ap (λ (ks : List ℕ). on ks key) (first_is x.new key h),
  on-cons_same key (keys_behind x.new),
)
first_stands x Old key h = omega (
  arith,
  on_cycle x key,
  on_cycle (with_side x Old (keys_behind x.old)) key,
  ap (λ (ks : List ℕ). on ks key) (first_is x.old key h),
  on-cons_same key (keys_behind x.old),
)

-- a key that was taken off the front of its list is on none
pub taken_unlisted : (q : AllLists) (l : ℕ) (s : Side) (key : ℕ) → AreDisjoint q →
    first_of (keys_at q.lists l s) ≡ Some key →
    IsOff (with_keys q.lists l s (keys_behind (keys_at q.lists l s))) key
taken_unlisted q l s key ok h = λ m. elim (cases_eq m l) [
  | inl e ↦
      let there : lists_at (with_keys q.lists l s (keys_behind (keys_at q.lists l s))) m
      ≡ with_side (lists_at q.lists l) s (keys_behind (keys_at q.lists l s)) =
      ap (λ (k : ℕ). lists_at (with_keys q.lists l s (keys_behind (keys_at q.lists l s))) k) e
      ∙ get_or-set_same q.lists l _ no_keys (list_there q.lists l s key h) in
      omega (
        arith,
        ap (λ (x : Rotation). on (in_order x) key) there,
        first_stands (lists_at q.lists l) s key h,
        ok.once l key,
      )
  | inr other ↦
      let there : lists_at (with_keys q.lists l s (keys_behind (keys_at q.lists l s))) m
      ≡ lists_at q.lists m = get_or-set_other q.lists l m _ no_keys other in
      elim (cases_lt 0 (on_at q.lists m key)) [
        | inl stands ↦ absurd (other (ok.one_list m l key stands
            (omega (arith, first_stands (lists_at q.lists l) s key h))))
        | inr none ↦ omega (arith, ap (λ (x : Rotation). on (in_order x) key) there)
      ]
]

pub taken_below : (q : AllLists) (l : ℕ) (s : Side) (key : ℕ) → AreDisjoint q →
    first_of (keys_at q.lists l s) ≡ Some key → key < q.keys
taken_below q l s key ok h = ok.below l key (omega (arith, first_stands (lists_at q.lists l) s key h))

abbrev two : List ℕ → List ℕ → Rotation
two news olds = record { new = news; old = olds }

-- an empty list loses nothing
pub none_taken : (all : List Rotation) (l : ℕ) (s : Side) → keys_at all l s ≡ [] →
    all ≡ with_keys all l s (keys_behind (keys_at all l s))
none_taken all l s none = sym (ap (λ (x : Rotation). set all l x)
    (ap (λ (ks : List ℕ). with_side (lists_at all l) s (keys_behind ks)) none ∙ go s (lists_at all l) none)
    ∙ set-get_or all l no_keys)
  where
    go : (s : Side) (x : Rotation) → side_of x s ≡ [] → with_side x s [] ≡ x
    go New x none = ap (λ (ks : List ℕ). two ks x.old) (sym none)
    go Old x none = ap (λ (ks : List ℕ). two x.new ks) (sym none)

-- a list that is written twice
pub with_keys-again : (all : List Rotation) (l : ℕ) (s : Side) (ks more : List ℕ) → l < length all →
    with_keys (with_keys all l s ks) l s (keys_at (with_keys all l s ks) l s ++ more)
    ≡ with_keys all l s (ks ++ more)
with_keys-again all l New ks more low = ap (λ (r : Rotation).
    set (with_keys all l New ks) l (with_side r New (r.new ++ more))) (get_or-set_same all l _ no_keys low)
    ∙ set-set all l _ _
with_keys-again all l Old ks more low = ap (λ (r : Rotation).
    set (with_keys all l Old ks) l (with_side r Old (r.old ++ more))) (get_or-set_same all l _ no_keys low)
    ∙ set-set all l _ _

pub with_keys-twice : (all : List Rotation) (l : ℕ) (s : Side) (ks js : List ℕ) → l < length all →
    with_keys (with_keys all l s ks) l s js ≡ with_keys all l s js
with_keys-twice all l New ks js low = ap (λ (r : Rotation).
    set (with_keys all l New ks) l (with_side r New js)) (get_or-set_same all l _ no_keys low)
    ∙ set-set all l _ _
with_keys-twice all l Old ks js low = ap (λ (r : Rotation).
    set (with_keys all l Old ks) l (with_side r Old js)) (get_or-set_same all l _ no_keys low)
    ∙ set-set all l _ _

pub with_keys-same : (all : List Rotation) (l : ℕ) (s : Side) → with_keys all l s (keys_at all l s) ≡ all
with_keys-same all l New = set-get_or all l no_keys
with_keys-same all l Old = set-get_or all l no_keys

pub keys_at-with : (all : List Rotation) (l : ℕ) (s : Side) (ks : List ℕ) → l < length all →
    keys_at (with_keys all l s ks) l s ≡ ks
keys_at-with all l New ks low = ap (λ (r : Rotation). r.new) (get_or-set_same all l _ no_keys low)
keys_at-with all l Old ks low = ap (λ (r : Rotation). r.old) (get_or-set_same all l _ no_keys low)
