-- Proves how the number of the flags of a class that are up changes when one flag is set.
use Rattle.std.proofs.Common.{◌≡◌, refl, ap, sym, ◌∙◌, subst, arith, ℕ, zero, suc, ◌+◌, ◌-◌, ◌<◌, ◌^◌, Bool, true, false, cond, nat_lt, List, [], ◌∷◌, length, get_or, set, slice_set, map, inl, inr, Vec, Global}
use mathlib.Core.Bool.{beq}
use Rattle.std.specs.List.{list_any}
use Rattle.std.proofs.lemmas.List.{get_or-set_same, get_or-set_other, get_or-map, map-set, length-map, length-set}
use Rattle.std.proofs.lemmas.List.Sums.{sum_by-cons, count_by-le-length}
use Rattle.wf_frame.specs.Classes.{class_number}
use Rattle.wf_frame.specs.declared.classes.Class.{Class}
use Rattle.wf_frame.specs.declared.classes.Class.TheVariants.{Bk, Be, Vi, Vo}
use Rattle.wf_law_runs.proofs.Deficits.Books.{cases_class}
use Rattle.wf_send_half.specs.Flags.{Flags, flags_in, with_flag, count_up, AreCounts}
use Rattle.wf_send_half.proofs.FlagSteps.{set_sized, set_elsewhere}

-- ---- one list of flags

up_more : (b : Bool) (xs : List Bool) → count_up (b ∷ xs) ≡ cond b 1 0 + count_up xs
up_more b xs = sum_by-cons (λ up. cond up 1 0) b xs

-- a flag is up exactly if their number is not 0
pub some_up : (xs : List Bool) → nat_lt 0 (count_up xs) ≡ list_any (λ up. up) xs
some_up [] = refl
some_up (true ∷ xs) = grind (arith, up_more true xs)
some_up (false ∷ xs) = ap (λ (n : ℕ). nat_lt 0 n) (up_more false xs ∙ omega arith) ∙ some_up xs

-- a flag that was down goes up
pub one_more : (xs : List Bool) (s : ℕ) → s < length xs → get_or xs s false ≡ false →
    count_up (slice_set xs s true) ≡ count_up xs + 1
one_more [] s low down = absurd (omega arith)
one_more (b ∷ xs) zero low down =
    up_more true xs ∙ omega (arith, up_more b xs ∙ ap (λ (y : Bool). cond y 1 0 + count_up xs) down)
one_more (b ∷ xs) (suc s) low down = omega (
  arith,
  up_more b (slice_set xs s true),
  up_more b xs,
  one_more xs s (omega (arith, low)) down,
)

-- a flag that was up goes down
pub one_less : (xs : List Bool) (s : ℕ) → s < length xs → get_or xs s false ≡ true →
    count_up (slice_set xs s false) + 1 ≡ count_up xs
one_less [] s low up = absurd (omega arith)
one_less (b ∷ xs) zero low up = omega (
  arith,
  up_more false xs,
  up_more b xs ∙ ap (λ (y : Bool). cond y 1 0 + count_up xs) up,
)
one_less (b ∷ xs) (suc s) low up = omega (
  arith,
  up_more b (slice_set xs s false),
  up_more b xs,
  one_less xs s (omega (arith, low)) up,
)

-- one that is down is not counted
pub not_all_up : (xs : List Bool) (s : ℕ) → s < length xs → get_or xs s false ≡ false →
    count_up xs < length xs
not_all_up xs s low down =
    omega (
      arith,
      one_more xs s low down,
      count_by-le-length (λ (up : Bool). up) (slice_set xs s true),
      length-set xs s true,
    )

-- ---- all classes

number_low : (c : Class) → class_number c < 4
number_low Bk = omega arith
number_low Be = omega arith
number_low Vi = omega arith
number_low Vo = omega arith

-- the counts are right after the flag of a station is set and its class is counted anew
pub counts_set : (r : Flags) (counts : List ℕ) → AreCounts r counts → (c : Class) (s n : ℕ) (b : Bool) →
    n ≡ count_up (slice_set (flags_in r c) s b) →
    AreCounts (with_flag r c s b) (set counts (class_number c) n)
counts_set r counts h c s n b is = record {
  classes = length-set r (class_number c) (slice_set (flags_in r c) s b) ∙ h.classes;
  four = length-set counts (class_number c) n ∙ h.four;
  few = λ d. omega (arith, set_sized r c s b d, h.few d);
  right = right;
}
  where
    within : class_number c < length counts
    within = omega (arith, h.four, number_low c)

    own : get_or (set counts (class_number c) n) (class_number c) 0
        ≡ count_up (flags_in (with_flag r c s b) c)
    own = get_or-set_same counts (class_number c) n 0 within ∙ is
        ∙ sym (ap count_up (get_or-set_same r (class_number c) (slice_set (flags_in r c) s b) []
        (omega (arith, within, h.four, h.classes))))

    right : (d : Class) → get_or (set counts (class_number c) n) (class_number d) 0
        ≡ count_up (flags_in (with_flag r c s b) d)
    right d = elim (cases_class d c) [
      | inl same ↦ subst (λ (k : Class). get_or (set counts (class_number c) n) (class_number k) 0
          ≡ count_up (flags_in (with_flag r c s b) k)) (sym same) own
      | inr other ↦ get_or-set_other counts (class_number c) (class_number d) n 0 other ∙ h.right d
          ∙ ap count_up (sym (set_elsewhere r c s b d other))
    ]

-- ---- the vectors that hold them

-- the counts are right after a flag of one of the vectors is set
pub vectors_set : (vs : List (Vec Bool Global)) (counts : List ℕ) (n k s : ℕ) (b : Bool)
    (y d : Vec Bool Global)
    (c : Class) → AreCounts (map (λ (v : Vec Bool Global). v.items) vs) counts → n ≡ class_number c →
    y.items ≡ slice_set (get_or vs n d).items s b →
    k ≡ count_up (slice_set (get_or vs n d).items s b) →
    AreCounts (map (λ (v : Vec Bool Global). v.items) (set vs n y)) (set counts n k)
vectors_set vs counts n k s b y d c h n_is y_is k_is =
    let r : Flags = map (λ (v : Vec Bool Global). v.items) vs in
    let low : n < length vs = omega (
      arith,
      n_is,
      number_low c,
      h.classes,
      length-map vs (λ (v : Vec Bool Global). v.items),
    ) in
    let here : flags_in r c ≡ (get_or vs n d).items =
    ap (λ (i : ℕ). get_or r i []) (sym n_is)
    ∙ get_or-map (λ (v : Vec Bool Global). v.items) vs n d [] low in
    let count : k ≡ count_up (slice_set (flags_in r c) s b) =
    k_is ∙ ap (λ (xs : List Bool). count_up (slice_set xs s b)) (sym here) in
    let after : map (λ (v : Vec Bool Global). v.items) (set vs n y) ≡ with_flag r c s b =
    map-set (λ (v : Vec Bool Global). v.items) vs n y
    ∙ ap (set r n) (y_is ∙ ap (λ (xs : List Bool). slice_set xs s b) (sym here))
    ∙ ap (λ (i : ℕ). set r i (slice_set (flags_in r c) s b)) n_is in
    subst (λ (z : Flags). AreCounts z (set counts n k)) (sym after)
    (subst (λ (i : ℕ). AreCounts (with_flag r c s b) (set counts i k)) (sym n_is)
    (counts_set r counts h c s k b count))

-- two flags that differ
pub other_down : (x y : Bool) → beq x y ≡ false → y ≡ true → x ≡ false
other_down true true e k = absurd (cc e)
other_down true false e k = absurd (cc k)
other_down false y e k = refl

pub other_up : (x y : Bool) → beq x y ≡ false → y ≡ false → x ≡ true
other_up false false e k = absurd (cc e)
other_up false true e k = absurd (cc k)
other_up true y e k = refl

-- an entry in range does not depend on the value for those past the end
in_range : (xs : List Bool) (i : ℕ) (a b : Bool) → i < length xs → get_or xs i a ≡ get_or xs i b
in_range [] i a b low = absurd (omega arith)
in_range (x ∷ xs) zero a b low = refl
in_range (x ∷ xs) (suc i) a b low = in_range xs i a b (omega (arith, low))

-- the flag of station s in one of the vectors has this value now
module _ (vs : List (Vec Bool Global)) (counts : List ℕ)
    (h : AreCounts (map (λ (v : Vec Bool Global). v.items) vs) counts) (c : Class) (n s at : ℕ)
    (d : Vec Bool Global) (now : Bool) (n_is : n ≡ class_number c) (at_is : at ≡ s)
    (room : s < length (flags_in (map (λ (v : Vec Bool Global). v.items) vs) c))
    (now_is : now ≡ get_or (get_or vs n d).items at now) where
  low : n < length vs
  low = omega (
    arith,
    n_is,
    number_low c,
    h.classes,
    length-map vs (λ (v : Vec Bool Global). v.items),
  )

  here : flags_in (map (λ (v : Vec Bool Global). v.items) vs) c ≡ (get_or vs n d).items
  here = ap (λ (i : ℕ). get_or (map (λ (v : Vec Bool Global). v.items) vs) i []) (sym n_is)
      ∙ get_or-map (λ (v : Vec Bool Global). v.items) vs n d [] low

  within : at < length (get_or vs n d).items
  within = omega (arith, room, at_is, ap length here)

  flag_is : get_or (get_or vs n d).items at false ≡ now
  flag_is = in_range (get_or vs n d).items at false now within ∙ sym now_is

  count_is : get_or counts n 0 ≡ count_up (get_or vs n d).items
  count_is = ap (λ (i : ℕ). get_or counts i 0) n_is ∙ h.right c ∙ ap count_up here

  pub fits_up : now ≡ false → get_or counts n 0 + 1 < 2 ^ 32
  fits_up down = omega (
    arith,
    count_is,
    not_all_up (get_or vs n d).items at within (flag_is ∙ down),
    h.few c,
    ap length here,
  )

  pub goes_up : (b : Bool) → b ≡ true → now ≡ false →
      get_or counts n 0 + 1 ≡ count_up (slice_set (get_or vs n d).items at b)
  goes_up b on down = omega (arith, count_is, one_more (get_or vs n d).items at within (flag_is ∙ down))
      ∙ ap (λ (y : Bool). count_up (slice_set (get_or vs n d).items at y)) (sym on)

  pub goes_down : (b : Bool) → b ≡ false → now ≡ true →
      get_or counts n 0 - 1 ≡ count_up (slice_set (get_or vs n d).items at b)
  goes_down b off up = omega (arith, count_is, one_less (get_or vs n d).items at within (flag_is ∙ up))
      ∙ ap (λ (y : Bool). count_up (slice_set (get_or vs n d).items at y)) (sym off)
