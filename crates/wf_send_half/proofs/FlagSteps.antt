-- Proves how flags change when they are set one after another, and that they are right when the last is set.
use Rattle.std.proofs.Common.{◌≡◌, ◌≢◌, refl, ap, sym, ◌∙◌, subst, arith, ℕ, ◌<◌, ◌≤◌, Bool, false, List, [], length, slice_set, inl, inr}
use Rattle.std.proofs.lemmas.Bool.{cases_eq, cases_lt}
use Rattle.std.proofs.lemmas.List.{get_or-set_same, get_or-set_other, get_or_past, length-set, set-set, set-get_or}
use Rattle.wf_frame.specs.Classes.{class_number}
use Rattle.wf_frame.specs.declared.classes.Class.{Class}
use Rattle.wf_frame.specs.declared.classes.Class.TheVariants.{Bk, Be, Vi, Vo}
use Rattle.wf_rotation.specs.Rotas.{is_ready as entry}
use Rattle.wf_law_runs.proofs.Deficits.Books.{cases_class}
use Rattle.wf_send_half_model.specs.Half.{TransmitValue, is_ready_of}
use Rattle.wf_send_half.specs.Flags.{Flags, flags_in, with_flag, with_flags, AreFlags}

-- ---- one flag is set

-- past the last class there is no flag, before and after
past_last : (r : Flags) (c : Class) (s : ℕ) (b : Bool) → length r ≤ class_number c →
    flags_in (with_flag r c s b) c ≡ flags_in r c
past_last r c s b far =
    let sized : length (with_flag r c s b) ≡ length r = length-set r (class_number c) _ in
    get_or_past (with_flag r c s b) (class_number c) [] (omega (arith, sized, far))
    ∙ sym (get_or_past r (class_number c) [] far)

-- the flags of the class itself
set_own : (r : Flags) (c : Class) (s : ℕ) (b : Bool) (P : List Bool → Type 0) → P (flags_in r c) →
    P (slice_set (flags_in r c) s b) → P (flags_in (with_flag r c s b) c)
set_own r c s b P old new = elim (cases_lt (class_number c) (length r)) [
  | inl low ↦ subst P (sym (get_or-set_same r (class_number c) (slice_set (flags_in r c) s b) [] low)) new
  | inr far ↦ subst P (sym (past_last r c s b far)) old
]

-- the flags of another class
pub set_elsewhere : (r : Flags) (c : Class) (s : ℕ) (b : Bool) (d : Class) →
    (class_number d ≡ class_number c → ⊥) → flags_in (with_flag r c s b) d ≡ flags_in r d
set_elsewhere r c s b d other = get_or-set_other r (class_number c) (class_number d) _ [] other

pub set_sized : (r : Flags) (c : Class) (s : ℕ) (b : Bool) (d : Class) →
    length (flags_in (with_flag r c s b) d) ≡ length (flags_in r d)
set_sized r c s b d = elim (cases_class d c) [
  | inl same ↦ subst (λ (x : Class). length (flags_in (with_flag r c s b) x) ≡ length (flags_in r x))
      (sym same) (set_own r c s b (λ xs. length xs ≡ length (flags_in r c)) refl
      (length-set (flags_in r c) s b))
  | inr other ↦ ap length (set_elsewhere r c s b d other)
]

-- so each class has room as before
pub room_after : (r z : Flags) (c d : Class) (s : ℕ) (b : Bool) → z ≡ with_flag r c s b →
    s < length (flags_in r d) → s < length (flags_in z d)
room_after r z c d s b is low = subst (λ (y : Flags). s < length (flags_in y d)) (sym is)
    (omega (arith, set_sized r c s b d, low))

-- to set a flag a second time to the same value changes nothing
pub flag_twice : (r z : Flags) (c : Class) (s : ℕ) (b : Bool) → z ≡ with_flag r c s b →
    with_flag z c s b ≡ z
flag_twice r z c s b is = subst (λ (y : Flags). with_flag y c s b ≡ y) (sym is)
    (ap (λ (xs : List Bool). slice_set (with_flag r c s b) (class_number c) xs) here
    ∙ set-get_or (with_flag r c s b) (class_number c) [])
  where
    here : slice_set (flags_in (with_flag r c s b) c) s b ≡ flags_in (with_flag r c s b) c
    here = elim (cases_lt (class_number c) (length r)) [
      | inl low ↦
          let e : flags_in (with_flag r c s b) c ≡ slice_set (flags_in r c) s b =
          get_or-set_same r (class_number c) (slice_set (flags_in r c) s b) [] low in
          ap (λ (xs : List Bool). slice_set xs s b) e ∙ set-set (flags_in r c) s b b ∙ sym e
      | inr far ↦
          let e : flags_in (with_flag r c s b) c ≡ [] =
          past_last r c s b far ∙ get_or_past r (class_number c) [] far in
          ap (λ (xs : List Bool). slice_set xs s b) e ∙ sym e
    ]

-- the flag of station s itself
set_here : (r : Flags) (c : Class) (s : ℕ) (b : Bool) → s < length (flags_in r c) →
    entry (flags_in (with_flag r c s b) c) s ≡ b
set_here r c s b low = elim (cases_lt (class_number c) (length r)) [
  | inl within ↦ ap (λ (xs : List Bool). entry xs s)
      (get_or-set_same r (class_number c) (slice_set (flags_in r c) s b) [] within)
      ∙ get_or-set_same (flags_in r c) s b false low
  | inr far ↦ absurd (omega (arith, low, ap length (get_or_past r (class_number c) [] far)))
]

-- the flag of another station
set_beside : (r : Flags) (c : Class) (s : ℕ) (b : Bool) (i : ℕ) → i ≢ s →
    entry (flags_in (with_flag r c s b) c) i ≡ entry (flags_in r c) i
set_beside r c s b i other = set_own r c s b (λ xs. entry xs i ≡ entry (flags_in r c) i) refl
    (get_or-set_other (flags_in r c) s i b false other)

set_apart : (r : Flags) (c : Class) (s : ℕ) (b : Bool) (i : ℕ) (d : Class) → (i ≡ s → d ≡ c → ⊥) →
    entry (flags_in (with_flag r c s b) d) i ≡ entry (flags_in r d) i
set_apart r c s b i d apart = elim (cases_class d c) [
  | inl same ↦ subst (λ (x : Class). entry (flags_in (with_flag r c s b) x) i ≡ entry (flags_in r x) i)
      (sym same) (set_beside r c s b i (λ e. apart e same))
  | inr other ↦ ap (λ (xs : List Bool). entry xs i) (set_elsewhere r c s b d other)
]

-- ---- all of them

-- the flags are right, except those of stations and classes for which Q holds
pub record AreNearly (v : TransmitValue) (r : Flags) (Q : ℕ → Class → Type 0) : Type 0 where
  pub sized : (c : Class) → length (flags_in r c) ≡ v.config.stations
  pub tells : (c : Class) (s : ℕ) → s < v.config.stations → (Q s c → ⊥) →
      entry (flags_in r c) s ≡ is_ready_of v c s

-- the exceptions that remain after the flag of station s in class c is set
abbrev pub Less : (ℕ → Class → Type 0) → ℕ → Class → ℕ → Class → Type 0
Less Q s c i d = Q i d × (i ≡ s → d ≡ c → ⊥)

pub set_one : (v : TransmitValue) (r : Flags) (Q : ℕ → Class → Type 0) (s : ℕ) (c : Class) → AreNearly v r Q →
    s < v.config.stations → AreNearly v (with_flag r c s (is_ready_of v c s)) (Less Q s c)
set_one v r Q s c h low = record {
  sized = λ d. set_sized r c s (is_ready_of v c s) d ∙ h.sized d;
  tells = λ d i small out.
      let apart = λ (k : i ≡ s → d ≡ c → ⊥). set_apart r c s (is_ready_of v c s) i d k
      ∙ h.tells d i small (λ q. out (q, k)) in
      elim (cases_eq i s) [
        | inl e ↦ elim (cases_class d c) [
          | inl k ↦ subst (λ (x : Class). entry (flags_in (with_flag r c s (is_ready_of v c s)) x) i
              ≡ is_ready_of v x i) (sym k)
              (subst (λ (n : ℕ). entry (flags_in (with_flag r c s (is_ready_of v c s)) c) n
              ≡ is_ready_of v c n) (sym e)
              (set_here r c s (is_ready_of v c s) (omega (arith, h.sized c, low))))
          | inr other ↦ apart (λ _ k. other (ap class_number k))
        ]
        | inr other ↦ apart (λ e _. other e)
      ];
}

-- no exception remains
pub all_set : (v : TransmitValue) (r : Flags) (Q : ℕ → Class → Type 0) → AreNearly v r Q →
    ((s : ℕ) (c : Class) → s < v.config.stations → Q s c → ⊥) → AreFlags v r
all_set v r Q h none c = record { stations = h.sized c; tells = λ s low. h.tells c s low (none s c low) }

-- the four flags of a station are set
pub set_four : (v : TransmitValue) (r : Flags) (s : ℕ) → AreNearly v r (λ i d. i ≡ s) →
    s < v.config.stations → AreFlags v (with_flags r v s)
set_four v r s h low = all_set v (with_flags r v s) _
    (set_one v _ _ s Vo (set_one v _ _ s Vi (set_one v _ _ s Be (set_one v r _ s Bk h low) low) low) low) none
  where
    none : (i : ℕ) (d : Class) → i < v.config.stations →
        Less (Less (Less (Less (λ j x. j ≡ s) s Bk) s Be) s Vi) s Vo i d → ⊥
    none i Bk small left = left.0.0.0.1 left.0.0.0.0 refl
    none i Be small left = left.0.0.1 left.0.0.0.0 refl
    none i Vi small left = left.0.1 left.0.0.0.0 refl
    none i Vo small left = left.1 left.0.0.0.0 refl

-- the flag of a station in one class is set
pub set_alone : (v : TransmitValue) (r : Flags) (s : ℕ) (c : Class) →
    AreNearly v r (λ i d. (i ≡ s) × (d ≡ c)) → s < v.config.stations →
    AreFlags v (with_flag r c s (is_ready_of v c s))
set_alone v r s c h low = all_set v (with_flag r c s (is_ready_of v c s)) _ (set_one v r _ s c h low)
    (λ i d small left. left.1 left.0.0 left.0.1)
