-- Proves how the computed airtime of the open exchanges to a station in a class changes when an exchange
-- opens, closes, or has news of its receiver. Open exchanges have rising numbers, so each number is there
-- once.
use Rattle.std.proofs.Common.{◌≡◌, refl, ap, ap₂, sym, ◌∙◌, subst, arith, ℕ, suc, ◌+◌, ◌<◌, ◌≤◌, Bool, true, false, if◌then◌else◌, ◌&&◌, List, [], ◌∷◌, Some, not, map, filter, ◌==◌, eq-eqb, inl, inr}
use Rattle.std.specs.Prelude.{find}
use Rattle.std.proofs.lemmas.Bool.{cases_eq, ne_eqb}
use Rattle.wf_frame.specs.declared.classes.Class.{Class}
use Rattle.wf_frame.specs.Classes.{class_number, same_class}
use Rattle.wf_def_world.specs.World.{Exchange, owed}
use Rattle.wf_law_runs.specs.Windows.{OpenRises, EachOpen}
use Rattle.wf_sched_refines.specs.Standing.{HasSameAir}

-- what one exchange adds to the airtime of a station in a class
abbrev pub part : ℕ → Class → Exchange → ℕ
part s c x = if (x.station == s) && same_class x.class c then x.charge else 0

pub part_own : (x : Exchange) → part x.station x.class x ≡ x.charge
part_own x = rw (
  eq-eqb x.station x.station refl,
  eq-eqb (class_number x.class) (class_number x.class) refl,
) refl

pub part_other : (s : ℕ) (c : Class) (x : Exchange) →
    (s ≡ x.station → class_number c ≡ class_number x.class → ⊥) → part s c x ≡ 0
part_other s c x other = elim (cases_eq x.station s) [
  | inl here ↦ rw (
    eq-eqb x.station s here,
    ne_eqb (class_number x.class) (class_number c) (λ e. other (sym here) (sym e)),
  ) refl
  | inr far ↦ rw (ne_eqb x.station s far) refl
]

-- the exchange with a number comes first or later
found_first : (x y : Exchange) (e : ℕ) (ys : List Exchange) → y.number ≡ e →
    find (λ z. z.number == e) (y ∷ ys) ≡ Some x → y ≡ x
found_first x y e ys here found =
    let first : (if y.number == e then Some y else find (λ (z : Exchange). z.number == e) ys) ≡ Some y =
    ap (λ (b : Bool). if b then Some y else find (λ (z : Exchange). z.number == e) ys)
    (eq-eqb y.number e here) in cc (first, found)

found_later : (x y : Exchange) (e : ℕ) (ys : List Exchange) → (y.number ≡ e → ⊥) →
    find (λ z. z.number == e) (y ∷ ys) ≡ Some x → find (λ z. z.number == e) ys ≡ Some x
found_later x y e ys other found =
    sym (ap (λ (b : Bool). if b then Some y else find (λ (z : Exchange). z.number == e) ys)
    (ne_eqb y.number e other)) ∙ found

pub found_number : (xs : List Exchange) (x : Exchange) (e : ℕ) → find (λ z. z.number == e) xs ≡ Some x →
    x.number ≡ e
found_number [] x e found = absurd (cc found)
found_number (y ∷ ys) x e found = elim (cases_eq y.number e) [
  | inl here ↦ ap (λ (z : Exchange). z.number) (sym (found_first x y e ys here found)) ∙ here
  | inr other ↦ found_number ys x e (found_later x y e ys other found)
]

-- an open exchange is a part of the airtime in flight
pub owed_part : (xs : List Exchange) (x : Exchange) (e s : ℕ) (c : Class) →
    find (λ z. z.number == e) xs ≡ Some x → part s c x ≤ owed s c xs
owed_part [] x e s c found = absurd (cc found)
owed_part (y ∷ ys) x e s c found = elim (cases_eq y.number e) [
  | inl here ↦ subst (λ (z : Exchange). part s c z ≤ part s c y + owed s c ys)
      (found_first x y e ys here found) (omega arith)
  | inr other ↦ omega (arith, owed_part ys x e s c (found_later x y e ys other found))
]

-- ---- an exchange closes

none_without : (xs : List Exchange) (e s : ℕ) (c : Class) (lo hi : ℕ) → e < lo → OpenRises lo hi xs →
    owed s c (filter (λ z. not (z.number == e)) xs) ≡ owed s c xs
none_without [] e s c lo hi low rises = refl
none_without (y ∷ ys) e s c lo hi low rises =
    let other : (y.number == e) ≡ false = ne_eqb y.number e (λ k. absurd (omega (arith, k, low, rises.0))) in
    ap (λ (b : Bool). owed s c (if not b then y ∷ filter (λ (z : Exchange). not (z.number == e)) ys
    else filter (λ (z : Exchange). not (z.number == e)) ys)) other
    ∙ ap (λ (n : ℕ). part s c y + n) (none_without ys e s c (suc y.number) hi
    (omega (arith, low, rises.0)) rises.2)

pub owed_without : (xs : List Exchange) (x : Exchange) (e s : ℕ) (c : Class) (lo hi : ℕ) →
    OpenRises lo hi xs →
    find (λ z. z.number == e) xs ≡ Some x →
    owed s c (filter (λ z. not (z.number == e)) xs) + part s c x ≡ owed s c xs
owed_without [] x e s c lo hi rises found = absurd (cc found)
owed_without (y ∷ ys) x e s c lo hi rises found = elim (cases_eq y.number e) [
  | inl here ↦
      let rest : owed s c (filter (λ z. not (z.number == e)) (y ∷ ys)) ≡ owed s c ys =
      ap (λ (b : Bool). owed s c (if not b then y ∷ filter (λ (z : Exchange). not (z.number == e)) ys
      else filter (λ (z : Exchange). not (z.number == e)) ys)) (eq-eqb y.number e here)
      ∙ none_without ys e s c (suc y.number) hi (omega (arith, here)) rises.2 in
      let same : part s c x ≡ part s c y = ap (part s c) (sym (found_first x y e ys here found)) in
      omega (arith, rest, same)
  | inr other ↦
      let kept : owed s c (filter (λ z. not (z.number == e)) (y ∷ ys))
      ≡ part s c y + owed s c (filter (λ z. not (z.number == e)) ys) =
      ap (λ (b : Bool). owed s c (if not b then y ∷ filter (λ (z : Exchange). not (z.number == e)) ys
      else filter (λ (z : Exchange). not (z.number == e)) ys)) (ne_eqb y.number e other) in
      omega (
        arith,
        kept,
        owed_without ys x e s c (suc y.number) hi rises.2
            (found_later x y e ys other found),
      )
]

-- ---- an exchange has news of its receiver

-- the open exchanges with the one of y's number replaced by y
abbrev pub told : Exchange → List Exchange → List Exchange
told y xs = map (λ z. if z.number == y.number then y else z) xs

none_told : (xs : List Exchange) (y : Exchange) (lo hi : ℕ) → y.number < lo → OpenRises lo hi xs →
    told y xs ≡ xs
none_told [] y lo hi low rises = refl
none_told (x ∷ xs) y lo hi low rises =
    let other : (x.number == y.number) ≡ false = ne_eqb x.number y.number
    (λ e. absurd (omega (arith, e, low, rises.0))) in
    ap₂ (λ (b : Bool) (t : List Exchange). (if b then y else x) ∷ t) other
    (none_told xs y (suc x.number) hi (omega (arith, low, rises.0)) rises.2)

same_part : (x y : Exchange) (s : ℕ) (c : Class) → HasSameAir x y → part s c y ≡ part s c x
same_part x y s c same = rw (same.station, same.class, same.charge) refl

pub owed_told : (xs : List Exchange) (x y : Exchange) (e s : ℕ) (c : Class) (lo hi : ℕ) → OpenRises lo hi xs →
    find (λ z. z.number == e) xs ≡ Some x → HasSameAir x y → owed s c (told y xs) ≡ owed s c xs
owed_told [] x y e s c lo hi rises found same = absurd (cc found)
owed_told (z ∷ zs) x y e s c lo hi rises found same =
    let number : y.number ≡ e = same.number ∙ found_number (z ∷ zs) x e found in
    elim (cases_eq z.number e) [
      | inl here ↦
          ap₂ (λ (b : Bool) (t : List Exchange). owed s c ((if b then y else z) ∷ t))
          (eq-eqb z.number y.number (here ∙ sym number))
          (none_told zs y (suc z.number) hi (omega (arith, number, here)) rises.2)
          ∙ ap (λ (n : ℕ). n + owed s c zs) (same_part x y s c same
          ∙ ap (part s c) (sym (found_first x z e zs here found)))
      | inr other ↦
          ap (λ (b : Bool). owed s c ((if b then y else z) ∷ told y zs))
          (ne_eqb z.number y.number (λ k. other (k ∙ number)))
          ∙ ap (λ (n : ℕ). part s c z + n) (owed_told zs x y e s c (suc z.number) hi rises.2
          (found_later x z e zs other found) same)
    ]

-- ---- a station to which no exchange is open

pub none_owed : (live : ℕ → Bool) (xs : List Exchange) (s : ℕ) (c : Class) →
    EachOpen (λ x. live x.station ≡ true) xs → live s ≡ false → owed s c xs ≡ 0
none_owed live [] s c each off = refl
none_owed live (x ∷ xs) s c each off =
    let none : part s c x ≡ 0 = part_other s c x (λ e _. absurd (cc (each.0, ap live e, off))) in
    omega (arith, none, none_owed live xs s c each.1 off)
