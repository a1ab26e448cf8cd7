-- Proves how the airtime of a list of open exchanges changes when one opens and when one ends.
use Rattle.std.proofs.Common.{◌≡◌, ◌∙◌, ℕ, zero, suc, ◌+◌, ◌-◌, ◌*◌, ◌==◌, ◌<◌, ◌≤◌, Bool, true, false, ◌&&◌, List, [], ◌∷◌, ◌++◌, length, get_or, set, replicate, inl, inr, ap, ap₂, sym, subst, refl, if◌then◌else◌, length-set, eq-eqb, arith}
use Rattle.std.specs.Prelude.{All}
use Rattle.std.proofs.lemmas.Bool.{cases_eq, and_parts, eqb-true}
use Rattle.std.proofs.lemmas.List.{get_or-set_same, get_or-set_other, get_or-replicate, length-replicate}
use Rattle.std.specs.List.{remove}
use Rattle.std.proofs.lemmas.List.Elements.{All-cons, All-head, All-tail}
use Rattle.wf_def_lists.specs.Bounds.{greatest_air}
use Rattle.wf_def_lists.specs.Table.{at}
use Rattle.wf_send_parts.specs.declared.exchanges.opened.Open.{Open}
use Rattle.wf_frame.specs.declared.classes.Class.{Class}
use Rattle.wf_frame.specs.declared.classes.Class.TheVariants.{Bk, Be, Vi, Vo}
use Rattle.wf_frame.specs.Classes.{class_number, same_class}
use Rattle.wf_send_parts.specs.Exchanges.{airtime_of, airtime_to}
use Rattle.wf_send_parts.specs.Counted.{airtime_place, AreAirtimes}
use Rattle.wf_send_parts.specs.declared.exchanges.opened.TheConstants.{MOST_STATIONS}

-- the charge of an exchange is at most the greatest airtime
abbrev pub IsSmall : Open → Type 0
IsSmall x = x.charge ≤ greatest_air

pub airtime_push : (xs : List Open) (y : Open) → airtime_of (xs ++ y ∷ []) ≡ airtime_of xs + y.charge
airtime_push [] y = omega arith
airtime_push (x ∷ xs) y = omega (arith, airtime_push xs y)

pub airtime_remove : (xs : List Open) (i : ℕ) (d : Open) → i < length xs →
    airtime_of (remove xs i) + (get_or xs i d).charge ≡ airtime_of xs
airtime_remove [] i d within = absurd (omega (arith, within))
airtime_remove (x ∷ xs) zero d within = omega arith
airtime_remove (x ∷ xs) (suc i) d within = omega (arith, airtime_remove xs i d (omega (arith, within)))

pub airtime_most : (xs : List Open) → All IsSmall xs → airtime_of xs ≤ greatest_air * length xs
airtime_most [] small = omega arith
airtime_most (x ∷ xs) small = omega (
  arith,
  All-head IsSmall x xs small,
  airtime_most xs (All-tail IsSmall x xs small),
)

-- an exchange's station is below 256
abbrev pub IsKnown : Open → Type 0
IsKnown x = x.station < MOST_STATIONS

-- a property of all exchanges holds for those that remain
pub all_remove : (P : Open → Type 0) (xs : List Open) (i : ℕ) → All P xs → All P (remove xs i)
all_remove P [] zero all = all
all_remove P [] (suc i) all = all
all_remove P (x ∷ xs) zero all = All-tail P x xs all
all_remove P (x ∷ xs) (suc i) all = All-cons P x (remove xs i) (All-head P x xs all)
    (all_remove P xs i (All-tail P x xs all))

-- ---- the airtime of one station in one class

-- the charge of an exchange, if it goes to station s in class c; otherwise 0
abbrev pub charge_to : Open → ℕ → Class → ℕ
charge_to x s c = if (x.station == s) && same_class x.class c then x.charge else 0

pub to_push : (xs : List Open) (y : Open) (s : ℕ) (c : Class) →
    airtime_to (xs ++ y ∷ []) s c ≡ airtime_to xs s c + charge_to y s c
to_push [] y s c = omega arith
to_push (x ∷ xs) y s c = omega (arith, to_push xs y s c)

pub to_remove : (xs : List Open) (i : ℕ) (d : Open) (s : ℕ) (c : Class) → i < length xs →
    airtime_to (remove xs i) s c + charge_to (get_or xs i d) s c ≡ airtime_to xs s c
to_remove [] i d s c within = absurd (omega (arith, within))
to_remove (x ∷ xs) zero d s c within = omega arith
to_remove (x ∷ xs) (suc i) d s c within = omega (arith, to_remove xs i d s c (omega (arith, within)))

charge_most : (x : Open) (s : ℕ) (c : Class) → charge_to x s c ≤ x.charge
charge_most x s c = of_test ((x.station == s) && same_class x.class c)
  where
    of_test : (b : Bool) → (if b then x.charge else 0) ≤ x.charge
    of_test true = omega arith
    of_test false = omega arith

pub to_most : (xs : List Open) (s : ℕ) (c : Class) → airtime_to xs s c ≤ airtime_of xs
to_most [] s c = omega arith
to_most (x ∷ xs) s c = omega (arith, charge_most x s c, to_most xs s c)

-- an exchange is charged to its own station and class
pub charge_own : (x : Open) → charge_to x x.station x.class ≡ x.charge
charge_own x = ap₂ (λ (a b : Bool). if a && b then x.charge else 0) (eq-eqb x.station x.station refl)
    (eq-eqb (class_number x.class) (class_number x.class) refl)

class_below : (c : Class) → class_number c < 4
class_below Bk = omega arith
class_below Be = omega arith
class_below Vi = omega arith
class_below Vo = omega arith

pub place_below : (s : ℕ) (c : Class) → s < MOST_STATIONS → airtime_place s c < 4 * MOST_STATIONS
place_below s c low = omega (arith, low, class_below c)

class_at : ℕ → Class
class_at n = at Vo (Bk ∷ Be ∷ Vi ∷ []) n

class_at-number : (c : Class) → class_at (class_number c) ≡ c
unfolding class_at
class_at-number Bk = refl
class_at-number Be = refl
class_at-number Vi = refl
class_at-number Vo = refl

same_number : (c d : Class) → class_number c ≡ class_number d → c ≡ d
same_number c d e = sym (class_at-number c) ∙ (ap class_at e ∙ class_at-number d)

-- a place has one station and one class
place_once : (s z : ℕ) (c d : Class) → s < MOST_STATIONS → z < MOST_STATIONS →
    airtime_place s c ≡ airtime_place z d → (s ≡ z) × (c ≡ d)
place_once s z c d low below e = (
  omega (arith, low, below, e),
  same_number c d (omega (arith, low, below, e)),
)

charge_elsewhere : (x : Open) (s : ℕ) (c : Class) →
    (airtime_place s c ≡ airtime_place x.station x.class → ⊥) → charge_to x s c ≡ 0
charge_elsewhere x s c other = of_test ((x.station == s) && same_class x.class c) refl
  where
    of_test : (b : Bool) → ((x.station == s) && same_class x.class c) ≡ b → (if b then x.charge else 0) ≡ 0
    of_test true e =
        let both : ((x.station == s) ≡ true) × (same_class x.class c ≡ true) = and_parts _ _ e in
        absurd (other (omega (arith, eqb-true _ _ both.0, eqb-true _ _ both.1)))
    of_test false e = refl

-- If the airtime at the place of exchange x is set, and no airtime changes to which x adds nothing, the
-- airtimes are right for the list `after`.
pub airtimes_set : (before after : List Open) (x : Open) (airtimes : List ℕ) (n : ℕ) →
    AreAirtimes before airtimes → IsKnown x → n ≡ airtime_to after x.station x.class →
    ((s : ℕ) (c : Class) → charge_to x s c ≡ 0 → airtime_to after s c ≡ airtime_to before s c) →
    AreAirtimes after (set airtimes (airtime_place x.station x.class) n)
airtimes_set before after x airtimes n are known is rest = record {
  places = length-set airtimes (airtime_place x.station x.class) n ∙ are.places;
  each = λ s c low. elim (cases_eq (airtime_place s c) (airtime_place x.station x.class)) [
    | inl e ↦
        let same = place_once s x.station c x.class low known e in
        ap (λ (i : ℕ). get_or (set airtimes (airtime_place x.station x.class) n) i 0) e
        ∙ get_or-set_same airtimes (airtime_place x.station x.class) n 0
        (omega (arith, are.places, place_below x.station x.class known))
        ∙ is ∙ ap₂ (λ (z : ℕ) (d : Class). airtime_to after z d) (sym same.0) (sym same.1)
    | inr other ↦
        get_or-set_other airtimes (airtime_place x.station x.class) (airtime_place s c) n 0 other
        ∙ are.each s c low ∙ sym (rest s c (charge_elsewhere x s c other))
  ];
}

-- no exchange is open
pub airtimes_none : AreAirtimes [] (replicate (4 * MOST_STATIONS) 0)
airtimes_none = record {
  places = length-replicate {A = ℕ} (4 * MOST_STATIONS) 0;
  each = λ s c low.
      get_or-replicate {A = ℕ} (4 * MOST_STATIONS) (airtime_place s c) 0 0 (place_below s c low);
}

-- ---- an exchange opens, and one ends

-- the airtime at the place of exchange x
pub airtime_there : (xs : List Open) (x : Open) (airtimes : List ℕ) (place old : ℕ) →
    AreAirtimes xs airtimes → IsKnown x → place ≡ airtime_place x.station x.class →
    old ≡ get_or airtimes place 0 → old ≡ airtime_to xs x.station x.class
airtime_there xs x airtimes place old are known at value =
    value ∙ ap (λ (i : ℕ). get_or airtimes i 0) at ∙ are.each x.station x.class known

pub airtimes_push : (xs after : List Open) (x : Open) (airtimes : List ℕ) (place old : ℕ) →
    AreAirtimes xs airtimes → IsKnown x → after ≡ xs ++ x ∷ [] → place ≡ airtime_place x.station x.class →
    old ≡ get_or airtimes place 0 → AreAirtimes after (set airtimes place (old + x.charge))
airtimes_push xs after x airtimes place old are known is at value =
    subst (λ (ys : List Open). AreAirtimes ys (set airtimes place (old + x.charge))) (sym is)
    (subst (λ (i : ℕ). AreAirtimes (xs ++ x ∷ []) (set airtimes i (old + x.charge))) (sym at)
    (airtimes_set xs (xs ++ x ∷ []) x airtimes (old + x.charge) are known
    (omega (
      arith,
      airtime_there xs x airtimes place old are known at value,
      charge_own x,
      to_push xs x x.station x.class,
    ))
    (λ s c none. omega (arith, to_push xs x s c, none))))

-- an airtime after exchange x ends, which has place i on the list
to_left : (xs : List Open) (i : ℕ) (x : Open) (s : ℕ) (c : Class) → i < length xs → x ≡ get_or xs i x →
    airtime_to (remove xs i) s c + charge_to x s c ≡ airtime_to xs s c
to_left xs i x s c within is = ap (λ (y : Open). airtime_to (remove xs i) s c + charge_to y s c) is
    ∙ to_remove xs i x s c within

pub airtime_covers : (xs : List Open) (i : ℕ) (x : Open) (airtimes : List ℕ) (place old : ℕ) →
    AreAirtimes xs airtimes → IsKnown x → i < length xs → x ≡ get_or xs i x →
    place ≡ airtime_place x.station x.class → old ≡ get_or airtimes place 0 → x.charge ≤ old
airtime_covers xs i x airtimes place old are known within is at value = omega (
  arith,
  airtime_there xs x airtimes place old are known at value,
  to_left xs i x x.station x.class within is,
  charge_own x,
)

pub airtimes_remove : (xs after : List Open) (i : ℕ) (x : Open) (airtimes : List ℕ) (place old : ℕ) →
    AreAirtimes xs airtimes → IsKnown x → i < length xs → x ≡ get_or xs i x → after ≡ remove xs i →
    place ≡ airtime_place x.station x.class → old ≡ get_or airtimes place 0 →
    AreAirtimes after (set airtimes place (old - x.charge))
airtimes_remove xs after i x airtimes place old are known within is left at value =
    subst (λ (ys : List Open). AreAirtimes ys (set airtimes place (old - x.charge))) (sym left)
    (subst (λ (k : ℕ). AreAirtimes (remove xs i) (set airtimes k (old - x.charge))) (sym at)
    (airtimes_set xs (remove xs i) x airtimes (old - x.charge) are known
    (omega (
      arith,
      airtime_there xs x airtimes place old are known at value,
      charge_own x,
      to_left xs i x x.station x.class within is,
    ))
    (λ s c none. omega (arith, to_left xs i x s c within is, none))))
