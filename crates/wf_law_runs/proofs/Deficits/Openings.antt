-- Proves facts about lists of open exchanges: a property that each has, how many they are, and their
-- greatest charges. By induction on the list.
use Rattle.std.proofs.Common.{◌≡◌, refl, ap, ◌∙◌, subst, arith, ℕ, suc, ◌+◌, ◌*◌, ◌<◌, ◌≤◌, Bool, true, false, if◌then◌else◌, cond, List, [], ◌∷◌, ◌++◌, Some, not, ◌&&◌, map, filter, find, ◌==◌, count_by, inl, inr}
use Rattle.std.proofs.lemmas.Bool.{cases_Bool, ne_eqb, eqb-true, eqb-false}
use Rattle.std.proofs.lemmas.List.Sums.{sum_by-cons}
use Rattle.wf_frame.specs.declared.classes.Class.{Class}
use Rattle.wf_def_world.specs.World.{Exchange, owed, owed_by_all}
use Rattle.wf_frame.specs.Classes.{class_number, same_class}
use Rattle.wf_law_runs.proofs.Deficits.Books.{core, same_number}

abbrev pub Every : (Exchange → Type 0) → List Exchange → Type 0
Every P [] = Unit {0}
Every P (x ∷ xs) = P x × Every P xs

pub every_map : (P Q : Exchange → Type 0) → ((x : Exchange) → P x → Q x) → (xs : List Exchange) → Every P xs →
    Every Q xs
every_map P Q h [] e = tt
every_map P Q h (x ∷ xs) e = (h x e.0, every_map P Q h xs e.1)

pub every_append : (P : Exchange → Type 0) (xs : List Exchange) (x : Exchange) → Every P xs → P x →
    Every P (xs ++ x ∷ [])
every_append P [] x e h = (h, tt)
every_append P (y ∷ ys) x e h = (e.0, every_append P ys x e.1 h)

every_if : (P : Exchange → Type 0) (b : Bool) (x : Exchange) (xs : List Exchange) → P x → Every P xs →
    Every P (cond b (x ∷ xs) xs)
every_if P true x xs h e = (h, e)
every_if P false x xs h e = e

pub every_filter : (P : Exchange → Type 0) (p : Exchange → Bool) (xs : List Exchange) → Every P xs →
    Every P (filter p xs)
every_filter P p [] e = tt
every_filter P p (x ∷ xs) e = every_if P (p x) x (filter p xs) e.0 (every_filter P p xs e.1)

same_some : (x y : Exchange) → Some x ≡ Some y → x ≡ y
same_some x y e = cc

every_find_step : (P : Exchange → Type 0) (p : Exchange → Bool) (xs : List Exchange) (x y : Exchange) → P y →
    (find p xs ≡ Some x → (p x ≡ true) × P x) → (b : Bool) → p y ≡ b → cond b (Some y) (find p xs) ≡ Some x →
    (p x ≡ true) × P x
every_find_step P p xs x y h below true e k =
    subst (λ (z : Exchange). (p z ≡ true) × P z) (same_some y x k) (e, h)
every_find_step P p xs x y h below false e k = below k

-- An exchange that is found passes the test, and has each property that all have.
pub every_find : (P : Exchange → Type 0) (p : Exchange → Bool) (xs : List Exchange) (x : Exchange) →
    Every P xs → find p xs ≡ Some x → (p x ≡ true) × P x
every_find P p [] x e k = absurd (cc k)
every_find P p (y ∷ ys) x e k = every_find_step P p ys x y e.0 (every_find P p ys x e.1) (p y) refl k

-- ---- increasing numbers

abbrev pub Rising : ℕ → List Exchange → Type 0
Rising lo [] = Unit {0}
Rising lo (x ∷ xs) = (lo ≤ x.number) × Rising (suc x.number) xs

pub rising_lower : (lo hi : ℕ) (xs : List Exchange) → lo ≤ hi → Rising hi xs → Rising lo xs
rising_lower lo hi [] h e = tt
rising_lower lo hi (x ∷ xs) h e = (omega (arith, e.0), e.1)

pub rising_append : (lo : ℕ) (xs : List Exchange) (x : Exchange) → Rising lo xs →
    Every (λ y. y.number < x.number) xs → lo ≤ x.number → Rising lo (xs ++ x ∷ [])
rising_append lo [] x e h k = (k, tt)
rising_append lo (y ∷ ys) x e h k = (e.0, rising_append (suc y.number) ys x e.1 h.1 h.0)

rising_if : (b : Bool) (lo : ℕ) (x : Exchange) (xs : List Exchange) → lo ≤ x.number →
    Rising (suc x.number) xs → Rising lo (cond b (x ∷ xs) xs)
rising_if true lo x xs h e = (h, e)
rising_if false lo x xs h e = rising_lower lo (suc x.number) xs (omega arith) e

pub rising_filter : (p : Exchange → Bool) (lo : ℕ) (xs : List Exchange) → Rising lo xs →
    Rising lo (filter p xs)
rising_filter p lo [] e = tt
rising_filter p lo (x ∷ xs) e = rising_if (p x) lo x (filter p xs) e.0 (rising_filter p (suc x.number) xs e.1)

above : (lo : ℕ) (xs : List Exchange) → Rising lo xs → Every (λ y. lo ≤ y.number) xs
above lo [] e = tt
above lo (x ∷ xs) e = (
  e.0,
  every_map (λ y. suc x.number ≤ y.number) (λ y. lo ≤ y.number)
      (λ y h. omega (arith, h, e.0)) xs (above (suc x.number) xs e.1),
)

only_step : (xs : List Exchange) (x y : Exchange) (e : ℕ) → Every (λ z. suc y.number ≤ z.number) xs →
    (find (λ z. z.number == e) xs ≡ Some x → Every (λ z. z.number ≡ e → z ≡ x) xs) → (b : Bool) →
    (y.number == e) ≡ b → cond b (Some y) (find (λ z. z.number == e) xs) ≡ Some x →
    Every (λ z. z.number ≡ e → z ≡ x) (y ∷ xs)
only_step xs x y e h below true t k =
    let at_e : y.number ≡ e = eqb-true _ _ t in (
      (λ _. same_some y x k),
      every_map (λ z. suc y.number ≤ z.number) (λ z. z.number ≡ e → z ≡ x)
          (λ z more is. absurd (omega arith)) xs h,
    )
only_step xs x y e h below false t k = ((λ is. absurd (eqb-false _ _ t is)), below k)

-- Only one exchange has a number.
pub only_one : (lo : ℕ) (xs : List Exchange) (x : Exchange) (e : ℕ) → Rising lo xs →
    find (λ z. z.number == e) xs ≡ Some x → Every (λ z. z.number ≡ e → z ≡ x) xs
only_one lo [] x e r k = tt
only_one lo (y ∷ ys) x e r k = only_step ys x y e (above (suc y.number) ys r.1)
    (only_one (suc y.number) ys x e r.1) (y.number == e) refl k

-- ---- how many exchanges a class has

abbrev pub many : Class → List Exchange → ℕ
many c [] = 0
many c (x ∷ xs) = (if same_class x.class c then 1 else 0) + many c xs

pub many-count : (c : Class) (xs : List Exchange) → count_by (λ x. same_class x.class c) xs ≡ many c xs
many-count c [] = refl
many-count c (x ∷ xs) = sum_by-cons (λ (x : Exchange). cond (same_class x.class c) 1 0) x xs
    ∙ ap (λ (n : ℕ). (if same_class x.class c then 1 else 0) + n) (many-count c xs)

pub many-core : (c : Class) (xs : List Exchange) → many c (map core xs) ≡ many c xs
many-core c [] = refl
many-core c (x ∷ xs) = ap (λ (n : ℕ). (if same_class x.class c then 1 else 0) + n) (many-core c xs)

pub many-append : (c : Class) (xs : List Exchange) (x : Exchange) →
    many c (xs ++ x ∷ []) ≡ many c xs + (if same_class x.class c then 1 else 0)
many-append c [] x = omega arith
many-append c (y ∷ ys) x = omega (arith, many-append c ys x)

more_if : (b : Bool) (m k : ℕ) → k ≡ m + (if b then 1 else 0) → k ≤ suc m
more_if true m k e = omega arith
more_if false m k e = omega arith

-- One exchange more adds at most one.
pub many-more : (c : Class) (xs : List Exchange) (x : Exchange) → many c (xs ++ x ∷ []) ≤ suc (many c xs)
many-more c xs x = more_if (same_class x.class c) (many c xs) (many c (xs ++ x ∷ [])) (many-append c xs x)

other_if : (b : Bool) (m k : ℕ) → b ≡ false → k ≡ m + (if b then 1 else 0) → k ≡ m
other_if true m k h e = absurd (cc h)
other_if false m k h e = omega arith

-- An exchange of another class adds none.
pub many-other : (c : Class) (xs : List Exchange) (x : Exchange) →
    (class_number x.class ≡ class_number c → ⊥) → many c (xs ++ x ∷ []) ≡ many c xs
many-other c xs x other = other_if (same_class x.class c) (many c xs) (many c (xs ++ x ∷ []))
    (ne_eqb (class_number x.class) (class_number c) other) (many-append c xs x)

many_if : (b : Bool) (c : Class) (x : Exchange) (xs : List Exchange) (n : ℕ) → many c xs ≤ n →
    many c (cond b (x ∷ xs) xs) ≤ (if same_class x.class c then 1 else 0) + n
many_if true c x xs n h = omega arith
many_if false c x xs n h = omega arith

pub many-filter : (c : Class) (p : Exchange → Bool) (xs : List Exchange) → many c (filter p xs) ≤ many c xs
many-filter c p [] = omega arith
many-filter c p (x ∷ xs) = many_if (p x) c x (filter p xs) (many c xs) (many-filter c p xs)

-- ---- charges

pub owed-core : (s : ℕ) (c : Class) (xs : List Exchange) → owed s c (map core xs) ≡ owed s c xs
owed-core s c [] = refl
owed-core s c (x ∷ xs) =
    ap (λ (n : ℕ). (if (x.station == s) && same_class x.class c then x.charge else 0) + n) (owed-core s c xs)

pub owed-append : (s : ℕ) (c : Class) (xs : List Exchange) (x : Exchange) → owed s c (xs ++ x ∷ [])
    ≡ owed s c xs + (if (x.station == s) && same_class x.class c then x.charge else 0)
owed-append s c [] x = omega arith
owed-append s c (y ∷ ys) x = omega (arith, owed-append s c ys x)

owed_if : (b : Bool) (s : ℕ) (c : Class) (x : Exchange) (xs : List Exchange) (n : ℕ) → owed s c xs ≤ n →
    owed s c (cond b (x ∷ xs) xs) ≤ (if (x.station == s) && same_class x.class c then x.charge else 0) + n
owed_if true s c x xs n h = omega arith
owed_if false s c x xs n h = omega arith

pub owed-filter : (s : ℕ) (c : Class) (p : Exchange → Bool) (xs : List Exchange) →
    owed s c (filter p xs) ≤ owed s c xs
owed-filter s c p [] = omega arith
owed-filter s c p (x ∷ xs) = owed_if (p x) s c x (filter p xs) (owed s c xs) (owed-filter s c p xs)

-- An exchange to another station adds nothing to the airtime in flight of a station.
pub owed-others_append : (s : ℕ) (c : Class) (xs : List Exchange) (x : Exchange) → (x.station ≡ s → ⊥) →
    owed s c (xs ++ x ∷ []) ≡ owed s c xs
owed-others_append s c [] x other =
    let none : (x.station == s) ≡ false = ne_eqb x.station s other in rw none refl
owed-others_append s c (y ∷ ys) x other =
    ap (λ (n : ℕ). (if (y.station == s) && same_class y.class c then y.charge else 0) + n)
    (owed-others_append s c ys x other)

-- No exchange has a number that is below all numbers.
filter_none : (n : ℕ) (xs : List Exchange) → Every (λ x. suc n ≤ x.number) xs →
    filter (λ z. not (z.number == n)) xs ≡ xs
filter_none n [] e = refl
filter_none n (x ∷ xs) e =
    let other : (x.number == n) ≡ false = ne_eqb x.number n (λ is. absurd (let l = e.0 in omega arith)) in
    rw (other, filter_none n xs e.1) refl

-- Returns what f gives for an exchange, if it is an exchange of the station in the class; otherwise 0.
abbrev pub part : (Exchange → ℕ) → ℕ → Class → Exchange → ℕ
part f s c x = if (x.station == s) && same_class x.class c then f x else 0

-- Returns the sum of f over a station's open exchanges in a class.
abbrev pub total : (Exchange → ℕ) → ℕ → Class → List Exchange → ℕ
total f s c [] = 0
total f s c (x ∷ xs) = part f s c x + total f s c xs

pub total-append : (f : Exchange → ℕ) (s : ℕ) (c : Class) (xs : List Exchange) (x : Exchange) →
    total f s c (xs ++ x ∷ []) ≡ total f s c xs + part f s c x
total-append f s c [] x = omega arith
total-append f s c (y ∷ ys) x = omega (arith, total-append f s c ys x)

ended_total_step : (f : Exchange → ℕ) (s : ℕ) (c : Class) (xs : List Exchange) (x y : Exchange) (e : ℕ) →
    Every (λ z. suc y.number ≤ z.number) xs → (find (λ z. z.number == e) xs ≡ Some x →
    total f s c (filter (λ z. not (z.number == e)) xs) + part f s c x ≡ total f s c xs) → (b : Bool) →
    (y.number == e) ≡ b → cond b (Some y) (find (λ z. z.number == e) xs) ≡ Some x →
    total f s c (cond (not b) (y ∷ filter (λ z. not (z.number == e)) xs)
    (filter (λ z. not (z.number == e)) xs)) + part f s c x ≡ part f s c y + total f s c xs
ended_total_step f s c xs x y e h below true t k =
    let same : part f s c y ≡ part f s c x = ap (part f s c) (same_some y x k) in
    let all : total f s c (filter (λ z. not (z.number == e)) xs) ≡ total f s c xs =
    ap (total f s c) (subst (λ (n : ℕ). filter (λ z. not (z.number == n)) xs ≡ xs) (eqb-true _ _ t)
    (filter_none y.number xs h)) in
    omega arith
ended_total_step f s c xs x y e h below false t k = omega (arith, below k)

-- The sum falls by the part of an exchange that ends.
pub total-ended : (f : Exchange → ℕ) (lo s : ℕ) (c : Class) (xs : List Exchange) (x : Exchange) (e : ℕ) →
    Rising lo xs → find (λ z. z.number == e) xs ≡ Some x →
    total f s c (filter (λ z. not (z.number == e)) xs) + part f s c x ≡ total f s c xs
total-ended f lo s c [] x e r k = absurd (cc k)
total-ended f lo s c (y ∷ ys) x e r k = ended_total_step f s c ys x y e (above (suc y.number) ys r.1)
    (total-ended f (suc y.number) s c ys x e r.1) (y.number == e) refl k

pub owed-total : (s : ℕ) (c : Class) (xs : List Exchange) → owed s c xs ≡ total (λ x. x.charge) s c xs
owed-total s c [] = refl
owed-total s c (x ∷ xs) = ap (λ (n : ℕ). part (λ x. x.charge) s c x + n) (owed-total s c xs)

-- Returns what an exchange adds to the airtime in flight of a station in a class.
abbrev pub owed_of : ℕ → Class → Exchange → ℕ
owed_of s c x = part (λ x. x.charge) s c x

-- The airtime in flight of a station falls by what an exchange that ends added to it.
pub owed-ended : (lo s : ℕ) (c : Class) (xs : List Exchange) (x : Exchange) (e : ℕ) → Rising lo xs →
    find (λ z. z.number == e) xs ≡ Some x →
    owed s c (filter (λ z. not (z.number == e)) xs) + owed_of s c x ≡ owed s c xs
owed-ended lo s c xs x e r k = omega (
  arith,
  total-ended (λ x. x.charge) lo s c xs x e r k,
  owed-total s c xs,
  owed-total s c (filter (λ z. not (z.number == e)) xs),
)

-- If no exchange is to a station, it has no airtime in flight.
pub owed-none : (s : ℕ) (c : Class) (xs : List Exchange) → Every (λ x. x.station ≡ s → ⊥) xs → owed s c xs ≡ 0
owed-none s c [] h = refl
owed-none s c (x ∷ xs) h =
    let none : (x.station == s) ≡ false = ne_eqb x.station s h.0 in
    rw none (omega (arith, owed-none s c xs h.1))

-- If only exchanges to other stations are removed, the airtime in flight of a station does not change.
pub owed-others_filter : (s : ℕ) (c : Class) (p : Exchange → Bool) (xs : List Exchange) →
    Every (λ x. p x ≡ false → x.station ≡ s → ⊥) xs → owed s c (filter p xs) ≡ owed s c xs
owed-others_filter s c p [] h = refl
owed-others_filter s c p (x ∷ xs) h = elim (cases_Bool (p x)) [
  | inl stays ↦ rw stays
      (ap (λ (n : ℕ). (if (x.station == s) && same_class x.class c then x.charge else 0) + n)
      (owed-others_filter s c p xs h.1))
  | inr goes ↦
      let none : (x.station == s) ≡ false = ne_eqb x.station s (h.0 goes) in
      rw (goes, none) (omega (arith, owed-others_filter s c p xs h.1))
]

pub owed_all-core : (xs : List Exchange) → owed_by_all (map core xs) ≡ owed_by_all xs
owed_all-core [] = refl
owed_all-core (x ∷ xs) = ap (λ (n : ℕ). x.charge + n) (owed_all-core xs)

pub owed_all-append : (xs : List Exchange) (x : Exchange) →
    owed_by_all (xs ++ x ∷ []) ≡ owed_by_all xs + x.charge
owed_all-append [] x = omega arith
owed_all-append (y ∷ ys) x = omega (arith, owed_all-append ys x)

owed_all_if : (b : Bool) (x : Exchange) (xs : List Exchange) (n : ℕ) → owed_by_all xs ≤ n →
    owed_by_all (cond b (x ∷ xs) xs) ≤ x.charge + n
owed_all_if true x xs n h = omega arith
owed_all_if false x xs n h = omega arith

pub owed_all-filter : (p : Exchange → Bool) (xs : List Exchange) →
    owed_by_all (filter p xs) ≤ owed_by_all xs
owed_all-filter p [] = omega arith
owed_all-filter p (x ∷ xs) =
    owed_all_if (p x) x (filter p xs) (owed_by_all xs) (owed_all-filter p xs)

-- Returns the greatest charge of an exchange to a station in a class, if no charge is more than l.
abbrev pub part_of : ℕ → ℕ → Class → Exchange → ℕ
part_of l s c x = if (x.station == s) && same_class x.class c then l else 0

-- Returns the greatest charge of a station's open exchanges in a class, if no charge is more than l.
abbrev pub reserved : ℕ → ℕ → Class → List Exchange → ℕ
reserved l s c [] = 0
reserved l s c (x ∷ xs) = part_of l s c x + reserved l s c xs

pub reserved-append : (l s : ℕ) (c : Class) (xs : List Exchange) (x : Exchange) →
    reserved l s c (xs ++ x ∷ []) ≡ reserved l s c xs + part_of l s c x
reserved-append l s c [] x = omega arith
reserved-append l s c (y ∷ ys) x = omega (arith, reserved-append l s c ys x)

reserved_if : (b : Bool) (l s : ℕ) (c : Class) (x : Exchange) (xs : List Exchange) (n : ℕ) →
    reserved l s c xs ≤ n → reserved l s c (cond b (x ∷ xs) xs) ≤ part_of l s c x + n
reserved_if true l s c x xs n h = omega arith
reserved_if false l s c x xs n h = omega arith

pub reserved-filter : (l s : ℕ) (c : Class) (p : Exchange → Bool) (xs : List Exchange) →
    reserved l s c (filter p xs) ≤ reserved l s c xs
reserved-filter l s c p [] = omega arith
reserved-filter l s c p (x ∷ xs) =
    reserved_if (p x) l s c x (filter p xs) (reserved l s c xs) (reserved-filter l s c p xs)

ended_step : (l s : ℕ) (c : Class) (xs : List Exchange) (x y : Exchange) (e : ℕ) →
    (find (λ z. z.number == e) xs ≡ Some x →
    reserved l s c (filter (λ z. not (z.number == e)) xs) + part_of l s c x ≤ reserved l s c xs)
    → (b : Bool) → (y.number == e) ≡ b → cond b (Some y) (find (λ z. z.number == e) xs) ≡ Some x →
    reserved l s c (cond (not b) (y ∷ filter (λ z. not (z.number == e)) xs)
    (filter (λ z. not (z.number == e)) xs)) + part_of l s c x ≤ part_of l s c y + reserved l s c xs
ended_step l s c xs x y e below true t k =
    let same : part_of l s c y ≡ part_of l s c x = ap (part_of l s c) (same_some y x k) in
    omega (arith, reserved-filter l s c (λ z. not (z.number == e)) xs)
ended_step l s c xs x y e below false t k = omega (arith, below k)

-- The greatest charge falls by that of an exchange that ends.
pub reserved-ended : (l s : ℕ) (c : Class) (xs : List Exchange) (x : Exchange) (e : ℕ) →
    find (λ z. z.number == e) xs ≡ Some x →
    reserved l s c (filter (λ z. not (z.number == e)) xs) + part_of l s c x ≤ reserved l s c xs
reserved-ended l s c [] x e k = absurd (cc k)
reserved-ended l s c (y ∷ ys) x e k =
    ended_step l s c ys x y e (reserved-ended l s c ys x e) (y.number == e) refl k

reserved_one : (a b : Bool) (l : ℕ) → (if a && b then l else 0) ≤ (if b then 1 else 0) * l
reserved_one true true l = omega arith
reserved_one true false l = omega arith
reserved_one false true l = omega arith
reserved_one false false l = omega arith

-- A station's exchanges in a class are exchanges of the class.
pub reserved_most : (l s : ℕ) (c : Class) (xs : List Exchange) → reserved l s c xs ≤ many c xs * l
reserved_most l s c [] = omega arith
reserved_most l s c (x ∷ xs) = both (part_of l s c x) (if same_class x.class c then 1 else 0)
    (reserved l s c xs) (many c xs) (reserved_one (x.station == s) (same_class x.class c) l)
    (reserved_most l s c xs)
  where
    both : (a b m n : ℕ) → a ≤ b * l → m ≤ n * l → a + m ≤ (b + n) * l
    both a b m n h k = omega arith

owed_one : (a b : Bool) (l n : ℕ) → (b ≡ true → n ≤ l) →
    (if a && b then n else 0) ≤ (if a && b then l else 0)
owed_one true true l n h = h refl
owed_one true false l n h = omega arith
owed_one false b l n h = omega arith

-- The computed charges are at most the greatest charges, if those of the class are.
pub owed_reserved : (l s : ℕ) (c : Class) (xs : List Exchange) → Every (λ x. x.class ≡ c → x.charge ≤ l) xs →
    owed s c xs ≤ reserved l s c xs
owed_reserved l s c [] e = omega arith
owed_reserved l s c (x ∷ xs) e = omega (
  arith,
  owed_one (x.station == s) (same_class x.class c) l x.charge
      (λ t. e.0 (same_number x.class c (eqb-true _ _ t))),
  owed_reserved l s c xs e.1,
)

-- The airtime in flight of a station is at most that of the exchanges of the class.
pub owed_most : (l s : ℕ) (c : Class) (xs : List Exchange) → Every (λ x. x.class ≡ c → x.charge ≤ l) xs →
    owed s c xs ≤ many c xs * l
owed_most l s c xs e = omega (arith, owed_reserved l s c xs e, reserved_most l s c xs)

-- ---- sums over a station's exchanges

pub total-none : (f : Exchange → ℕ) (s : ℕ) (c : Class) (xs : List Exchange) →
    Every (λ x. x.station ≡ s → ⊥) xs → total f s c xs ≡ 0
total-none f s c [] h = refl
total-none f s c (x ∷ xs) h =
    let none : (x.station == s) ≡ false = ne_eqb x.station s h.0 in
    rw none (omega (arith, total-none f s c xs h.1))

more_part : (b : Bool) (m n : ℕ) → m ≤ n → (if b then m else 0) ≤ (if b then n else 0)
more_part true m n h = h
more_part false m n h = omega arith

pub total_less : (f g : Exchange → ℕ) (s : ℕ) (c : Class) (xs : List Exchange) →
    ((x : Exchange) → f x ≤ g x) →
    total f s c xs ≤ total g s c xs
total_less f g s c [] h = omega arith
total_less f g s c (x ∷ xs) h = omega (
  arith,
  more_part ((x.station == s) && same_class x.class c) (f x) (g x) (h x),
  total_less f g s c xs h,
)

part_sum : (b : Bool) (m n : ℕ) → (if b then m + n else 0) ≡ (if b then m else 0) + (if b then n else 0)
part_sum true m n = refl
part_sum false m n = omega arith

pub total-sum : (f g : Exchange → ℕ) (s : ℕ) (c : Class) (xs : List Exchange) →
    total (λ x. f x + g x) s c xs ≡ total f s c xs + total g s c xs
total-sum f g s c [] = omega arith
total-sum f g s c (x ∷ xs) = omega (
  arith,
  part_sum ((x.station == s) && same_class x.class c) (f x) (g x),
  total-sum f g s c xs,
)

-- A station's exchanges in a class are exchanges of the class.
pub total_most : (l s : ℕ) (c : Class) (xs : List Exchange) → total (λ _. l) s c xs ≤ many c xs * l
total_most l s c xs = omega (arith, same xs, reserved_most l s c xs)
  where
    same : (xs : List Exchange) → total (λ _. l) s c xs ≡ reserved l s c xs
    same [] = refl
    same (x ∷ xs) = ap (λ (n : ℕ). part_of l s c x + n) (same xs)
