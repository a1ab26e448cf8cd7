-- Proves the properties of a list with rising keys: as it gets one more item, as one item is taken out, and
-- as one item is changed.
use Rattle.std.proofs.Common.{◌≡◌, ◌∙◌, refl, sym, ap, ℕ, zero, suc, ◌<◌, ◌≤◌, ◌==◌, Bool, true, false, not, List, [], ◌∷◌, ◌++◌, length, get_or, set, arith, inl, inr}
use Rattle.std.specs.Prelude.{map, filter, find, position, All, nat_lt, Some, None, if◌then◌else◌}
use Rattle.std.specs.List.{remove, position_or_len}
use Rattle.std.proofs.lemmas.Bool.{eq-eqb, ne_eqb, eqb-true, cases_Bool, ltb-false}
use Rattle.std.proofs.lemmas.List.Quantifiers.{position-Some}
use Rattle.std.proofs.lemmas.List.Elements.{All-head, All-tail}
use Rattle.wf_def_lists.specs.Lists.{IsRising}

-- one more item, whose key is above all others
pub rising_push : {X : Type 0} (key : X → ℕ) (from : ℕ) (xs : List X) (y : X) → from ≤ key y →
    IsRising from (map key xs) → All (λ x. key x < key y) xs → IsRising from (map key (xs ++ y ∷ []))
rising_push key from [] y low rising above = (low, tt)
rising_push key from (x ∷ xs) y low rising above =
    let less : key x < key y = All-head (λ z. key z < key y) x xs above in (
      rising.0,
      rising_push key (suc (key x)) xs y (omega arith) rising.1
          (All-tail (λ z. key z < key y) x xs above),
    )

-- a list that rises from a greater number also rises from a lesser one
pub rising_lower : {X : Type 0} (key : X → ℕ) (low from : ℕ) (xs : List X) → low ≤ from →
    IsRising from (map key xs) → IsRising low (map key xs)
rising_lower key low from [] le rising = tt
rising_lower key low from (x ∷ xs) le rising = (omega (arith, rising.0), rising.1)

-- an item is taken out
pub rising_remove : {X : Type 0} (key : X → ℕ) (from : ℕ) (xs : List X) (i : ℕ) → IsRising from (map key xs) →
    IsRising from (map key (remove xs i))
rising_remove key from [] zero rising = tt
rising_remove key from [] (suc i) rising = tt
rising_remove key from (x ∷ xs) zero rising =
    rising_lower key from (suc (key x)) xs (omega (arith, rising.0)) rising.1
rising_remove key from (x ∷ xs) (suc i) rising = (rising.0, rising_remove key (suc (key x)) xs i rising.1)

-- each key is at least the number that the list rises from
pub rising_low : {X : Type 0} (key : X → ℕ) (from : ℕ) (xs : List X) (i : ℕ) (d : X) →
    IsRising from (map key xs) → i < length xs → from ≤ key (get_or xs i d)
rising_low key from [] i d rising within = absurd (omega (arith, within))
rising_low key from (x ∷ xs) zero d rising within = rising.0
rising_low key from (x ∷ xs) (suc i) d rising within = let low : suc (key x) ≤ key (get_or xs i d) =
    rising_low key (suc (key x)) xs i d rising.1 (omega (arith, within)) in omega (arith, low, rising.0)

-- a key below all others belongs to no item
pub none_below : {X : Type 0} (key : X → ℕ) (from e : ℕ) (xs : List X) → e < from →
    IsRising from (map key xs) → filter (λ x. not (key x == e)) xs ≡ xs
none_below key from e [] low rising = refl
none_below key from e (x ∷ xs) low rising =
    let other : (key x == e) ≡ false = ne_eqb (key x) e (omega (arith, rising.0)) in
    rw other (ap (λ ys. x ∷ ys) (none_below key (suc (key x)) e xs (omega (arith, rising.0)) rising.1))

-- changing the items of a key below all others changes nothing
pub same_below : {X : Type 0} (key : X → ℕ) (f : X → X) (from e : ℕ) (xs : List X) → e < from →
    IsRising from (map key xs) → map (λ x. if key x == e then f x else x) xs ≡ xs
same_below key f from e [] low rising = refl
same_below key f from e (x ∷ xs) low rising =
    let other : (key x == e) ≡ false = ne_eqb (key x) e (omega (arith, rising.0)) in
    rw other (ap (λ ys. x ∷ ys) (same_below key f (suc (key x)) e xs (omega (arith, rising.0)) rising.1))

-- removing the item of a key leaves the items of all other keys
pub remove_is : {X : Type 0} (key : X → ℕ) (from e : ℕ) (xs : List X) (i : ℕ) (d : X) →
    IsRising from (map key xs) → i < length xs → key (get_or xs i d) ≡ e →
    remove xs i ≡ filter (λ x. not (key x == e)) xs
remove_is key from e [] i d rising within is = absurd (omega (arith, within))
remove_is key from e (x ∷ xs) zero d rising within is =
    let same : (key x == e) ≡ true = eq-eqb (key x) e is in
    sym (rw same (none_below key (suc (key x)) e xs (omega (arith, is)) rising.1))
remove_is key from e (x ∷ xs) (suc i) d rising within is =
    let low : suc (key x) ≤ key (get_or xs i d) =
    rising_low key (suc (key x)) xs i d rising.1 (omega (arith, within)) in
    let other : (key x == e) ≡ false = ne_eqb (key x) e (omega (arith, low, is)) in
    ap (λ ys. x ∷ ys) (remove_is key (suc (key x)) e xs i d rising.1 (omega (arith, within)) is)
    ∙ sym (rw other refl)

-- the item of a key is found at its place
pub find_is : {X : Type 0} (key : X → ℕ) (from e : ℕ) (xs : List X) (i : ℕ) (d : X) →
    IsRising from (map key xs) → i < length xs → key (get_or xs i d) ≡ e →
    find (λ x. key x == e) xs ≡ Some (get_or xs i d)
find_is key from e [] i d rising within is = absurd (omega (arith, within))
find_is key from e (x ∷ xs) zero d rising within is = let same : (key x == e) ≡ true = eq-eqb (key x) e is in
    rw same refl
find_is key from e (x ∷ xs) (suc i) d rising within is =
    let low : suc (key x) ≤ key (get_or xs i d) =
    rising_low key (suc (key x)) xs i d rising.1 (omega (arith, within)) in
    let other : (key x == e) ≡ false = ne_eqb (key x) e (omega (arith, low, is)) in
    rw other (find_is key (suc (key x)) e xs i d rising.1 (omega (arith, within)) is)

-- no item passes the test
past_all : {X : Type 0} (test : X → Bool) (xs : List X) → length xs ≤ position_or_len test xs →
    (find test xs ≡ None) × (filter (λ x. not (test x)) xs ≡ xs)
past_all test [] none = (refl, refl)
past_all test (x ∷ xs) none = elim (cases_Bool (test x)) [
  | inl pass ↦ absurd (let h = rw pass at none in omega (arith, h))
  | inr fail ↦ let h = rw fail at none in
      let rest : (find test xs ≡ None) × (filter (λ z. not (test z)) xs ≡ xs) =
      past_all test xs (omega (arith, h)) in
      (rw fail rest.0, rw fail (ap (λ ys. x ∷ ys) rest.1))
]

-- if no item has a place, none is found, and none is removed
pub nowhere : {X : Type 0} (test : X → Bool) (xs : List X) → position test xs ≡ None → (find test xs ≡ None) ×
    (filter (λ x. not (test x)) xs ≡ xs)
nowhere test xs is = elim (cases_Bool (nat_lt (position_or_len test xs) (length xs))) [
  | inl less ↦ absurd (let h = rw less at is in cc)
  | inr not_less ↦ past_all test xs (ltb-false (position_or_len test xs) (length xs) not_less)
]

-- if an item has a place, it is the one found, and only it is removed
pub somewhere : {X : Type 0} (key : X → ℕ) (e : ℕ) (xs : List X) (i : ℕ) (d : X) → IsRising 0 (map key xs) →
    position (λ x. key x == e) xs ≡ Some i → (find (λ x. key x == e) xs ≡ Some (get_or xs i d)) ×
    (remove xs i ≡ filter (λ x. not (key x == e)) xs)
somewhere key e xs i d rising is =
    let at = position-Some (λ x. key x == e) xs i d is in (
      find_is key 0 e xs i d rising at.0 (eqb-true (key (get_or xs i d)) e at.1),
      remove_is key 0 e xs i d rising at.0 (eqb-true (key (get_or xs i d)) e at.1),
    )

-- changing the item of a key is the same as changing each item that has the key
pub change_is : {X : Type 0} (key : X → ℕ) (f : X → X) (from e : ℕ) (xs : List X) (i : ℕ) (d : X) →
    IsRising from (map key xs) → i < length xs → key (get_or xs i d) ≡ e →
    set xs i (f (get_or xs i d)) ≡ map (λ x. if key x == e then f x else x) xs
change_is key f from e [] i d rising within is = absurd (omega (arith, within))
change_is key f from e (x ∷ xs) zero d rising within is =
    let same : (key x == e) ≡ true = eq-eqb (key x) e is in
    sym (rw same (ap (λ ys. f x ∷ ys) (same_below key f (suc (key x)) e xs (omega (arith, is)) rising.1)))
change_is key f from e (x ∷ xs) (suc i) d rising within is =
    let low : suc (key x) ≤ key (get_or xs i d) =
    rising_low key (suc (key x)) xs i d rising.1 (omega (arith, within)) in
    let other : (key x == e) ≡ false = ne_eqb (key x) e (omega (arith, low, is)) in
    ap (λ ys. x ∷ ys) (change_is key f (suc (key x)) e xs i d rising.1 (omega (arith, within)) is)
    ∙ sym (rw other refl)

-- if no item has a place, none is changed
pub unchanged : {X : Type 0} (test : X → Bool) (f : X → X) (xs : List X) → position test xs ≡ None →
    map (λ x. if test x then f x else x) xs ≡ xs
unchanged test f xs is = elim (cases_Bool (nat_lt (position_or_len test xs) (length xs))) [
  | inl less ↦ absurd (let h = rw less at is in cc)
  | inr not_less ↦ past_all_unchanged test f xs (ltb-false (position_or_len test xs) (length xs) not_less)
]
  where
    past_all_unchanged : {X : Type 0} (test : X → Bool) (f : X → X) (xs : List X) →
        length xs ≤ position_or_len test xs → map (λ x. if test x then f x else x) xs ≡ xs
    past_all_unchanged test f [] none = refl
    past_all_unchanged test f (x ∷ xs) none = elim (cases_Bool (test x)) [
      | inl pass ↦ absurd (let h = rw pass at none in omega (arith, h))
      | inr fail ↦ let h = rw fail at none in rw fail
          (ap (λ ys. x ∷ ys) (past_all_unchanged test f xs (omega (arith, h))))
    ]

-- if an item has a place, only it is changed
pub changed_at : {X : Type 0} (key : X → ℕ) (f : X → X) (e : ℕ) (xs : List X) (i : ℕ) (d : X) →
    IsRising 0 (map key xs) → position (λ x. key x == e) xs ≡ Some i →
    set xs i (f (get_or xs i d)) ≡ map (λ x. if key x == e then f x else x) xs
changed_at key f e xs i d rising is =
    let at = position-Some (λ x. key x == e) xs i d is in
    change_is key f 0 e xs i d rising at.0 (eqb-true (key (get_or xs i d)) e at.1)

-- the same, as the code finds the place and reads the item
pub changed_where : {X : Type 0} (key : X → ℕ) (f : X → X) (e i : ℕ) (xs now : List X) (d : X) → xs ≡ now →
    IsRising 0 (map key xs) → Some i ≡ position (λ x. key x == e) now → d ≡ get_or xs i d →
    set xs i (f d) ≡ map (λ x. if key x == e then f x else x) now
changed_where {X = X} key f e i xs now d same rising found here =
    ap (λ (x : X). set xs i (f x)) here
    ∙ changed_at key f e xs i d rising (ap (position (λ x. key x == e)) same ∙ sym found)
    ∙ ap (map (λ x. if key x == e then f x else x)) same
