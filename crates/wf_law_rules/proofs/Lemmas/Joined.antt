-- Proves facts about lists without repeats: two lists with the same members have the same length, and lists
-- without common members can be appended. By induction on the lists.
use Rattle.std.proofs.Common.{◌≡◌, ◌≢◌, refl, ap, sym, ◌∙◌, arith, ℕ, zero, suc, ◌≤◌, ◌==◌, ◌||◌, ◌⊎◌, Bool, true, false, if◌then◌else◌, inl, inr, List, [], ◌∷◌, ◌++◌, length}
use Rattle.std.proofs.lemmas.List.{length-append}
use Rattle.std.proofs.lemmas.List.Sums.{sum_by-cons}
use Rattle.std.specs.Prelude.{sum_by}
use Rattle.wf_def_lists.specs.Table.{at, has}
use Rattle.wf_def_lists.specs.Lists.{IsOnce, IsRising}
use Rattle.wf_law_rules.proofs.Lemmas.Numbers.{on_bool, eq_yes, yes_eq, either, or_left, or_right}

-- ---- equal lengths

-- Returns the list without its first x.
abbrev without : ℕ → List ℕ → List ℕ
without x [] = []
without x (y ∷ ys) = if y == x then ys else y ∷ without x ys

length_without : (x : ℕ) (ys : List ℕ) → has ys x ≡ true → suc (length (without x ys)) ≡ length ys
length_without x [] h = absurd (cc h)
length_without x (y ∷ ys) h = go (y == x) h (length_without x ys)
  where
    go : (b : Bool) → (b || has ys x) ≡ true → (has ys x ≡ true → suc (length (without x ys)) ≡ length ys) →
        suc (length (if b then ys else y ∷ without x ys)) ≡ suc (length ys)
    go true k f = refl
    go false k f = ap suc (f k)

has_without : (x : ℕ) (ys : List ℕ) (k : ℕ) → x ≢ k → has ys k ≡ true → has (without x ys) k ≡ true
has_without x [] k ne h = absurd (cc h)
has_without x (y ∷ ys) k ne h = go (y == x) refl (either (y == k) (has ys k) h) (has_without x ys k ne)
  where
    go : (b : Bool) → (y == x) ≡ b → ((y == k) ≡ true) ⊎ (has ys k ≡ true) →
        (has ys k ≡ true → has (without x ys) k ≡ true) → has (if b then ys else y ∷ without x ys) k ≡ true
    go true e (inl a) f = absurd (ne (sym (eq_yes y x e) ∙ eq_yes y k a))
    go true e (inr a) f = a
    go false e (inl a) f = or_left (y == k) (has (without x ys) k) a
    go false e (inr a) f = or_right (y == k) (has (without x ys) k) (f a)

pub not_more : (xs ys : List ℕ) → IsOnce xs → ((k : ℕ) → has xs k ≡ true → has ys k ≡ true) →
    length xs ≤ length ys
not_more [] ys o h = omega arith
not_more (x ∷ xs) ys o h =
    let there : has ys x ≡ true = h x (or_left (x == x) (has xs x) (yes_eq x x refl)) in
    let rest : length xs ≤ length (without x ys) =
    not_more xs (without x ys) o.1 (λ k e. has_without x ys k (λ d. cc (o.0, e, ap (has xs) d))
    (h k (or_right (x == k) (has xs k) e)))
    in
    omega (arith, rest, length_without x ys there)

-- Two lists without repeats and with the same members have the same length.
pub as_many : (xs ys : List ℕ) → IsOnce xs → IsOnce ys → ((k : ℕ) → has xs k ≡ true → has ys k ≡ true) →
    ((k : ℕ) → has ys k ≡ true → has xs k ≡ true) → length xs ≡ length ys
as_many xs ys o p h k = omega (arith, not_more xs ys o h, not_more ys xs p k)

rising_from : (xs : List ℕ) (lo k : ℕ) → IsRising lo xs → has xs k ≡ true → lo ≤ k
rising_from [] lo k r h = absurd (cc h)
rising_from (x ∷ xs) lo k r h = elim (either (x == k) (has xs k) h) [
  | inl e ↦
      omega (arith, r.0, eq_yes x k e)
  | inr e ↦ omega (arith, r.0, rising_from xs (suc x) k r.1 e)
]

pub rising_once : (xs : List ℕ) (lo : ℕ) → IsRising lo xs → IsOnce xs
rising_once [] lo r = tt
rising_once (x ∷ xs) lo r = (
  on_bool (has xs x) (λ e. absurd (omega (arith, rising_from xs (suc x) x r.1 e)))
      (λ e. e),
  rising_once xs (suc x) r.1,
)

-- ---- appended lists

pub has_append : (xs ys : List ℕ) (k : ℕ) → has (xs ++ ys) k ≡ (has xs k || has ys k)
has_append [] ys k = refl
has_append (x ∷ xs) ys k = ap (λ (b : Bool). (x == k) || b) (has_append xs ys k)
    ∙ sym (joined_or (x == k) (has xs k) (has ys k))
  where
    joined_or : (a b c : Bool) → ((a || b) || c) ≡ (a || (b || c))
    joined_or true b c = refl
    joined_or false b c = refl

pub has_first : (xs ys : List ℕ) (k : ℕ) → has xs k ≡ true → has (xs ++ ys) k ≡ true
has_first xs ys k h = has_append xs ys k ∙ or_left (has xs k) (has ys k) h

pub has_second : (xs ys : List ℕ) (k : ℕ) → has ys k ≡ true → has (xs ++ ys) k ≡ true
has_second xs ys k h = has_append xs ys k ∙ or_right (has xs k) (has ys k) h

pub has_either : (xs ys : List ℕ) (k : ℕ) → has (xs ++ ys) k ≡ true → (has xs k ≡ true) ⊎ (has ys k ≡ true)
has_either xs ys k h = either (has xs k) (has ys k) (sym (has_append xs ys k) ∙ h)

pub once_append : (xs ys : List ℕ) → IsOnce xs → IsOnce ys → ((k : ℕ) → has ys k ≡ true → has xs k ≡ false) →
    IsOnce (xs ++ ys)
once_append [] ys h k apart = k
once_append (x ∷ xs) ys h k apart = (
  has_append xs ys x ∙ ap (λ (b : Bool). b || has ys x) h.0
      ∙ on_bool (has ys x) (λ e. absurd (cc (apart x e, or_left (x == x) (has xs x) (yes_eq x x refl))))
      (λ e. e),
  once_append xs ys h.1 k (λ n e. on_bool (has xs n)
      (λ d. absurd (cc (apart n e, or_right (x == n) (has xs n) d))) (λ d. d)),
)

-- The lists have no common member.
pub apart_lists : (xs ys : List ℕ) → ((k : ℕ) → has xs k ≡ true → has ys k ≡ true → ⊥) → (k : ℕ) →
    has ys k ≡ true → has xs k ≡ false
apart_lists xs ys h k e = on_bool (has xs k) (λ d. absurd (h k d e)) (λ d. d)

-- Appends the lists that f gives for the entries of a table.
abbrev pub all_of : {X : Type 0} → (X → List ℕ) → List X → List ℕ
all_of f [] = []
all_of f (x ∷ xs) = f x ++ all_of f xs

pub length_all : {X : Type 0} (f : X → List ℕ) (xs : List X) →
    length (all_of f xs) ≡ sum_by (λ x. length (f x)) xs
length_all f [] = refl
length_all f (x ∷ xs) = omega (
  arith,
  length-append (f x) (all_of f xs),
  length_all f xs,
  sum_by-cons (λ y. length (f y)) x xs,
)

-- d is the value of each entry past the end of the list.
pub has_all : {X : Type 0} (f : X → List ℕ) (d : X) (xs : List X) (i k : ℕ) → f d ≡ [] →
    has (f (at d xs i)) k ≡ true → has (all_of f xs) k ≡ true
has_all f d [] i k e h = absurd (cc (h, ap (λ (l : List ℕ). has l k) e))
has_all f d (x ∷ xs) zero k e h = has_first (f x) (all_of f xs) k h
has_all f d (x ∷ xs) (suc i) k e h = has_second (f x) (all_of f xs) k (has_all f d xs i k e h)

pub record InOne {X : Type 0} (f : X → List ℕ) (d : X) (xs : List X) (k : ℕ) : Type 0 where
  pub place : ℕ
  pub there : has (f (at d xs place)) k ≡ true

pub in_one : {X : Type 0} (f : X → List ℕ) (d : X) (xs : List X) (k : ℕ) → has (all_of f xs) k ≡ true →
    InOne f d xs k
in_one f d [] k h = absurd (cc h)
in_one f d (x ∷ xs) k h = elim (has_either (f x) (all_of f xs) k h) [
  | inl a ↦ record { place = zero; there = a }
  | inr b ↦ (let r = in_one f d xs k b in record { place = suc r.place; there = r.there })
]

-- The appended list has no repeats, if no list has any and no two lists have a common member.
pub once_all : {X : Type 0} (f : X → List ℕ) (d : X) (xs : List X) → ((i : ℕ) → IsOnce (f (at d xs i))) →
    ((i j k : ℕ) → has (f (at d xs i)) k ≡ true → has (f (at d xs j)) k ≡ true → i ≡ j) → IsOnce (all_of f xs)
once_all f d [] h apart = tt
once_all f d (x ∷ xs) h apart =
    once_append (f x) (all_of f xs) (h zero) (once_all f d xs (λ i. h (suc i))
    (λ i j k a b. let e : suc i ≡ suc j = apart (suc i) (suc j) k a b in omega (arith, e)))
    (apart_lists (f x) (all_of f xs) (λ k a b. let r = in_one f d xs k b in
    let e : zero ≡ suc r.place = apart zero (suc r.place) k a r.there in omega (arith, e)))
