-- Proves that the members of parts of a list (filtered, before a key, from a key on) are members of the
-- list.
use Rattle.std.proofs.Common.{◌≡◌, refl, ℕ, Bool, true, false, ◌||◌, cond, List, [], ◌∷◌, Option, Some, None, eqb, nat_le, eq-eqb}
use Rattle.std.specs.Prelude.{filter}
use Rattle.wf_def_lists.specs.Table.{has}
use Rattle.wf_law_rules.proofs.Lemmas.Numbers.{or_left, or_right}
use Rattle.wf_def_rotation.specs.Rotation.{keys_before, keys_from, first_of_two, first_least}

pub has_head : (x : ℕ) (xs : List ℕ) → has (x ∷ xs) x ≡ true
has_head x xs = or_left (eqb x x) (has xs x) (eq-eqb x x refl)

pub has_tail : (x : ℕ) (xs : List ℕ) (k : ℕ) → has xs k ≡ true → has (x ∷ xs) k ≡ true
has_tail x xs k h = or_right (eqb x k) (has xs k) h

-- If each member of one list is a member of another, this also holds with the same head added to both.
more : (b P Q : Bool) → (P ≡ true → Q ≡ true) → (b || P) ≡ true → (b || Q) ≡ true
more true P Q f h = refl
more false P Q f h = f h

kept : (b : Bool) (x k : ℕ) (zs xs : List ℕ) → (has zs k ≡ true → has xs k ≡ true) →
    has (cond b (x ∷ zs) zs) k ≡ true → has (x ∷ xs) k ≡ true
kept true x k zs xs f h = more (eqb x k) (has zs k) (has xs k) f h
kept false x k zs xs f h = has_tail x xs k (f h)

pub has_filter : (p : ℕ → Bool) (xs : List ℕ) (k : ℕ) → has (filter p xs) k ≡ true → has xs k ≡ true
has_filter p [] k h = h
has_filter p (x ∷ xs) k h = kept (p x) x k (filter p xs) xs (has_filter p xs k) h

ahead : (b : Bool) (x k : ℕ) (zs xs : List ℕ) → (has zs k ≡ true → has xs k ≡ true) →
    has (cond b [] (x ∷ zs)) k ≡ true → has (x ∷ xs) k ≡ true
ahead true x k zs xs f h = absurd (cc h)
ahead false x k zs xs f h = more (eqb x k) (has zs k) (has xs k) f h

pub has_before : (w : ℕ) (xs : List ℕ) (k : ℕ) → has (keys_before w xs) k ≡ true → has xs k ≡ true
has_before w [] k h = h
has_before w (x ∷ xs) k h = ahead (eqb x w) x k (keys_before w xs) xs (has_before w xs k) h

onward : (b : Bool) (x k : ℕ) (zs xs : List ℕ) → (has zs k ≡ true → has xs k ≡ true) →
    has (cond b (x ∷ xs) zs) k ≡ true → has (x ∷ xs) k ≡ true
onward true x k zs xs f h = h
onward false x k zs xs f h = has_tail x xs k (f h)

pub has_from : (w : ℕ) (xs : List ℕ) (k : ℕ) → has (keys_from w xs) k ≡ true → has xs k ≡ true
has_from w [] k h = h
has_from w (x ∷ xs) k h = onward (eqb x w) x k (keys_from w xs) xs (has_from w xs k) h

-- The first key with the least round is a member of the list.
least_of_two : (rounds : ℕ → ℕ) (x : ℕ) (xs : List ℕ) (o : Option ℕ) →
    ((z : ℕ) → o ≡ Some z → has xs z ≡ true) → (z : ℕ) → first_of_two rounds x o ≡ Some z →
    has (x ∷ xs) z ≡ true
least_of_two rounds x xs None f z h = is_head (some_inner h)
  where
    some_inner : Some x ≡ Some z → x ≡ z
    some_inner e = cc

    is_head : x ≡ z → has (x ∷ xs) z ≡ true
    is_head e = or_left (eqb x z) (has xs z) (eq-eqb x z e)
least_of_two rounds x xs (Some y) f z h = go (nat_le (rounds x) (rounds y)) h
  where
    is_head : x ≡ z → has (x ∷ xs) z ≡ true
    is_head e = or_left (eqb x z) (has xs z) (eq-eqb x z e)

    go : (b : Bool) → cond b (Some x) (Some y) ≡ Some z → has (x ∷ xs) z ≡ true
    go true e = is_head cc
    go false e = has_tail x xs z (f z e)

pub has_least : (rounds : ℕ → ℕ) (xs : List ℕ) (z : ℕ) → first_least rounds xs ≡ Some z → has xs z ≡ true
has_least rounds [] z h = absurd (cc h)
has_least rounds (x ∷ xs) z h = least_of_two rounds x xs (first_least rounds xs)
    (λ y e. has_least rounds xs y e) z h
