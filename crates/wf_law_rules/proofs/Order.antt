-- Proves at which index a key is in a list, in a filtered list, and in a list that is split at a key.
use Rattle.wf_def_lists.specs.Lists.{IsOnce}
use Rattle.std.proofs.Common.{◌≡◌, ◌≢◌, refl, ap, sym, ◌∙◌, subst, arith, ℕ, suc, ◌+◌, ◌<◌, ◌≤◌, Bool, true, false, if◌then◌else◌, ◌||◌, ◌==◌, nat_lt, List, [], ◌∷◌, ◌++◌, length, filter}
use Rattle.wf_def_lists.specs.Table.{has}
use Rattle.wf_def_rotation.specs.Rotation.{keys_before, keys_from}

-- Returns the index of the first k in a list, or the length of the list if it has no k.
abbrev pub place : ℕ → List ℕ → ℕ
place k [] = 0
place k (y ∷ ys) = if y == k then 0 else suc (place k ys)

pub eq_true : (a b : ℕ) → (a == b) ≡ true → a ≡ b
eq_true a b h = grind arith

pub eq_false : (a b : ℕ) → (a == b) ≡ false → a ≢ b
eq_false a b h e = grind arith

pub eq_self : (a : ℕ) → (a == a) ≡ true
eq_self a = grind arith

pub or_true : (a b : Bool) → a || b ≡ true → a ≡ false → b ≡ true
or_true true b h e = absurd (cc e)
or_true false b h e = h

-- ---- an appended list

front_if : (b : Bool) (m n : ℕ) (P : Bool) → (b || P) ≡ true → (b ≡ false → P ≡ true → m ≡ n) →
    (if b then 0 else suc m) ≡ (if b then 0 else suc n)
front_if true m n P h k = refl
front_if false m n P h k = ap suc (k refl h)

pub place_front : (xs ys : List ℕ) (k : ℕ) → has xs k ≡ true → place k (xs ++ ys) ≡ place k xs
place_front [] ys k h = absurd (cc h)
place_front (x ∷ xs) ys k h = front_if (x == k) _ _ (has xs k) h (λ no yes. place_front xs ys k yes)

back_if : (b : Bool) (m n : ℕ) (P : Bool) → (b || P) ≡ false → (P ≡ false → m ≡ n) →
    (if b then 0 else suc m) ≡ suc n
back_if true m n P h k = absurd (cc h)
back_if false m n P h k = ap suc (k h)

pub place_back : (xs ys : List ℕ) (k : ℕ) → has xs k ≡ false → place k (xs ++ ys) ≡ length xs + place k ys
place_back [] ys k h = omega arith
place_back (x ∷ xs) ys k h = back_if (x == k) _ (length xs + place k ys) (has xs k) h (place_back xs ys k)
    ∙ omega arith

inside_if : (b P : Bool) (m n : ℕ) → (b || P) ≡ true → (P ≡ true → m < n) → (if b then 0 else suc m) < suc n
inside_if true P m n h k = omega arith
inside_if false P m n h k = omega (arith, k h)

pub place_inside : (xs : List ℕ) (k : ℕ) → has xs k ≡ true → place k xs < length xs
place_inside [] k h = absurd (cc h)
place_inside (x ∷ xs) k h = inside_if (x == k) (has xs k) _ _ h (place_inside xs k)

-- ---- the parts of a list before a key and from it on

pub record IsParted (w k : ℕ) (xs : List ℕ) : Type 0 where
  pub early : has (keys_before w xs) k ≡ true → (place k xs < place w xs) ×
      (place k (keys_before w xs) ≡ place k xs) × (has xs k ≡ true)
  pub later : has (keys_before w xs) k ≡ false → has xs k ≡ true → (place w xs ≤ place k xs) ×
      (has (keys_from w xs) k ≡ true) × (place k (keys_from w xs) + place w xs ≡ place k xs)

parted_here : (w k y : ℕ) (ys : List ℕ) → (y == w) ≡ true → IsParted w k (y ∷ ys)
parted_here w k y ys e = record {
  early = λ h. absurd (cc (subst (λ (b : Bool). has (if b then [] else y ∷ keys_before w ys) k ≡ true) e h));
  later = λ h yes. subst (λ (b : Bool). ((if b then 0 else suc (place w ys)) ≤ place k (y ∷ ys)) ×
      (has (if b then y ∷ ys else keys_from w ys) k ≡ true) ×
      (place k (if b then y ∷ ys else keys_from w ys) + (if b then 0 else suc (place w ys))
      ≡ place k (y ∷ ys))) (sym e)
      (omega arith, yes, omega arith);
}

-- The head of the list is not w. b says whether the head is k.
step_early : (b : Bool) (B X : Bool) (kb kx w : ℕ) → (b || B) ≡ true →
    (B ≡ true → (kx < w) × (kb ≡ kx) × (X ≡ true)) → ((if b then 0 else suc kx) < suc w) ×
    ((if b then 0 else suc kb) ≡ (if b then 0 else suc kx)) × ((b || X) ≡ true)
step_early true B X kb kx w h k = (omega arith, refl, refl)
step_early false B X kb kx w h k = (omega (arith, (k h).0), ap suc (k h).1, (k h).2)

step_later : (b : Bool) (B X : Bool) (F : Bool) (kf kx w : ℕ) → (b || B) ≡ false → (b || X) ≡ true →
    (B ≡ false → X ≡ true → (w ≤ kx) × (F ≡ true) × (kf + w ≡ kx)) → (suc w ≤ (if b then 0 else suc kx)) ×
    (F ≡ true) × (kf + suc w ≡ (if b then 0 else suc kx))
step_later true B X F kf kx w h there k = absurd (cc h)
step_later false B X F kf kx w h there k = (
  omega (arith, (k h there).0),
  (k h there).1,
  omega (arith, (k h there).2),
)

parted_there : (w k y : ℕ) (ys : List ℕ) → (y == w) ≡ false → IsParted w k ys → IsParted w k (y ∷ ys)
parted_there w k y ys e p = record {
  early = subst (λ (b : Bool). has (if b then [] else y ∷ keys_before w ys) k ≡ true →
      (place k (y ∷ ys) < (if b then 0 else suc (place w ys))) ×
      (place k (if b then [] else y ∷ keys_before w ys) ≡ place k (y ∷ ys)) × (has (y ∷ ys) k ≡ true)) (sym e)
      (λ h. step_early (y == k) (has (keys_before w ys) k) (has ys k) (place k (keys_before w ys))
      (place k ys) (place w ys) h p.early);
  later = subst (λ (b : Bool). has (if b then [] else y ∷ keys_before w ys) k ≡ false →
      has (y ∷ ys) k ≡ true → ((if b then 0 else suc (place w ys)) ≤ place k (y ∷ ys)) ×
      (has (if b then y ∷ ys else keys_from w ys) k ≡ true) ×
      (place k (if b then y ∷ ys else keys_from w ys) + (if b then 0 else suc (place w ys))
      ≡ place k (y ∷ ys))) (sym e)
      (λ h yes. step_later (y == k) (has (keys_before w ys) k) (has ys k) (has (keys_from w ys) k)
      (place k (keys_from w ys)) (place k ys) (place w ys) h yes p.later);
}

by_bool : (P : Type 0) (b : Bool) → (b ≡ true → P) → (b ≡ false → P) → P
by_bool P true h k = h refl
by_bool P false h k = k refl

pub parted : (xs : List ℕ) (w k : ℕ) → IsParted w k xs
parted [] w k = record { early = λ h. absurd (cc h); later = λ h yes. absurd (cc yes) }
parted (y ∷ ys) w k = by_bool (IsParted w k (y ∷ ys)) (y == w) (parted_here w k y ys)
    (λ no. parted_there w k y ys no (parted ys w k))

-- ---- lists without repeats

pub before_from : (w : ℕ) (xs : List ℕ) → keys_before w xs ++ keys_from w xs ≡ xs
before_from w [] = refl
before_from w (y ∷ ys) = go (y == w) (before_from w ys)
  where
    go : (b : Bool) → keys_before w ys ++ keys_from w ys ≡ ys →
        (if b then [] else y ∷ keys_before w ys) ++ (if b then y ∷ ys else keys_from w ys) ≡ y ∷ ys
    go true h = refl
    go false h = ap (λ (zs : List ℕ). y ∷ zs) h

apart_if : (x k : ℕ) (b : Bool) (xs ys : List ℕ) → (x == k) ≡ b → has (xs ++ ys) x ≡ false →
    (b || has xs k) ≡ true → (has xs k ≡ true → has ys k ≡ false) → has ys k ≡ false
apart_if x k true xs ys e d h f = subst (λ (n : ℕ). has ys n ≡ false) (eq_true x k e) (back xs d)
  where
    back : (zs : List ℕ) → has (zs ++ ys) x ≡ false → has ys x ≡ false
    back [] h = h
    back (z ∷ zs) h = back zs (or_false (z == x) (has (zs ++ ys) x) h)
      where
        or_false : (a b : Bool) → a || b ≡ false → b ≡ false
        or_false true b h = absurd (cc h)
        or_false false b h = h
apart_if x k false xs ys e d h f = f h

pub distinct_apart : (xs ys : List ℕ) (k : ℕ) → IsOnce (xs ++ ys) → has xs k ≡ true → has ys k ≡ false
distinct_apart [] ys k d h = absurd (cc h)
distinct_apart (x ∷ xs) ys k d h = apart_if x k (x == k) xs ys refl d.0 h (distinct_apart xs ys k d.1)

pub not_from : (w k : ℕ) (xs : List ℕ) → IsOnce xs → has (keys_before w xs) k ≡ true →
    has (keys_from w xs) k ≡ false
not_from w k xs d h = distinct_apart (keys_before w xs) (keys_from w xs) k
    (subst IsOnce (sym (before_from w xs)) d) h

-- ---- filters

less_suc : (a b : ℕ) → nat_lt (suc a) (suc b) ≡ nat_lt a b
less_suc a b = grind arith

zero_less : (a : ℕ) → nat_lt 0 (suc a) ≡ true
zero_less a = grind arith

not_less_zero : (a : ℕ) → nat_lt a 0 ≡ false
not_less_zero a = grind arith

less_ifs : (bi bj : Bool) (pi pj qi qj : ℕ) → nat_lt pj pi ≡ nat_lt qj qi →
    nat_lt (if bj then 0 else suc pj) (if bi then 0 else suc pi)
    ≡ nat_lt (if bj then 0 else suc qj) (if bi then 0 else suc qi)
less_ifs true true pi pj qi qj h = refl
less_ifs true false pi pj qi qj h = not_less_zero (suc pj) ∙ sym (not_less_zero (suc qj))
less_ifs false true pi pj qi qj h = zero_less pi ∙ sym (zero_less qi)
less_ifs false false pi pj qi qj h = less_suc pj pi ∙ h ∙ sym (less_suc qj qi)

other_key : (p : ℕ → Bool) (y k : ℕ) → p y ≡ false → p k ≡ true → (y == k) ≡ false
other_key p y k h e = go (y == k) refl
  where
    go : (b : Bool) → (y == k) ≡ b → (y == k) ≡ false
    go true t = absurd (cc (ap p (eq_true y k t), h, e))
    go false t = t

pub filter_order : (p : ℕ → Bool) (xs : List ℕ) (i j : ℕ) → p i ≡ true → p j ≡ true →
    nat_lt (place j (filter p xs)) (place i (filter p xs)) ≡ nat_lt (place j xs) (place i xs)
filter_order p [] i j hi hj = refl
filter_order p (y ∷ ys) i j hi hj = go (p y) refl (filter_order p ys i j hi hj)
  where
    skipped : (bi bj : Bool) (pi pj : ℕ) → bi ≡ false → bj ≡ false →
        nat_lt pj pi ≡ nat_lt (if bj then 0 else suc pj) (if bi then 0 else suc pi)
    skipped true bj pi pj e f = absurd (cc e)
    skipped false true pi pj e f = absurd (cc f)
    skipped false false pi pj e f = sym (less_suc pj pi)

    go : (b : Bool) → p y ≡ b → nat_lt (place j (filter p ys)) (place i (filter p ys))
        ≡ nat_lt (place j ys) (place i ys)
        → nat_lt (place j (if b then y ∷ filter p ys else filter p ys))
        (place i (if b then y ∷ filter p ys else filter p ys))
        ≡ nat_lt (place j (y ∷ ys)) (place i (y ∷ ys))
    go true e h = less_ifs (y == i) (y == j) _ _ _ _ h
    go false e h = h ∙ skipped (y == i) (y == j) (place i ys) (place j ys) (other_key p y i e hi)
        (other_key p y j e hj)

pub filter_has : (p : ℕ → Bool) (xs : List ℕ) (k : ℕ) → has (filter p xs) k ≡ true → (has xs k ≡ true) ×
    (p k ≡ true)
filter_has p [] k h = absurd (cc h)
filter_has p (y ∷ ys) k h = go (p y) refl h (filter_has p ys k)
  where
    here : (b B C : Bool) → (b ≡ true → p k ≡ true) → (b || B) ≡ true →
        (B ≡ true → (C ≡ true) × (p k ≡ true)) → ((b || C) ≡ true) × (p k ≡ true)
    here true B C f h g = (refl, f refl)
    here false B C f h g = ((g h).0, (g h).1)

    skip : (b C : Bool) → C ≡ true → (b || C) ≡ true
    skip true C h = refl
    skip false C h = h

    go : (b : Bool) → p y ≡ b → has (if b then y ∷ filter p ys else filter p ys) k ≡ true →
        (has (filter p ys) k ≡ true → (has ys k ≡ true) × (p k ≡ true)) → (has (y ∷ ys) k ≡ true) ×
        (p k ≡ true)
    go true e h f = here (y == k) (has (filter p ys) k) (has ys k)
        (λ t. subst (λ (n : ℕ). p n ≡ true) (eq_true y k t) e) h f
    go false e h f = (skip (y == k) (has ys k) (f h).0, (f h).1)

pub filter_keeps : (p : ℕ → Bool) (xs : List ℕ) (k : ℕ) → has xs k ≡ true → p k ≡ true →
    has (filter p xs) k ≡ true
filter_keeps p [] k h e = absurd (cc h)
filter_keeps p (y ∷ ys) k h e = go (p y) refl (filter_keeps p ys k)
  where
    keep : (b B C : Bool) → (b || B) ≡ true → (B ≡ true → C ≡ true) → (b || C) ≡ true
    keep true B C h f = refl
    keep false B C h f = f h

    go : (b : Bool) → p y ≡ b → (has ys k ≡ true → p k ≡ true → has (filter p ys) k ≡ true) →
        has (if b then y ∷ filter p ys else filter p ys) k ≡ true
    go true t f = keep (y == k) (has ys k) (has (filter p ys) k) h (λ there. f there e)
    go false t f = f (or_true (y == k) (has ys k) h (other_key p y k t e)) e
