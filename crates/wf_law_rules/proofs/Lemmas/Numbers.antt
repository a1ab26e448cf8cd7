-- Proves facts about tests of numbers, about increasing lists as sets, and about the receiver's two starts
-- and its BlockAck. By induction on the lists.
use Rattle.std.proofs.Common.{◌≡◌, ◌≢◌, refl, ap, sym, ◌∙◌, subst, arith, ℕ, suc, ◌+◌, ◌-◌, ◌<◌, ◌≤◌, ◌==◌, nat_lt, nat_le, Bool, true, false, if◌then◌else◌, ◌&&◌, ◌||◌, ◌⊎◌, inl, inr, List, [], ◌∷◌, map, filter}
use Rattle.wf_def_lists.specs.Table.{has, with_member}
use Rattle.wf_def_agreement.specs.Receiver.{Receiver, greatest, first_missing, score_start, score, shows}

-- The list increases strictly, and its numbers are at least lo.
abbrev pub Climbs : ℕ → List ℕ → Type 0
Climbs lo [] = Unit {0}
Climbs lo (x ∷ xs) = (lo ≤ x) × Climbs (suc x) xs

pub climbs_from : (lo lo' : ℕ) (xs : List ℕ) → lo' ≤ lo → Climbs lo xs → Climbs lo' xs
climbs_from lo lo' [] h c = tt
climbs_from lo lo' (x ∷ xs) h c = (omega (arith, c.0), c.1)

-- ---- tests

pub on_bool {ℓ} : {P : Type ℓ} (b : Bool) → (b ≡ true → P) → (b ≡ false → P) → P
on_bool true h k = h refl
on_bool false h k = k refl

pub on_if : {X : Type 0} (Q : X → Type 0) (b : Bool) (m n : X) → (b ≡ true → Q m) → (b ≡ false → Q n) →
    Q (if b then m else n)
on_if Q true m n h k = h refl
on_if Q false m n h k = k refl

pub lt_yes : (a b : ℕ) → nat_lt a b ≡ true → a < b
lt_yes a b e = grind arith

pub lt_no : (a b : ℕ) → nat_lt a b ≡ false → b ≤ a
lt_no a b e = grind arith

pub eq_yes : (a b : ℕ) → (a == b) ≡ true → a ≡ b
eq_yes a b e = grind arith

pub eq_no : (a b : ℕ) → (a == b) ≡ false → a ≢ b
eq_no a b e h = grind arith

pub yes_lt : (a b : ℕ) → a < b → nat_lt a b ≡ true
yes_lt a b h = grind arith

pub yes_eq : (a b : ℕ) → a ≡ b → (a == b) ≡ true
yes_eq a b h = grind arith

pub not_eq : (a b : ℕ) → a ≢ b → (a == b) ≡ false
not_eq a b h = go (a == b) refl
  where
    go : (c : Bool) → (a == b) ≡ c → c ≡ false
    go true e = absurd (h (eq_yes a b e))
    go false e = refl

pub yes_le : (a b : ℕ) → a ≤ b → nat_le a b ≡ true
yes_le a b h = grind arith

pub le_yes : (a b : ℕ) → nat_le a b ≡ true → a ≤ b
le_yes a b h = grind arith

pub le_no : (a b : ℕ) → nat_le a b ≡ false → b < a
le_no a b h = grind arith

pub either : (a b : Bool) → (a || b) ≡ true → (a ≡ true) ⊎ (b ≡ true)
either true b h = inl refl
either false b h = inr h

pub both : (a b : Bool) → (a && b) ≡ true → (a ≡ true) × (b ≡ true)
both true b h = (refl, h)
both false b h = absurd (cc h)

pub and_true : (a b : Bool) → a ≡ true → b ≡ true → (a && b) ≡ true
and_true true b h k = k
and_true false b h k = absurd (cc h)

pub or_left : (a b : Bool) → a ≡ true → (a || b) ≡ true
or_left true b h = refl
or_left false b h = absurd (cc h)

pub or_right : (a b : Bool) → b ≡ true → (a || b) ≡ true
or_right true b h = refl
or_right false b h = h

pub same_bool : (a b : Bool) → (a ≡ true → b ≡ true) → (b ≡ true → a ≡ true) → a ≡ b
same_bool true b h k = sym (h refl)
same_bool false true h k = k refl
same_bool false false h k = refl

-- ---- a set with one more member

with_if : (b c : Bool) (x n k : ℕ) (xs ys : List ℕ) → (b ≡ false → c ≡ true → x ≡ n) →
    (has ys k ≡ ((n == k) || has xs k)) → has (if b then n ∷ x ∷ xs else (if c then x ∷ xs else x ∷ ys)) k
    ≡ ((n == k) || ((x == k) || has xs k))
with_if true c x n k xs ys e h = refl
with_if false true x n k xs ys e h = subst (λ (m : ℕ). ((x == k) || has xs k)
    ≡ ((m == k) || ((x == k) || has xs k))) (e refl refl) (twice (x == k) (has xs k))
  where
    twice : (a b : Bool) → (a || b) ≡ (a || (a || b))
    twice true b = refl
    twice false b = refl
with_if false false x n k xs ys e h = ap (λ (b : Bool). (x == k) || b) h ∙ swap (x == k) (n == k) (has xs k)
  where
    swap : (a b c : Bool) → (a || (b || c)) ≡ (b || (a || c))
    swap true true c = refl
    swap true false c = refl
    swap false true c = refl
    swap false false c = refl

pub has_with : (xs : List ℕ) (n k : ℕ) → has (with_member n xs) k ≡ ((n == k) || has xs k)
has_with [] n k = refl
has_with (x ∷ xs) n k = with_if (nat_lt n x) (x == n) x n k xs (with_member n xs) (λ _ e. eq_yes x n e)
    (has_with xs n k)

pub has_new : (xs : List ℕ) (n : ℕ) → has (with_member n xs) n ≡ true
has_new xs n = has_with xs n n ∙ or_left (n == n) (has xs n) (yes_eq n n refl)

pub has_old : (xs : List ℕ) (n k : ℕ) → has xs k ≡ true → has (with_member n xs) k ≡ true
has_old xs n k h = has_with xs n k ∙ or_right (n == k) (has xs k) h

pub has_other : (xs : List ℕ) (n k : ℕ) → n ≢ k → has (with_member n xs) k ≡ has xs k
has_other xs n k h = has_with xs n k ∙ ap (λ (b : Bool). b || has xs k) (not_eq n k h)

pub has_one : (xs : List ℕ) (n k : ℕ) → has (with_member n xs) k ≡ true → (n ≡ k) ⊎ (has xs k ≡ true)
has_one xs n k h = elim (either (n == k) (has xs k) (sym (has_with xs n k) ∙ h)) [
  | inl e ↦
      inl (eq_yes n k e)
  | inr e ↦ inr e
]

climbs_if : (b c : Bool) (lo x n : ℕ) (xs ys : List ℕ) → (b ≡ true → n < x) → (b ≡ false → x ≤ n) →
    (c ≡ false → x ≢ n) → lo ≤ n → lo ≤ x → Climbs (suc x) xs → (suc x ≤ n → Climbs (suc x) ys) →
    Climbs lo (if b then n ∷ x ∷ xs else (if c then x ∷ xs else x ∷ ys))
climbs_if true c lo x n xs ys p q r h k a f = (h, (p refl, a))
climbs_if false true lo x n xs ys p q r h k a f = (k, a)
climbs_if false false lo x n xs ys p q r h k a f =
    let ne : x ≢ n = r refl in
    (k, f (omega (arith, q refl)))

pub climbs_with : (xs : List ℕ) (lo n : ℕ) → lo ≤ n → Climbs lo xs → Climbs lo (with_member n xs)
climbs_with [] lo n h c = (h, tt)
climbs_with (x ∷ xs) lo n h c =
    climbs_if (nat_lt n x) (x == n) lo x n xs (with_member n xs) (lt_yes n x) (lt_no n x)
    (eq_no x n) h c.0 c.1 (λ k. climbs_with xs (suc x) n k c.1)

pub climbs_at : (xs : List ℕ) (lo k : ℕ) → Climbs lo xs → has xs k ≡ true → lo ≤ k
climbs_at [] lo k c h = absurd (cc h)
climbs_at (x ∷ xs) lo k c h = elim (either (x == k) (has xs k) h) [
  | inl e ↦
      omega (arith, c.0, eq_yes x k e)
  | inr e ↦ omega (arith, c.0, climbs_at xs (suc x) k c.1 e)
]

-- ---- the greatest member

pub greatest_least : (xs : List ℕ) (n : ℕ) → n ≤ greatest n xs
greatest_least [] n = omega arith
greatest_least (x ∷ xs) n = omega (arith, greatest_least xs n)

pub greatest_has : (xs : List ℕ) (n k : ℕ) → has xs k ≡ true → k ≤ greatest n xs
greatest_has [] n k h = absurd (cc h)
greatest_has (x ∷ xs) n k h = elim (either (x == k) (has xs k) h) [
  | inl e ↦
      omega (arith, eq_yes x k e)
  | inr e ↦ omega (arith, greatest_has xs n k e)
]

pub greatest_within : (xs : List ℕ) (n b : ℕ) → n ≤ b → ((k : ℕ) → has xs k ≡ true → k ≤ b) →
    greatest n xs ≤ b
greatest_within [] n b h f = h
greatest_within (x ∷ xs) n b h f =
    let x_within : x ≤ b = f x (or_left (x == x) (has xs x) (yes_eq x x refl)) in
    omega (arith, greatest_within xs n b h (λ k e. f k (or_right (x == k) (has xs k) e)))

-- ---- the least missing number

pub missing_ge : (xs : List ℕ) (n : ℕ) → n ≤ first_missing n xs
missing_ge [] n = omega arith
missing_ge (x ∷ xs) n =
    on_if (λ m. n ≤ first_missing m xs) (x == n) (suc n) n (λ _. omega (arith, missing_ge xs (suc n)))
    (λ _. missing_ge xs n)

below_from : (xs : List ℕ) (x n k : ℕ) → x ≡ n → n ≤ k → (suc n ≤ k → has xs k ≡ true) →
    ((x == k) || has xs k) ≡ true
below_from xs x n k e h f = on_bool (n == k)
    (λ d. or_left (x == k) (has xs k) (yes_eq x k (e ∙ eq_yes n k d)))
    (λ d. let ne : n ≢ k = eq_no n k d in or_right (x == k) (has xs k) (f (omega arith)))

pub missing_below : (xs : List ℕ) (n k : ℕ) → n ≤ k → k < first_missing n xs → has xs k ≡ true
missing_below [] n k h l = absurd (omega (arith, l))
missing_below (x ∷ xs) n k h l =
    on_if (λ m. k < first_missing m xs → ((x == k) || has xs k) ≡ true) (x == n) (suc n) n
    (λ e l. below_from xs x n k (eq_yes x n e) h (λ m. missing_below xs (suc n) k m l))
    (λ e l. or_right (x == k) (has xs k) (missing_below xs n k h l)) l

missing_later : (xs : List ℕ) (n : ℕ) → Climbs (suc n) xs → first_missing n xs ≡ n
missing_later [] n c = refl
missing_later (x ∷ xs) n c = ap (λ (b : Bool). first_missing (if b then suc n else n) xs)
    (not_eq x n (omega (arith, c.0))) ∙ missing_later xs n
    (climbs_from (suc x) (suc n) xs (omega (arith, c.0)) c.1)

not_at_head : (xs : List ℕ) (x n : ℕ) → Climbs (suc x) xs → x ≢ n → x ≡ first_missing n xs → ⊥
not_at_head xs x n c ne k = on_bool (nat_lt n x)
    (λ l. ne (k ∙ missing_later xs n (climbs_from (suc x) (suc n) xs (omega (arith, lt_yes n x l)) c)))
    (λ l. omega (arith, ne, k, lt_no n x l, missing_ge xs n))

pub missing_not : (xs : List ℕ) (lo n : ℕ) → Climbs lo xs → has xs (first_missing n xs) ≡ true → ⊥
missing_not [] lo n c h = cc h
missing_not (x ∷ xs) lo n c h =
    on_if (λ m. ((x == first_missing m xs) || has xs (first_missing m xs)) ≡ true → ⊥) (x == n) (suc n) n
    (λ e h. elim (either _ _ h) [
      | inl d ↦ (let k : x ≡ first_missing (suc n) xs = eq_yes _ _ d in
          omega (arith, k, eq_yes x n e, missing_ge xs (suc n)))
      | inr d ↦
          missing_not xs (suc x) (suc n) c.1 d
    ])
    (λ e h. elim (either _ _ h) [
      | inl d ↦ not_at_head xs x n c.1 (eq_no x n e) (eq_yes _ _ d)
      | inr d ↦
          missing_not xs (suc x) n c.1 d
    ]) h

-- ---- the numbers that a BlockAck shows

abbrev offsets_of : List ℕ → ℕ → ℕ → List ℕ
offsets_of xs s w = map (λ n. n - s) (filter (λ n. nat_le s n && nat_lt n (s + w)) xs)

-- If an offset is shown, its number arrived.
pub shown_has : (xs : List ℕ) (s w n : ℕ) → s ≤ n → has (offsets_of xs s w) (n - s) ≡ true → has xs n ≡ true
shown_has [] s w n h e = absurd (cc e)
shown_has (x ∷ xs) s w n h e =
    on_if (λ (ys : List ℕ). has (map (λ k. k - s) ys) (n - s) ≡ true → ((x == n) || has xs n) ≡ true)
    (nat_le s x && nat_lt x (s + w)) (x ∷ filter (λ n. nat_le s n && nat_lt n (s + w)) xs)
    (filter (λ n. nat_le s n && nat_lt n (s + w)) xs)
    (λ b e. elim (either (x - s == n - s) _ e) [
      | inl d ↦ or_left (x == n) (has xs n) (yes_eq x n
          (omega (arith, eq_yes _ _ d, le_yes s x (both _ _ b).0)))
      | inr d ↦ or_right (x == n) (has xs n) (shown_has xs s w n h d)
    ])
    (λ b e. or_right (x == n) (has xs n) (shown_has xs s w n h e)) e

-- A number in the window of the scoreboard that arrived is shown.
pub has_shown : (xs : List ℕ) (s w n : ℕ) → s ≤ n → n < s + w → has xs n ≡ true →
    has (offsets_of xs s w) (n - s) ≡ true
has_shown [] s w n h l e = absurd (cc e)
has_shown (x ∷ xs) s w n h l e =
    on_if (λ (ys : List ℕ). has (map (λ k. k - s) ys) (n - s) ≡ true) (nat_le s x && nat_lt x (s + w))
    (x ∷ filter (λ n. nat_le s n && nat_lt n (s + w)) xs)
    (filter (λ n. nat_le s n && nat_lt n (s + w)) xs)
    (λ b. elim (either (x == n) (has xs n) e) [
      | inl d ↦ or_left (x - s == n - s) _ (yes_eq (x - s) (n - s) (ap (λ (k : ℕ). k - s) (eq_yes x n d)))
      | inr d ↦ or_right (x - s == n - s) _ (has_shown xs s w n h l d)
    ])
    (λ b. elim (either (x == n) (has xs n) e) [
      | inl d ↦ absurd (let k : x ≡ n = eq_yes x n d in
          cc (
            b,
            and_true (nat_le s x) (nat_lt x (s + w)) (yes_le s x (omega arith))
                (yes_lt x (s + w) (omega arith)),
          ))
      | inr d ↦ has_shown xs s w n h l d
    ])

-- Every number that arrived is below the end of the scoreboard.
pub score_past : (xs : List ℕ) (g w n : ℕ) → has xs n ≡ true → n < greatest g (map (λ k. suc k - w) xs) + w
score_past [] g w n h = absurd (cc h)
score_past (x ∷ xs) g w n h = elim (either (x == n) (has xs n) h) [
  | inl d ↦ (let k : x ≡ n = eq_yes x n d in omega arith)
  | inr d ↦ omega (arith, score_past xs g w n d)
]

pub score_within : (xs : List ℕ) (g w b : ℕ) → g ≤ b → ((n : ℕ) → has xs n ≡ true → n < b + w) →
    greatest g (map (λ k. suc k - w) xs) ≤ b
score_within [] g w b h f = h
score_within (x ∷ xs) g w b h f =
    let x_within : x < b + w = f x (or_left (x == x) (has xs x) (yes_eq x x refl)) in
    omega (arith, score_within xs g w b h (λ n e. f n (or_right (x == n) (has xs n) e)))

-- The BlockAck shows a number from its start on if and only if the number arrived.
pub shows_has : (r : Receiver) (n : ℕ) → score_start r ≤ n → shows (score r) n ≡ has r.arrived n
shows_has r n h = same_bool (shows (score r) n) (has r.arrived n)
    (λ e. shown_has r.arrived (score_start r) r.size n h (both _ _ e).1)
    (λ e. and_true _ _ (yes_le (score_start r) n h)
    (has_shown r.arrived (score_start r) r.size n h
    (score_past r.arrived (greatest r.first r.starts) r.size n e) e))
