-- Proves how a new member changes the numbers of a list below a bound, and that the release start never
-- falls.
use Rattle.std.proofs.Common.{◌≡◌, refl, ap, sym, ◌∙◌, arith, ℕ, suc, ◌<◌, ◌≤◌, ◌==◌, nat_lt, nat_le, Bool, true, false, if◌then◌else◌, ◌&&◌, inl, inr, List, [], ◌∷◌, ◌++◌, filter}
use Rattle.wf_def_lists.specs.Table.{has, with_member}
use Rattle.wf_def_agreement.specs.Receiver.{Receiver, greatest, release_start}
use Rattle.wf_law_rules.proofs.Lemmas.Numbers.{Climbs, climbs_at, on_bool, on_if, lt_yes, lt_no, le_yes, yes_le, yes_lt, yes_eq, either, or_left, or_right, missing_ge, missing_below, missing_not}

pub filter_yes : (p : ℕ → Bool) (x : ℕ) (xs : List ℕ) → p x ≡ true → filter p (x ∷ xs) ≡ x ∷ filter p xs
filter_yes p x xs e = ap (λ (b : Bool). if b then x ∷ filter p xs else filter p xs) e

pub filter_no : (p : ℕ → Bool) (x : ℕ) (xs : List ℕ) → p x ≡ false → filter p (x ∷ xs) ≡ filter p xs
filter_no p x xs e = ap (λ (b : Bool). if b then x ∷ filter p xs else filter p xs) e

head_has : (x : ℕ) (xs : List ℕ) → has (x ∷ xs) x ≡ true
head_has x xs = or_left (x == x) (has xs x) (yes_eq x x refl)

pub filter_agree : (p q : ℕ → Bool) (xs : List ℕ) → ((n : ℕ) → has xs n ≡ true → p n ≡ q n) →
    filter p xs ≡ filter q xs
filter_agree p q [] h = refl
filter_agree p q (x ∷ xs) h =
    let rest : filter p xs ≡ filter q xs = filter_agree p q xs
    (λ n e. h n (or_right (x == n) (has xs n) e)) in
    ap (λ (b : Bool). if b then x ∷ filter p xs else filter p xs) (h x (head_has x xs))
    ∙ ap (λ (ys : List ℕ). if q x then x ∷ ys else ys) rest

pub filter_none : (p : ℕ → Bool) (xs : List ℕ) → ((n : ℕ) → has xs n ≡ true → p n ≡ false) → filter p xs ≡ []
filter_none p [] h = refl
filter_none p (x ∷ xs) h = filter_no p x xs (h x (head_has x xs))
    ∙ filter_none p xs (λ n e. h n (or_right (x == n) (has xs n) e))

no_lt : (a b : ℕ) → b ≤ a → nat_lt a b ≡ false
no_lt a b h = on_bool (nat_lt a b) (λ e. absurd (omega (arith, lt_yes a b e, h))) (λ e. e)

pub no_le : (a b : ℕ) → b < a → nat_le a b ≡ false
no_le a b h = on_bool (nat_le a b) (λ e. absurd (omega (arith, le_yes a b e, h))) (λ e. e)

pub filter_split : (xs : List ℕ) (lo b c : ℕ) → b ≤ c → Climbs lo xs →
    filter (λ n. nat_lt n c) xs ≡ filter (λ n. nat_lt n b) xs ++ filter (λ n. nat_le b n && nat_lt n c) xs
filter_split [] lo b c h k = refl
filter_split (x ∷ xs) lo b c h k =
    let p : ℕ → Bool = λ n. nat_lt n b in
    let q : ℕ → Bool = λ n. nat_le b n && nat_lt n c in
    let s : ℕ → Bool = λ n. nat_lt n c in
    on_bool (nat_lt x b)
    (λ below.
    let l : x < b = lt_yes x b below in
    filter_yes s x xs (yes_lt x c (omega arith)) ∙ ap (λ (ys : List ℕ). x ∷ ys)
    (filter_split xs (suc x) b c h k.1)
    ∙ ap (λ (ys : List ℕ). (x ∷ filter p xs) ++ ys)
    (sym (filter_no q x xs (ap (λ (d : Bool). d && nat_lt x c) (no_le b x l))))
    ∙ ap (λ (ys : List ℕ). ys ++ filter q (x ∷ xs)) (sym (filter_yes p x xs below)))
    (λ past.
    let l : b ≤ x = lt_no x b past in
    let all : (n : ℕ) → has (x ∷ xs) n ≡ true → b ≤ n =
    λ n e. omega (arith, l, climbs_at (x ∷ xs) x n (omega arith, k.1) e) in
    filter_agree s q (x ∷ xs) (λ n e. sym (ap (λ (d : Bool). d && nat_lt n c) (yes_le b n (all n e))))
    ∙ ap (λ (ys : List ℕ). ys ++ filter q (x ∷ xs))
    (sym (filter_none p (x ∷ xs) (λ n e. no_lt n b (all n e)))))

pub filter_with : (xs : List ℕ) (m b : ℕ) → b ≤ m →
    filter (λ n. nat_lt n b) (with_member m xs) ≡ filter (λ n. nat_lt n b) xs
filter_with [] m b h = filter_no (λ n. nat_lt n b) m [] (no_lt m b h)
filter_with (x ∷ xs) m b h =
    on_if (λ (ys : List ℕ). filter (λ n. nat_lt n b) ys ≡ filter (λ n. nat_lt n b) (x ∷ xs)) (nat_lt m x)
    (m ∷ x ∷ xs) (if x == m then x ∷ xs else x ∷ with_member m xs)
    (λ _. filter_no (λ n. nat_lt n b) m (x ∷ xs) (no_lt m b h))
    (λ _. on_if (λ (ys : List ℕ). filter (λ n. nat_lt n b) ys ≡ filter (λ n. nat_lt n b) (x ∷ xs)) (x == m)
    (x ∷ xs) (x ∷ with_member m xs) (λ _. refl)
    (λ _. ap (λ (ys : List ℕ). if nat_lt x b then x ∷ ys else ys) (filter_with xs m b h)))

pub member_known : (xs : List ℕ) (lo m : ℕ) → Climbs lo xs → has xs m ≡ true → with_member m xs ≡ xs
member_known [] lo m c h = absurd (cc h)
member_known (x ∷ xs) lo m c h =
    on_if (λ (ys : List ℕ). ys ≡ x ∷ xs) (nat_lt m x) (m ∷ x ∷ xs)
    (if x == m then x ∷ xs else x ∷ with_member m xs)
    (λ l. absurd (omega (arith, lt_yes m x l, climbs_at (x ∷ xs) x m (omega arith, c.1) h)))
    (λ _. on_if (λ (ys : List ℕ). ys ≡ x ∷ xs) (x == m) (x ∷ xs) (x ∷ with_member m xs) (λ _. refl)
    (λ other. elim (either (x == m) (has xs m) h) [
      | inl e ↦ absurd (cc (e, other))
      | inr e ↦
          ap (λ (ys : List ℕ). x ∷ ys) (member_known xs (suc x) m c.1 e)
    ]))

-- The release start never falls.
pub release_rises : (r q : Receiver) → greatest r.first r.starts ≤ greatest q.first q.starts →
    Climbs 0 q.arrived → ((n : ℕ) → has r.arrived n ≡ true → has q.arrived n ≡ true) →
    release_start r ≤ release_start q
release_rises r q h c k = on_bool (nat_lt (release_start q) (release_start r))
    (λ l. absurd (missing_not q.arrived 0 (greatest q.first q.starts) c
    (k (release_start q) (missing_below r.arrived (greatest r.first r.starts) (release_start q)
    (omega (arith, h, missing_ge q.arrived (greatest q.first q.starts))) (lt_yes _ _ l)))))
    (λ l. lt_no _ _ l)
