-- Proves that filters, searches and splits of a list give the same result if its keys have other numbers.
use Rattle.std.proofs.Common.{◌≡◌, refl, ap, sym, ◌∙◌, ℕ, Bool, true, false, ◌||◌, cond, List, [], ◌∷◌, ◌++◌, map, Option, Some, None, eqb, nat_le, eq-eqb, inl, inr}
use Rattle.std.specs.Prelude.{filter, find, option_map}
use Rattle.std.proofs.lemmas.Bool.{cases_eq, ne_eqb}
use Rattle.wf_def_lists.specs.Table.{has}
use Rattle.wf_def_rotation.specs.Rotation.{keys_before, keys_from, first_of_two, first_least}
use Rattle.wf_law_rules.specs.Renamed.{KeepsApart}
use Rattle.wf_law_rules.proofs.Lemmas.Members.{has_head, has_tail, has_least}

-- q of a key's other number equals p of the key, for each key of the list.
abbrev pub IsKeptOn : {X : Type 0} → (ℕ → ℕ) → List ℕ → (ℕ → X) → (ℕ → X) → Type 0
IsKeptOn f xs p q = (key : ℕ) → has xs key ≡ true → q (f key) ≡ p key

module _ (f : ℕ → ℕ) where
  find_by : (b : Bool) (x : ℕ) (o : Option ℕ) →
      cond b (Some (f x)) (option_map f o) ≡ option_map f (cond b (Some x) o)
  find_by true x o = refl
  find_by false x o = refl

  pub find_renamed : (p q : ℕ → Bool) (xs : List ℕ) → IsKeptOn f xs p q →
      find q (map f xs) ≡ option_map f (find p xs)
  find_renamed p q [] h = refl
  find_renamed p q (x ∷ xs) h =
      ap (λ (b : Bool). cond b (Some (f x)) (find q (map f xs))) (h x (has_head x xs))
      ∙ ap (λ (o : Option ℕ). cond (p x) (Some (f x)) o)
      (find_renamed p q xs (λ k s. h k (has_tail x xs k s)))
      ∙ find_by (p x) x (find p xs)

  filter_by : (b : Bool) (x : ℕ) (zs : List ℕ) →
      cond b (f x ∷ map f zs) (map f zs) ≡ map f (cond b (x ∷ zs) zs)
  filter_by true x zs = refl
  filter_by false x zs = refl

  pub filter_renamed : (p q : ℕ → Bool) (xs : List ℕ) → IsKeptOn f xs p q →
      filter q (map f xs) ≡ map f (filter p xs)
  filter_renamed p q [] h = refl
  filter_renamed p q (x ∷ xs) h =
      ap (λ (b : Bool). cond b (f x ∷ filter q (map f xs)) (filter q (map f xs))) (h x (has_head x xs))
      ∙ ap (λ (zs : List ℕ). cond (p x) (f x ∷ zs) zs)
      (filter_renamed p q xs (λ k s. h k (has_tail x xs k s)))
      ∙ filter_by (p x) x (filter p xs)

  pub append_renamed : (xs ys : List ℕ) → map f xs ++ map f ys ≡ map f (xs ++ ys)
  append_renamed [] ys = refl
  append_renamed (x ∷ xs) ys = ap (λ (zs : List ℕ). f x ∷ zs) (append_renamed xs ys)

  least_by : (rounds others : ℕ → ℕ) (x : ℕ) (xs : List ℕ) → IsKeptOn f (x ∷ xs) rounds others →
      (o : Option ℕ) → ((z : ℕ) → o ≡ Some z → has xs z ≡ true) →
      first_of_two others (f x) (option_map f o) ≡ option_map f (first_of_two rounds x o)
  least_by rounds others x xs h None on = refl
  least_by rounds others x xs h (Some z) on =
      ap (λ (n : ℕ). cond (nat_le n (others (f z))) (Some (f x)) (Some (f z))) (h x (has_head x xs))
      ∙ ap (λ (n : ℕ). cond (nat_le (rounds x) n) (Some (f x)) (Some (f z)))
      (h z (has_tail x xs z (on z refl)))
      ∙ go (nat_le (rounds x) (rounds z))
    where
      go : (b : Bool) → cond b (Some (f x)) (Some (f z)) ≡ option_map f (cond b (Some x) (Some z))
      go true = refl
      go false = refl

  pub least_renamed : (rounds others : ℕ → ℕ) (xs : List ℕ) → IsKeptOn f xs rounds others →
      first_least others (map f xs) ≡ option_map f (first_least rounds xs)
  least_renamed rounds others [] h = refl
  least_renamed rounds others (x ∷ xs) h =
      ap (first_of_two others (f x)) (least_renamed rounds others xs (λ k s. h k (has_tail x xs k s)))
      ∙ least_by rounds others x xs h (first_least rounds xs) (has_least rounds xs)

  module _ (apart : KeepsApart f) where
    pub equal_renamed : (a b : ℕ) → eqb (f a) (f b) ≡ eqb a b
    equal_renamed a b = elim (cases_eq a b) [
      | inl e ↦ eq-eqb (f a) (f b) (ap f e) ∙ sym (eq-eqb a b e)
      | inr other ↦ ne_eqb (f a) (f b) (λ e. other (apart a b e)) ∙ sym (ne_eqb a b other)
    ]

    pub has_renamed : (xs : List ℕ) (k : ℕ) → has (map f xs) (f k) ≡ has xs k
    has_renamed [] k = refl
    has_renamed (x ∷ xs) k = ap (λ (b : Bool). b || has (map f xs) (f k)) (equal_renamed x k)
        ∙ ap (λ (b : Bool). eqb x k || b) (has_renamed xs k)

    before_by : (b : Bool) (x : ℕ) (zs : List ℕ) → cond b [] (f x ∷ map f zs) ≡ map f (cond b [] (x ∷ zs))
    before_by true x zs = refl
    before_by false x zs = refl

    pub before_renamed : (w : ℕ) (xs : List ℕ) → keys_before (f w) (map f xs) ≡ map f (keys_before w xs)
    before_renamed w [] = refl
    before_renamed w (x ∷ xs) =
        ap (λ (b : Bool). cond b [] (f x ∷ keys_before (f w) (map f xs))) (equal_renamed x w)
        ∙ ap (λ (zs : List ℕ). cond (eqb x w) [] (f x ∷ zs)) (before_renamed w xs)
        ∙ before_by (eqb x w) x (keys_before w xs)

    from_by : (b : Bool) (x : ℕ) (xs zs : List ℕ) →
        cond b (f x ∷ map f xs) (map f zs) ≡ map f (cond b (x ∷ xs) zs)
    from_by true x xs zs = refl
    from_by false x xs zs = refl

    pub from_renamed : (w : ℕ) (xs : List ℕ) → keys_from (f w) (map f xs) ≡ map f (keys_from w xs)
    from_renamed w [] = refl
    from_renamed w (x ∷ xs) =
        ap (λ (b : Bool). cond b (f x ∷ map f xs) (keys_from (f w) (map f xs))) (equal_renamed x w)
        ∙ ap (λ (zs : List ℕ). cond (eqb x w) (f x ∷ map f xs) zs) (from_renamed w xs)
        ∙ from_by (eqb x w) x xs (keys_from w xs)
