-- The least of a number and the keys of a list, key by key.
use Rattle.std.proofs.Common.{◌≡◌, ◌∙◌, ℕ, zero, suc, ◌+◌, ◌<◌, ◌≤◌, true, false, List, [], ◌∷◌, ◌++◌, length, drop, Option, Some, None, min, refl, ap, sym, subst, inl, inr, arith, eq-eqb}
use Rattle.std.proofs.lemmas.Bool.{cases_eq, cases_lt, ne_eqb}
use Rattle.wf_def_rotation.specs.Rotation.{Rotation, no_keys, has_key, in_order, keys_before}
use Rattle.wf_def_lists.specs.Lists.{on}
use Rattle.wf_rotation.specs.Lists.{IsLeast, first_of}
use Rattle.wf_law_rules.proofs.Lemmas.Counts.{on-nil, on-first, on-append, on-cons_same, on-cons_other, listed-none, listed-some}
use Rattle.wf_rotation.proofs.ScanLemmas.{step_at}

-- how many keys of a list are before a key; all of them, if there is no key
abbrev pub place_of : List ℕ → Option ℕ → ℕ
place_of ks None = length ks
place_of ks (Some key) = length (keys_before key ks)

place_of-later : (x : ℕ) (xs : List ℕ) (o : Option ℕ) → (o ≡ Some x → ⊥) →
    place_of (x ∷ xs) o ≡ suc (place_of xs o)
place_of-later x xs None other = refl
place_of-later x xs (Some key) other = rw (ne_eqb x key (λ e. other (ap (λ (k : ℕ). let o : Option ℕ =
    Some k in
    o) (sym e)))) refl

-- a key that is on a list once is at its place
pub place_of-first : (ks : List ℕ) (n : ℕ) → ((key : ℕ) → on ks key ≤ 1) → n ≤ length ks →
    place_of ks (first_of (drop n ks)) ≡ n
place_of-first [] zero once within = refl
place_of-first [] (suc n) once within = absurd (omega arith)
place_of-first (x ∷ xs) zero once within = rw (eq-eqb x x refl) refl
place_of-first (x ∷ xs) (suc n) once within =
    place_of-later x xs (first_of (drop n xs)) (λ is. absurd (omega (
      arith,
      (step_at xs n x is).stands,
      on-cons_same x xs,
      once x,
    )))
    ∙ ap (λ (m : ℕ). suc m) (place_of-first xs n (λ key. omega (arith, on-first x key xs, once key))
    (omega arith))

pub least_none : (number : ℕ) → IsLeast number [] number
least_none number = record {
  most = omega arith;
  low = λ key stands. omega (arith, on-nil key);
  stands = λ lower. omega arith;
}

-- one key more
pub least_more : (number m key : ℕ) (keys : List ℕ) → IsLeast number keys m →
    IsLeast number (keys ++ key ∷ []) (min m key)
least_more number m key keys ok = record {
  most = omega (arith, ok.most);
  low = λ other there. elim (cases_eq key other) [
    | inl e ↦ omega arith
    | inr apart ↦ omega (
      arith,
      ok.low other (omega (
        arith,
        on-append keys (key ∷ []) other,
        on-cons_other key other [] apart,
        on-nil other,
      )),
    )
  ];
  stands = λ lower. elim (cases_lt m key) [
    | inl less ↦
        let e : m ≡ min m key = omega arith in
        subst (λ (k : ℕ). 0 < on (keys ++ key ∷ []) k) e
        (omega (arith, on-append keys (key ∷ []) m, ok.stands (omega arith)))
    | inr more ↦
        let e : key ≡ min m key = omega arith in
        subst (λ (k : ℕ). 0 < on (keys ++ key ∷ []) k) e
        (omega (arith, on-append keys (key ∷ []) key, on-cons_same key []))
  ];
}

-- no key is on an empty list
nothing : (keys : List ℕ) → ((key : ℕ) → on keys key ≡ 0) → keys ≡ []
nothing [] off = refl
nothing (key ∷ keys) off = absurd (omega (arith, off key, on-cons_same key keys))

listed_by : (r : Rotation) (key : ℕ) → has_key r key ≡ true → 0 < on r.old key + on r.new key
listed_by r key is = elim (cases_lt 0 (on (in_order r) key)) [
  | inl some ↦ omega (arith, on-append r.old r.new key)
  | inr few ↦ absurd (off (sym is ∙ listed-none r key (omega arith)))
]
  where
    off : true ≡ false → ⊥
    off e = cc

-- The least of the keys of a rotation, and of a number above all of them.
module _ (r : Rotation) (keys old m : ℕ) (below : (key : ℕ) → 0 < on (in_order r) key → key < keys)
    (olds : IsLeast keys r.old old) (all : IsLeast old r.new m) where
  pub least_empty : keys ≤ m → r ≡ no_keys
  least_empty past =
      ap (λ (ks : List ℕ). let s : Rotation = record { new = ks; old = r.old } in s) (nothing r.new (λ key.
      elim (cases_lt 0 (on r.new key)) [
        | inl some ↦ absurd (omega (
          arith,
          all.low key some,
          below key (omega (arith, on-append r.old r.new key)),
        ))
        | inr few ↦ omega arith
      ]))
      ∙ ap (λ (ks : List ℕ). let s : Rotation = record { new = []; old = ks } in s) (nothing r.old (λ key.
      elim (cases_lt 0 (on r.old key)) [
        | inl some ↦ absurd (omega (
          arith,
          olds.low key some,
          all.most,
          below key (omega (arith, on-append r.old r.new key)),
        ))
        | inr few ↦ omega arith
      ]))

  pub least_listed : m < keys → has_key r m ≡ true
  least_listed low = listed-some r m (elim (cases_lt m old) [
    | inl less ↦ omega (arith, all.stands less, on-append r.old r.new m)
    | inr more ↦
        let e : old ≡ m = omega (arith, all.most) in
        omega (
          arith,
          subst (λ (k : ℕ). 0 < on r.old k) e (olds.stands (omega (arith, e))),
          on-append r.old r.new m,
        )
  ])

  pub least_low : (key : ℕ) → has_key r key ≡ true → m ≤ key
  least_low key is = elim (cases_lt 0 (on r.new key)) [
    | inl some ↦ all.low key some
    | inr few ↦ omega (arith, all.most, olds.low key (omega (arith, listed_by r key is)))
  ]
