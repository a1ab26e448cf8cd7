-- The cut of a list at its first ready key of the least order, by induction on the list.
use Rattle.std.proofs.Common.{◌≡◌, ℕ, ◌<◌, ◌≤◌, Bool, true, false, ◌&&◌, ltb, List, [], ◌∷◌, ◌++◌, Option, Some, None, refl, sym, ap, ◌∙◌, subst, inl, inr, arith, leb}
use Rattle.std.proofs.lemmas.Bool.{cases_Bool, cases_eq, cases_lt, le-leb, lt-leb, lt-ltb, le-ltb, and_parts, and_right}
use Rattle.std.specs.Prelude.{if◌then◌else◌}
use Rattle.wf_law_rules.proofs.Lemmas.Counts.{on-nil, on-first, on-cons_same, on-cons_other, on-append}
use Rattle.wf_def_lists.specs.Lists.{on}
use Rattle.wf_rotation.specs.Cuts.{Cut, better, least}

pub least-nil : (ready : ℕ → Bool) (order : ℕ → ℕ) → least ready order [] ≡ None
unfolding least
least-nil ready order = refl

pub least-cons : (ready : ℕ → Bool) (order : ℕ → ℕ) (y : ℕ) (ys : List ℕ) →
    least ready order (y ∷ ys) ≡ better ready order y ys (least ready order ys)
unfolding least
least-cons ready order y ys = refl

-- the list is what the cut's parts make
abbrev pub whole : Cut → List ℕ
whole c = c.before ++ (c.key ∷ c.after)

abbrev pub CutOf : (ℕ → Bool) → List ℕ → Cut → Type 0
CutOf ready xs c = (xs ≡ whole c) × (ready c.key ≡ true)

pub better-none_ready : (ready : ℕ → Bool) (order : ℕ → ℕ) (y : ℕ) (ys : List ℕ) → ready y ≡ true →
    better ready order y ys None ≡ Some (record { before = []; key = y; after = ys })
better-none_ready ready order y ys h = rw h

pub better-not_ready : (ready : ℕ → Bool) (order : ℕ → ℕ) (y : ℕ) (ys : List ℕ) → ready y ≡ false →
    better ready order y ys None ≡ None
better-not_ready ready order y ys h = rw h

-- y is not ready, or the best of ys alone has a smaller order
Later : (ℕ → Bool) → (ℕ → ℕ) → ℕ → Cut → Type 0
Later ready order y d = (ready y && leb (order y) (order d.key)) ≡ false

pub better-first : (ready : ℕ → Bool) (order : ℕ → ℕ) (y : ℕ) (ys : List ℕ) (d : Cut) →
    (ready y && leb (order y) (order d.key)) ≡ true →
    better ready order y ys (Some d) ≡ Some (record { before = []; key = y; after = ys })
better-first ready order y ys d h = rw h

pub better-later : (ready : ℕ → Bool) (order : ℕ → ℕ) (y : ℕ) (ys : List ℕ) (d : Cut) →
    (ready y && leb (order y) (order d.key)) ≡ false →
    better ready order y ys (Some d) ≡ Some (record { before = y ∷ d.before; key = d.key; after = d.after })
better-later ready order y ys d h = rw h

-- the key of a cut is ready, and the parts make the list
pub least-cut : (ready : ℕ → Bool) (order : ℕ → ℕ) (xs : List ℕ) (c : Cut) → least ready order xs ≡ Some c →
    CutOf ready xs c
unfolding least
least-cut ready order [] c e = absurd (cc)
least-cut ready order (y ∷ ys) c e = go (least ready order ys) (λ (d : Cut). least-cut ready order ys d) e
  where
    go : (o : Option Cut) → ((d : Cut) → o ≡ Some d → CutOf ready ys d) → better ready order y ys o ≡ Some c →
        CutOf ready (y ∷ ys) c
    go None _ is = elim (cases_Bool (ready y)) [
      | inl h ↦
          let same : record { before = []; key = y; after = ys } ≡ c =
          cc (better-none_ready ready order y ys h) in
          subst (CutOf ready (y ∷ ys)) same (refl, h)
      | inr h ↦ absurd (cc (better-not_ready ready order y ys h))
    ]
    go (Some d) below is = elim (cases_Bool (ready y && leb (order y) (order d.key))) [
      | inl h ↦
          let same : record { before = []; key = y; after = ys } ≡ c =
          cc (better-first ready order y ys d h) in
          subst (CutOf ready (y ∷ ys)) same (refl, (and_parts _ _ h).0)
      | inr h ↦
          let same : record { before = y ∷ d.before; key = d.key; after = d.after } ≡ c =
          cc (better-later ready order y ys d h) in
          subst (CutOf ready (y ∷ ys)) same (ap (λ (t : List ℕ). y ∷ t) (below d refl).0, (below d refl).1)
    ]

-- the key of a cut is on the list
pub least-stands : (ready : ℕ → Bool) (order : ℕ → ℕ) (xs : List ℕ) (c : Cut) →
    least ready order xs ≡ Some c → 0 < on xs c.key
least-stands ready order xs c e = rw ((least-cut ready order xs c e).0, on-append)
    (omega (arith, on-cons_same c.key c.after))

-- no key of a list with no cut is ready
pub least-none : (ready : ℕ → Bool) (order : ℕ → ℕ) (xs : List ℕ) → least ready order xs ≡ None → (z : ℕ) →
    0 < on xs z → ready z ≡ false
unfolding least
least-none ready order [] e z stands = absurd (omega (arith, on-nil z))
least-none ready order (y ∷ ys) e z stands = go (least ready order ys) (least-none ready order ys) e
  where
    go : (o : Option Cut) → (o ≡ None → (z : ℕ) → 0 < on ys z → ready z ≡ false) →
        better ready order y ys o ≡ None → ready z ≡ false
    go None below is = elim (cases_Bool (ready y)) [
      | inl h ↦ absurd (cc (better-none_ready ready order y ys h))
      | inr h ↦ elim (cases_eq y z) [
        | inl e ↦ ap ready (sym e) ∙ h
        | inr other ↦ below refl z (omega (arith, on-cons_other y z ys other))
      ]
    ]
    go (Some d) below is = elim (cases_Bool (ready y && leb (order y) (order d.key))) [
      | inl h ↦ absurd (cc (better-first ready order y ys d h))
      | inr h ↦ absurd (cc (better-later ready order y ys d h))
    ]

-- two orders that agree at the ready keys of a list cut it alike
pub least-agree : (ready : ℕ → Bool) (f g : ℕ → ℕ) (xs : List ℕ) →
    ((z : ℕ) → 0 < on xs z → ready z ≡ true → f z ≡ g z) → least ready f xs ≡ least ready g xs
unfolding least
least-agree ready f g [] same = refl
least-agree ready f g (y ∷ ys) same =
    let rest : least ready f ys ≡ least ready g ys =
    least-agree ready f g ys (λ z stands is. same z (omega (arith, on-first y z ys)) is) in
    rw rest (go (least ready g ys) refl)
  where
    go : (o : Option Cut) → least ready g ys ≡ o → better ready f y ys o ≡ better ready g y ys o
    go None was = refl
    go (Some d) was = elim (cases_Bool (ready y)) [
      | inl h ↦
          let at_y : f y ≡ g y = same y (omega (arith, on-cons_same y ys)) h in
          let on_ys : 0 < on ys d.key = least-stands ready g ys d was in
          let at_d : f d.key ≡ g d.key = same d.key (omega (arith, on-first y d.key ys))
          (least-cut ready g ys d was).1 in
          rw (at_y, at_d)
      | inr h ↦ rw h
    ]

-- xs and then y; the best of xs alone is known
abbrev pub appended : (ℕ → Bool) → (ℕ → ℕ) → List ℕ → ℕ → Option Cut → Option Cut
appended ready order xs y None = if ready y then Some (record { before = xs; key = y; after = [] }) else None
appended ready order xs y (Some c) =
    if ready y && ltb (order y) (order c.key)
    then Some (record { before = xs; key = y; after = [] })
    else Some (record { before = c.before; key = c.key; after = c.after ++ y ∷ [] })

pub appended-last : (ready : ℕ → Bool) (order : ℕ → ℕ) (xs : List ℕ) (y : ℕ) (c : Cut) →
    (ready y && ltb (order y) (order c.key)) ≡ true →
    appended ready order xs y (Some c) ≡ Some (record { before = xs; key = y; after = [] })
appended-last ready order xs y c h = rw h

pub appended-front : (ready : ℕ → Bool) (order : ℕ → ℕ) (xs : List ℕ) (y : ℕ) (c : Cut) →
    (ready y && ltb (order y) (order c.key)) ≡ false →
    appended ready order xs y (Some c) ≡ Some
    (record { before = c.before; key = c.key; after = c.after ++ y ∷ [] })
appended-front ready order xs y c h = rw h

pub least-append : (ready : ℕ → Bool) (order : ℕ → ℕ) (xs : List ℕ) (y : ℕ) →
    least ready order (xs ++ y ∷ []) ≡ appended ready order xs y (least ready order xs)
unfolding least
least-append ready order [] y = refl
least-append ready order (x ∷ xs) y = rw (least-append ready order xs y) (go (least ready order xs))
  where
    go : (o : Option Cut) → better ready order x (xs ++ y ∷ []) (appended ready order xs y o)
        ≡ appended ready order (x ∷ xs) y (better ready order x xs o)
    go None = elim (cases_Bool (ready x)) [
      | inl hx ↦ elim (cases_Bool (ready y)) [
        | inl hy ↦ elim (cases_lt (order y) (order x)) [
          | inl lt ↦ simp (hx, hy, lt-leb _ _ lt, lt-ltb _ _ lt)
          | inr le ↦ simp (hx, hy, le-leb _ _ le, le-ltb _ _ le)
        ]
        | inr hy ↦ simp (hx, hy)
      ]
      | inr hx ↦ elim (cases_Bool (ready y)) [ inl hy ↦ simp (hx, hy) | inr hy ↦ simp (hx, hy) ]
    ]
    go (Some c) = elim (cases_Bool (ready x)) [
      | inl hx ↦ elim (cases_Bool (ready y)) [
        | inl hy ↦ elim (cases_lt (order y) (order c.key)) [
          | inl y-lt-c ↦ elim (cases_lt (order y) (order x)) [
            | inl lt ↦ elim (cases_lt (order c.key) (order x)) [
              | inl c-lt-x ↦ simp (hx, hy, lt-leb _ _ lt, lt-ltb _ _ lt, lt-ltb _ _ y-lt-c, lt-leb _ _ c-lt-x)
              | inr x-le-c ↦ simp (hx, hy, lt-leb _ _ lt, lt-ltb _ _ lt, lt-ltb _ _ y-lt-c, le-leb _ _ x-le-c)
            ]
            | inr le ↦
                let x-le-c : order x ≤ order c.key = omega arith in
                simp (hx, hy, le-leb _ _ le, le-ltb _ _ le, lt-ltb _ _ y-lt-c, le-leb _ _ x-le-c)
          ]
          | inr c-le-y ↦ elim (cases_lt (order c.key) (order x)) [
            | inl c-lt-x ↦ simp (hx, hy, le-ltb _ _ c-le-y, lt-leb _ _ c-lt-x)
            | inr x-le-c ↦
                let x-le-y : order x ≤ order y = omega arith in
                simp (hx, hy, le-ltb _ _ c-le-y, le-leb _ _ x-le-c, le-ltb _ _ x-le-y)
          ]
        ]
        | inr hy ↦ elim (cases_lt (order c.key) (order x)) [
          | inl c-lt-x ↦ simp (hx, hy, lt-leb _ _ c-lt-x)
          | inr x-le-c ↦ simp (hx, hy, le-leb _ _ x-le-c)
        ]
      ]
      | inr hx ↦ elim (cases_Bool (ready y && ltb (order y) (order c.key))) [
        | inl h ↦ simp (hx, h)
        | inr h ↦
            simp (hx, h)
      ]
    ]

-- keys with a positive order stand before the winner of order 0 of a list that follows them
pub least-past : (ready : ℕ → Bool) (order : ℕ → ℕ) (xs ys : List ℕ) (c : Cut) →
    ((z : ℕ) → 0 < on xs z → 0 < order z) → order c.key ≡ 0 → least ready order ys ≡ Some c →
    least ready order (xs ++ ys) ≡ Some (record { before = xs ++ c.before; key = c.key; after = c.after })
unfolding least
least-past ready order [] ys c high none is = is
least-past ready order (x ∷ xs) ys c high none is =
    let some : 0 < order x = high x (omega (arith, on-cons_same x xs)) in
    let above : order c.key < order x = omega arith in
    rw (least-past ready order xs ys c (λ z stands. high z (omega (arith, on-first x z xs))) none is)
    (better-later ready order x (xs ++ ys) (record { before = xs ++ c.before; key = c.key; after = c.after })
    (and_right _ _ (lt-leb _ _ above)))

-- if the winner of both has order 0, they are all before it
pub least-from_past : (ready : ℕ → Bool) (order : ℕ → ℕ) (xs ys : List ℕ) (c : Cut) →
    ((z : ℕ) → 0 < on xs z → 0 < order z) → order c.key ≡ 0 → least ready order (xs ++ ys) ≡ Some c →
    (front : List ℕ) × (c.before ≡ xs ++ front)
unfolding least
least-from_past ready order [] ys c high none is = (c.before, refl)
least-from_past ready order (x ∷ xs) ys c high none is =
    go (least ready order (xs ++ ys)) (λ (d : Cut).
    least-from_past ready order xs ys d (λ z stands. high z (omega (arith, on-first x z xs)))) is
  where
    some : 0 < order x
    some = high x (omega (arith, on-cons_same x xs))

    not_first : (d : Cut) → d.key ≡ x → d ≡ c → ⊥
    not_first d is_x same =
        let at_x : order c.key ≡ order x = ap order (sym (ap (λ (v : Cut). v.key) same) ∙ is_x) in
        let above : 0 < order x = some in
        omega arith

    go : (o : Option Cut) → ((d : Cut) → order d.key ≡ 0 → o ≡ Some d → (front : List ℕ) ×
        (d.before ≡ xs ++ front)) → better ready order x (xs ++ ys) o ≡ Some c → (front : List ℕ) ×
        (c.before ≡ (x ∷ xs) ++ front)
    go None below is = elim (cases_Bool (ready x)) [
      | inl h ↦ absurd (not_first (record { before = []; key = x; after = xs ++ ys }) refl
          (cc (better-none_ready ready order x (xs ++ ys) h)))
      | inr h ↦ absurd (cc (better-not_ready ready order x (xs ++ ys) h))
    ]
    go (Some d) below is = elim (cases_Bool (ready x && leb (order x) (order d.key))) [
      | inl h ↦ absurd (not_first (record { before = []; key = x; after = xs ++ ys }) refl
          (cc (better-first ready order x (xs ++ ys) d h)))
      | inr h ↦
          let same : record { before = x ∷ d.before; key = d.key; after = d.after } ≡ c =
          cc (better-later ready order x (xs ++ ys) d h) in
          let deeper : (front : List ℕ) × (d.before ≡ xs ++ front) =
          below d (ap order (ap (λ (v : Cut). v.key) same) ∙ none) refl in
          (deeper.0, sym (ap (λ (v : Cut). v.before) same) ∙ ap (λ (t : List ℕ). x ∷ t) deeper.1)
    ]
