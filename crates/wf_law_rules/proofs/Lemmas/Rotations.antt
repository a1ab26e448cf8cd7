-- Proves what a pick does to the lists of a rotation and to the order of the old list. By cases of the
-- winner: none, in round 0, or in a later round.
use Rattle.std.proofs.Common.{◌≡◌, refl, ap, sym, ◌∙◌, subst, arith, ℕ, zero, suc, ◌+◌, ◌*◌, ◌<◌, ◌≤◌, min, max, Bool, true, false, if◌then◌else◌, cond, not, ◌&&◌, ◌||◌, ◌==◌, nat_le, List, [], ◌∷◌, ◌++◌, filter, eq-eqb, inl, inr, Option, ◌⊎◌, Some, None, find}
use Rattle.std.proofs.lemmas.Bool.{cases_Bool, cases_eq, eqb-true, eqb-false, ne_eqb, and_parts, leb-true, leb-false, not_from_true, not_from_false}
use Rattle.wf_def_lists.specs.Table.{has}
use Rattle.wf_def_rotation.specs.Rotation.{Rotation, has_key, in_order, round, first_of_two, first_least, keys_before, keys_from, old_visits, all_visits, is_out, Picked, none_ready, picked_now, picked_later, pick_from, pick}
use Rattle.wf_def_lists.specs.Lists.{on}
use Rattle.wf_law_rules.proofs.Lemmas.Counts.{ahead, on-nil, on-cons, on-cons_same, on-cons_other, on-append, ahead-append, ahead-none, on-filter, on-filter_out, on-filter_le, ahead-filter, has-on, hasnot-on, on-has, on-hasnot, before_from, on-before_self, on-split, listed-some}

-- ---- the first ready key with the least round

pub least-none : (f : ℕ → ℕ) (xs : List ℕ) → first_least f xs ≡ None → (y : ℕ) → on xs y ≡ 0
least-none f [] e y = on-nil y
least-none f (x ∷ xs) e y = go (first_least f xs) e
  where
    some : (b : Bool) (x z : ℕ) → (if b then Some x else Some z) ≡ None → ⊥
    some true x z e = cc
    some false x z e = cc

    go : (o : Option ℕ) → first_of_two f x o ≡ None → on (x ∷ xs) y ≡ 0
    go None e = absurd (cc e)
    go (Some z) e = absurd (some (nat_le (f x) (f z)) x z e)

pub record IsLeast (f : ℕ → ℕ) (ready : ℕ → Bool) (xs : List ℕ) (v : ℕ) : Type 0 where
  pub stands : 0 < on xs v
  pub is_ready : ready v ≡ true
  pub front : (y : ℕ) → 0 < on (keys_before v xs) y → ready y ≡ true → f v < f y
  pub all : (y : ℕ) → 0 < on xs y → ready y ≡ true → f v ≤ f y

-- x is the head, and no other ready key has a smaller round.
least_here : (f : ℕ → ℕ) (ready : ℕ → Bool) (xs : List ℕ) (x : ℕ) → ready x ≡ true →
    ((y : ℕ) → 0 < on xs y → ready y ≡ true → f x ≤ f y) → IsLeast f ready (x ∷ xs) x
least_here f ready xs x h rest = record {
  stands = omega (arith, on-cons_same x xs);
  is_ready = h;
  front = λ y stands _. absurd (nothing y stands);
  all = λ y stands is. elim (cases_eq x y) [
    | inl e ↦ let e' : f x ≡ f y = ap f e in omega arith
    | inr other ↦ rest y (omega (arith, on-cons_other x y xs other)) is
  ];
}
  where
    nothing : (y : ℕ) → 0 < on (keys_before x (x ∷ xs)) y → ⊥
    nothing y h =
        let k : 0 < on [] y = rw (eq-eqb x x refl) at h in
        let e : on [] y ≡ 0 = on-nil y in omega arith

-- The least key of the tail is the least of the list, if the head x is not ready or has a greater round.
least_there : (f : ℕ → ℕ) (ready : ℕ → Bool) (xs : List ℕ) (x v : ℕ) → (x ≡ v → ⊥) →
    (ready x ≡ true → f v < f x) → IsLeast f ready xs v → IsLeast f ready (x ∷ xs) v
least_there f ready xs x v differs later i = record {
  stands = omega (arith, on-cons x v xs, i.stands);
  is_ready = i.is_ready;
  front = λ y stands is. elim (cases_eq x y) [
    | inl e ↦ subst (λ (z : ℕ). f v < f z) e (later (ap ready e ∙ is))
    | inr other ↦ i.front y (deeper y other stands) is
  ];
  all = λ y stands is. elim (cases_eq x y) [
    | inl e ↦ let e' : f x ≡ f y = ap f e in let lt : f v < f x = later (ap ready e ∙ is) in omega arith
    | inr other ↦ i.all y (omega (arith, on-cons_other x y xs other)) is
  ];
}
  where
    deeper : (y : ℕ) → (x ≡ y → ⊥) → 0 < on (keys_before v (x ∷ xs)) y → 0 < on (keys_before v xs) y
    deeper y other h =
        let k : 0 < on (x ∷ keys_before v xs) y = rw (ne_eqb x v differs) at h in
        omega (arith, on-cons_other x y (keys_before v xs) other)

same_key : (a b : ℕ) → Some a ≡ Some b → a ≡ b
same_key a b e = cc

-- x is ready, and z is the least key of the tail.
least_deep : (f : ℕ → ℕ) (ready : ℕ → Bool) (xs : List ℕ) (x z v : ℕ) → ready x ≡ true →
    IsLeast f ready xs z → (b : Bool) → nat_le (f x) (f z) ≡ b → (if b then Some x else Some z) ≡ Some v →
    IsLeast f ready (x ∷ xs) v
least_deep f ready xs x z v h i true b k = subst (IsLeast f ready (x ∷ xs)) (same_key x v k)
    (least_here f ready xs x h (λ y stands is.
    let lo : f x ≤ f z = leb-true _ _ b in
    let hi : f z ≤ f y = i.all y stands is in omega arith))
least_deep f ready xs x z v h i false b k = subst (IsLeast f ready (x ∷ xs)) (same_key z v k) (
    let lt : f z < f x = leb-false _ _ b in
    least_there f ready xs x z (λ e'. absurd (let e'' : f x ≡ f z = ap f e' in omega arith)) (λ _. lt) i)

least_rest : (f : ℕ → ℕ) (ready : ℕ → Bool) (xs : List ℕ) (x v : ℕ) → ready x ≡ true → (o : Option ℕ) →
    first_least f (filter ready xs) ≡ o → ((z : ℕ) → first_least f (filter ready xs) ≡ Some z →
    IsLeast f ready xs z) → first_of_two f x o ≡ Some v → IsLeast f ready (x ∷ xs) v
least_rest f ready xs x v h None i below k = subst (IsLeast f ready (x ∷ xs)) (same_key x v k)
    (least_here f ready xs x h (λ y stands is.
    absurd (let e' : on (filter ready xs) y ≡ 0 = least-none f (filter ready xs) i y in
    omega (arith, on-filter ready xs y is))))
least_rest f ready xs x v h (Some z) i below k =
    least_deep f ready xs x z v h (below z i) (nat_le (f x) (f z)) refl k

least_step : (f : ℕ → ℕ) (ready : ℕ → Bool) (xs : List ℕ) (x v : ℕ) →
    ((z : ℕ) → first_least f (filter ready xs) ≡ Some z → IsLeast f ready xs z) → (b : Bool) → ready x ≡ b →
    first_least f (cond b (x ∷ filter ready xs) (filter ready xs)) ≡ Some v → IsLeast f ready (x ∷ xs) v
least_step f ready xs x v below true h k = least_rest f ready xs x v h
    (first_least f (filter ready xs)) refl below k
least_step f ready xs x v below false h k =
    let i : IsLeast f ready xs v = below v k in
    least_there f ready xs x v (λ e'. absurd (cc (ap ready e', h, i.is_ready))) (λ h'. absurd (cc (h, h'))) i

pub least-some : (f : ℕ → ℕ) (ready : ℕ → Bool) (xs : List ℕ) (v : ℕ) →
    first_least f (filter ready xs) ≡ Some v → IsLeast f ready xs v
least-some f ready [] v e = absurd (cc e)
least-some f ready (x ∷ xs) v e = least_step f ready xs x v (λ z. least-some f ready xs z) (ready x) refl e

-- No key of the list is ready.
pub least-empty : (f : ℕ → ℕ) (ready : ℕ → Bool) (xs : List ℕ) → first_least f (filter ready xs) ≡ None →
    (y : ℕ) → ready y ≡ true → on xs y ≡ 0
least-empty f ready xs e y is = let e' : on (filter ready xs) y ≡ 0 = least-none f (filter ready xs) e y in
    omega (arith, on-filter ready xs y is)

-- ---- the first key of the new list with round 0

find-none_step : (p : ℕ → Bool) (xs : List ℕ) (x y : ℕ) → (find p xs ≡ None → 0 < on xs y → p y ≡ false) →
    (b : Bool) → p x ≡ b → cond b (Some x) (find p xs) ≡ None → 0 < on (x ∷ xs) y → p y ≡ false
find-none_step p xs x y below true h k stands = absurd (cc k)
find-none_step p xs x y below false h k stands = elim (cases_eq x y) [
  | inl e' ↦ sym (ap p e') ∙ h
  | inr other ↦ below k (omega (arith, on-cons_other x y xs other))
]

pub find-none : (p : ℕ → Bool) (xs : List ℕ) → find p xs ≡ None → (y : ℕ) → 0 < on xs y → p y ≡ false
find-none p [] e y stands = absurd (let z : on [] y ≡ 0 = on-nil y in omega arith)
find-none p (x ∷ xs) e y stands = find-none_step p xs x y (λ k. find-none p xs k y) (p x) refl e stands

find-some_step : (p : ℕ → Bool) (xs : List ℕ) (x v : ℕ) →
    (find p xs ≡ Some v → (p v ≡ true) × (0 < on xs v)) → (b : Bool) → p x ≡ b →
    cond b (Some x) (find p xs) ≡ Some v → (p v ≡ true) × (0 < on (x ∷ xs) v)
find-some_step p xs x v below true h k = subst (λ (z : ℕ). (p z ≡ true) × (0 < on (x ∷ xs) z))
    (same_key x v k) (h, omega (arith, on-cons_same x xs))
find-some_step p xs x v below false h k =
    let i : (p v ≡ true) × (0 < on xs v) = below k in
    (i.0, omega (arith, on-cons x v xs, i.1))

pub find-some : (p : ℕ → Bool) (xs : List ℕ) (v : ℕ) → find p xs ≡ Some v → (p v ≡ true) × (0 < on xs v)
find-some p [] v e = absurd (cc e)
find-some p (x ∷ xs) v e = find-some_step p xs x v (λ k. find-some p xs v k) (p x) refl e

-- ---- the winner wins in a later round

abbrev pub later : (ℕ → ℕ) → (ℕ → Bool) → Rotation → ℕ → Picked
later need ready r v = picked_later need ready r v (round need r v)

pub record IsLater (need : ℕ → ℕ) (ready : ℕ → Bool) (r : Rotation) (v : ℕ) : Type 0 where
  pub once : (y : ℕ) → on (in_order r) y ≤ 1
  pub least : IsLeast (round need r) ready (in_order r) v
  pub positive : 0 < round need r v

pub once_old : (r : Rotation) (y : ℕ) → on (in_order r) y ≤ 1 → 0 < on r.old y → on r.new y ≡ 0
once_old r y h k = omega (arith, on-append r.old r.new y)

-- The round of a key on the old list.
round_old : (need : ℕ → ℕ) (r : Rotation) (y : ℕ) → on r.new y ≡ 0 → round need r y ≡ 1 + need y
round_old need r y h = rw (on-hasnot r.new y h) refl

lists_old : (r : Rotation) (y : ℕ) → 0 < on r.old y → has_key r y ≡ true
lists_old r y h = go (has r.new y) (has r.old y) (on-has r.old y h)
  where
    go : (a b : Bool) → b ≡ true → a || b ≡ true
    go true b e = refl
    go false b e = e

pub old_visits-bit : (r : Rotation) (v round_won y : ℕ) → 0 < round_won →
    on (keys_before v (in_order r)) y ≤ 1 →
    old_visits r v round_won y + 1 ≡ round_won + on (keys_before v (in_order r)) y
old_visits-bit r v round_won y some most = elim (cases_Bool (has (keys_before v (in_order r)) y)) [
  | inl ht ↦ let o : 0 < on (keys_before v (in_order r)) y = has-on _ _ ht in rw ht (omega arith)
  | inr hf ↦ let o : on (keys_before v (in_order r)) y ≡ 0 = hasnot-on _ _ hf in rw hf (omega arith)
]

-- A key that stays on the old list needed a quantum at each of its visits there.
needed : (need : ℕ → ℕ) (ready : ℕ → Bool) (r : Rotation) (v y : ℕ) → IsLater need ready r v →
    0 < on r.old y → is_out need ready r v (round need r v) y ≡ false →
    old_visits r v (round need r v) y ≤ need y
needed need ready r v y i stands stays =
    elim (cases_Bool (ready y)) [
      | inl ht ↦ elim (cases_eq (on (keys_before v (in_order r)) y) 0) [
        | inl none ↦
            let all : round need r v ≤ round need r y = i.least.all y listed ht in
            omega (arith, bit, is_old)
        | inr some ↦
            let front : round need r v < round need r y = i.least.front y (omega arith) ht in
            omega (arith, bit, is_old, at_most)
      ]
      | inr hf ↦
          let test : nat_le (max 1 (round need r y)) (old_visits r v (round need r v) y) ≡ false =
          rw hf at stays in
          let few : old_visits r v (round need r v) y < max 1 (round need r y) = leb-false _ _ test in
          omega (arith, is_old)
    ]
  where
    new : on r.new y ≡ 0
    new = once_old r y (i.once y) stands

    listed : 0 < on (in_order r) y
    listed = omega (arith, on-append r.old r.new y)

    at_most : on (keys_before v (in_order r)) y ≤ 1
    at_most = omega (arith, on-split v (in_order r) y, i.once y)

    bit : old_visits r v (round need r v) y + 1 ≡ round need r v + on (keys_before v (in_order r)) y
    bit = old_visits-bit r v (round need r v) y i.positive at_most

    is_old : round need r y ≡ 1 + need y
    is_old = round_old need r y new

quanta_stay : (need : ℕ → ℕ) (ready : ℕ → Bool) (r : Rotation) (v y : ℕ) → IsLater need ready r v →
    0 < on r.old y → is_out need ready r v (round need r v) y ≡ false →
    (later need ready r v).quanta y + 1 ≡ round need r v + on (keys_before v (in_order r)) y
quanta_stay need ready r v y i stands stays = elim (cases_eq y v) [
  | inl e ↦
      let at_v : round need r y ≡ round need r v = ap (round need r) e in
      let is_front : on (keys_before v (in_order r)) y ≡ 0 =
      ap (on (keys_before v (in_order r))) e ∙ on-before_self v (in_order r) in
      let given : (later need ready r v).quanta y ≡ need y = rw (eq-eqb y v e) refl in
      omega (arith, is_old)
  | inr other ↦
      let enough : old_visits r v (round need r v) y ≤ need y = needed need ready r v y i stands stays in
      let given : (later need ready r v).quanta y ≡ min (old_visits r v (round need r v) y + 0) (need y) =
      rw (ne_eqb y v other, lists_old r y stands, on-hasnot r.new y new) refl in
      omega (arith, bit)
]
  where
    new : on r.new y ≡ 0
    new = once_old r y (i.once y) stands

    at_most : on (keys_before v (in_order r)) y ≤ 1
    at_most = omega (arith, on-split v (in_order r) y, i.once y)

    bit : old_visits r v (round need r v) y + 1 ≡ round need r v + on (keys_before v (in_order r)) y
    bit = old_visits-bit r v (round need r v) y i.positive at_most

    is_old : round need r y ≡ 1 + need y
    is_old = round_old need r y new

-- A key that is on the old list after the pick did not leave.
pub not_out : (need : ℕ → ℕ) (ready : ℕ → Bool) (r : Rotation) (v y : ℕ) →
    0 < on (later need ready r v).lists.old y → is_out need ready r v (round need r v) y ≡ false
not_out need ready r v y stands = elim (cases_Bool (is_out need ready r v (round need r v) y)) [
  | inl ht ↦ absurd (
      let none : on (filter (λ z. not (is_out need ready r v (round need r v) z))
      (keys_from v (in_order r) ++ keys_before v (in_order r))) y ≡ 0 =
      on-filter_out (λ z. not (is_out need ready r v (round need r v) z))
      (keys_from v (in_order r) ++ keys_before v (in_order r)) y (not_from_true _ ht) in omega arith)
  | inr hf ↦ hf
]

pub bits : (bi bj fi fj b f : ℕ) → bi + fi ≡ 1 → bj + fj ≡ 1 → bi + (b + bj * fi + f) ≡ bj + (f + fj * bi + b)
bits zero zero fi fj b f h k = let e : fi ≡ 1 = omega arith in let e' : fj ≡ 1 = omega arith in
    rw (e, e') (omega arith)
bits (suc zero) zero fi fj b f h k = let e : fi ≡ 0 = omega arith in let e' : fj ≡ 1 = omega arith in
    rw (e, e') (omega arith)
bits zero (suc zero) fi fj b f h k = let e : fi ≡ 1 = omega arith in let e' : fj ≡ 0 = omega arith in
    rw (e, e') (omega arith)
bits (suc zero) (suc zero) fi fj b f h k = let e : fi ≡ 0 = omega arith in let e' : fj ≡ 0 = omega arith in
    rw (e, e') (omega arith)
bits (suc (suc n)) bj fi fj b f h k = absurd (omega arith)
bits bi (suc (suc n)) fi fj b f h k = absurd (omega arith)

abbrev pub Stays : Rotation → Picked → ℕ → ℕ → Type 0
Stays r p i j = 0 < on r.old i → 0 < on r.old j → 0 < on p.lists.old i → 0 < on p.lists.old j →
    p.quanta i + ahead j i r.old ≡ p.quanta j + ahead j i p.lists.old

stay_later : (need : ℕ → ℕ) (ready : ℕ → Bool) (r : Rotation) (v i j : ℕ) → IsLater need ready r v →
    Stays r (later need ready r v) i j
stay_later need ready r v i j l at_i at_j stays_i stays_j =
    let out_i = not_out need ready r v i stays_i in
    let out_j = not_out need ready r v j stays_j in
    let got_i : (later need ready r v).quanta i + 1 ≡ round need r v + on (keys_before v (in_order r)) i =
    quanta_stay need ready r v i l at_i out_i in
    let got_j : (later need ready r v).quanta j + 1 ≡ round need r v + on (keys_before v (in_order r)) j =
    quanta_stay need ready r v j l at_j out_j in
    let kept : ahead j i (later need ready r v).lists.old
    ≡ ahead j i (keys_from v (in_order r) ++ keys_before v (in_order r)) =
    ahead-filter (λ z. not (is_out need ready r v (round need r v) z)) j i
    (keys_from v (in_order r) ++ keys_before v (in_order r)) (not_from_false _ out_j)
    (not_from_false _ out_i) in
    let visited : ahead j i (keys_from v (in_order r) ++ keys_before v (in_order r))
    ≡ ahead j i (keys_from v (in_order r)) + on (keys_from v (in_order r)) j * on
    (keys_before v (in_order r)) i + ahead j i (keys_before v (in_order r)) =
    ahead-append j i _ _ in
    let whole : ahead j i (in_order r) ≡ ahead j i (keys_before v (in_order r)) + on
    (keys_before v (in_order r)) j * on (keys_from v (in_order r)) i + ahead j i
    (keys_from v (in_order r)) =
    ap (ahead j i) (sym (before_from v (in_order r)))
    ∙ ahead-append j i (keys_before v (in_order r)) (keys_from v (in_order r)) in
    let new_i : on r.new i ≡ 0 = once_old r i (l.once i) at_i in
    let olds : ahead j i (in_order r) ≡ ahead j i r.old + on r.old j * on r.new i + ahead j i r.new =
    ahead-append j i r.old r.new in
    let none : on r.old j * on r.new i ≡ 0 = ap (λ (n : ℕ). on r.old j * n) new_i ∙ omega arith in
    let rest : ahead j i r.new ≡ 0 = ahead-none j i r.new new_i in
    let both : on (keys_before v (in_order r)) i +
    (ahead j i (keys_before v (in_order r)) + on (keys_before v (in_order r)) j * on
    (keys_from v (in_order r)) i + ahead j i (keys_from v (in_order r)))
    ≡ on (keys_before v (in_order r)) j + (ahead j i (keys_from v (in_order r)) + on
    (keys_from v (in_order r)) j * on (keys_before v (in_order r)) i + ahead j i
    (keys_before v (in_order r))) =
    bits _ _ _ _ _ _ (omega (arith, on-split v (in_order r) i, on-append r.old r.new i, l.once i))
    (omega (arith, on-split v (in_order r) j, on-append r.old r.new j, l.once j)) in
    omega arith

-- ---- the pick

stay_now : (need : ℕ → ℕ) (r : Rotation) (v i j : ℕ) → ((y : ℕ) → on (in_order r) y ≤ 1) →
    Stays r (picked_now need r v) i j
stay_now need r v i j once at_i at_j _ _ =
    let given_i : (picked_now need r v).quanta i ≡ 0 = rw (on-hasnot _ _ (off i at_i)) refl in
    let given_j : (picked_now need r v).quanta j ≡ 0 = rw (on-hasnot _ _ (off j at_j)) refl in
    let more : ahead j i (r.old ++ keys_before v r.new)
    ≡ ahead j i r.old + on r.old j * on (keys_before v r.new) i + ahead j i (keys_before v r.new) =
    ahead-append j i _ _ in
    let none : on r.old j * on (keys_before v r.new) i ≡ 0 =
    ap (λ (n : ℕ). on r.old j * n) (off i at_i) ∙ omega arith in
    let rest : ahead j i (keys_before v r.new) ≡ 0 = ahead-none j i _ (off i at_i) in
    omega arith
  where
    off : (y : ℕ) → 0 < on r.old y → on (keys_before v r.new) y ≡ 0
    off y stands = omega (arith, on-split v r.new y, once_old r y (once y) stands)

positive_round : (need : ℕ → ℕ) (ready : ℕ → Bool) (r : Rotation) (v : ℕ) → ready v ≡ true →
    ((y : ℕ) → 0 < on r.new y → (ready y && (need y == 0)) ≡ false) → 0 < round need r v
positive_round need ready r v is none = elim (cases_Bool (has r.new v)) [
  | inl ht ↦
      let test : (need v == 0) ≡ false = rw is at (none v (has-on r.new v ht)) in
      let some : (need v ≡ 0 → ⊥) = eqb-false _ _ test in
      rw ht (omega arith)
  | inr hf ↦ rw hf (omega arith)
]

pub is_later : (need : ℕ → ℕ) (ready : ℕ → Bool) (r : Rotation) (v : ℕ) → ((y : ℕ) → on (in_order r) y ≤ 1) →
    ((y : ℕ) → 0 < on r.new y → (ready y && (need y == 0)) ≡ false) →
    first_least (round need r) (filter ready (in_order r)) ≡ Some v → IsLater need ready r v
is_later need ready r v once none e =
    let least : IsLeast (round need r) ready (in_order r) v =
    least-some (round need r) ready (in_order r) v e in
    record { once = once; least = least; positive = positive_round need ready r v least.is_ready none }

-- Two keys stay on the old list. One moves past the other only if it gets one quantum more.
pub stay : (need : ℕ → ℕ) (ready : ℕ → Bool) (r : Rotation) (i j : ℕ) → ((y : ℕ) → on (in_order r) y ≤ 1) →
    Stays r (pick need ready r) i j
unfolding pick
stay need ready r i j once = go (find (λ y. ready y && (need y == 0)) r.new)
    (first_least (round need r) (filter ready (in_order r))) refl refl
  where
    go : (o u : Option ℕ) → find (λ y. ready y && (need y == 0)) r.new ≡ o →
        first_least (round need r) (filter ready (in_order r)) ≡ u → Stays r (pick_from need ready r o) i j
    go (Some v) u e k = stay_now need r v i j once
    go None None e k = rw k (λ _ _ stays _. absurd (let z : on [] i ≡ 0 = on-nil i in omega arith))
    go None (Some v) e k = rw k (stay_later need ready r v i j
        (is_later need ready r v once (find-none _ r.new e) k))

-- ---- more facts about a pick

-- A statement holds for a pick if it holds in its three cases.
pub pick_is : (P : Picked → Type 0) (need : ℕ → ℕ) (ready : ℕ → Bool) (r : Rotation)
    → (((y : ℕ) → ready y ≡ true → on (in_order r) y ≡ 0) → P (none_ready need r))
    → ((v : ℕ) → ready v ≡ true → need v ≡ 0 → 0 < on r.new v → P (picked_now need r v))
    → ((v : ℕ) → IsLeast (round need r) ready (in_order r) v →
    P (picked_later need ready r v (round need r v)))
    → P (pick need ready r)
unfolding pick
pick_is P need ready r none now late = go (find (λ y. ready y && (need y == 0)) r.new)
    (first_least (round need r) (filter ready (in_order r))) refl refl
  where
    go : (o u : Option ℕ) → find (λ y. ready y && (need y == 0)) r.new ≡ o →
        first_least (round need r) (filter ready (in_order r)) ≡ u → P (pick_from need ready r o)
    go (Some v) u e k =
        let found : ((ready v && (need v == 0)) ≡ true) ×
        (0 < on r.new v) = find-some (λ y. ready y && (need y == 0)) r.new v e in
        let both : (ready v ≡ true) × ((need v == 0) ≡ true) = and_parts _ _ found.0 in
        now v both.0 (eqb-true _ _ both.1) found.1
    go None None e k = rw k (none (least-empty (round need r) ready (in_order r) k))
    go None (Some v) e k = rw k (late v (least-some (round need r) ready (in_order r) v k))

now-on : (need : ℕ → ℕ) (r : Rotation) (v y : ℕ) →
    on (in_order (picked_now need r v).lists) y ≡ on (in_order r) y
now-on need r v y = omega (
  arith,
  on-append (r.old ++ keys_before v r.new) (keys_from v r.new) y,
  on-append r.old (keys_before v r.new) y,
  on-append r.old r.new y,
  on-split v r.new y,
)

later-on : (need : ℕ → ℕ) (ready : ℕ → Bool) (r : Rotation) (v round_won y : ℕ) →
    on (in_order (picked_later need ready r v round_won).lists) y
    ≡ on (filter (λ z. not (is_out need ready r v round_won z))
    (keys_from v (in_order r) ++ keys_before v (in_order r))) y
later-on need ready r v round_won y = on-append _ [] y ∙ omega (arith, on-nil y)

visited-on : (r : Rotation) (v y : ℕ) → on (keys_from v (in_order r) ++ keys_before v (in_order r)) y
    ≡ on (in_order r) y
visited-on r v y = omega (
  arith,
  on-append (keys_from v (in_order r)) (keys_before v (in_order r)) y,
  on-split v (in_order r) y,
)

-- A pick adds no key to the lists.
pub pick_on : (need : ℕ → ℕ) (ready : ℕ → Bool) (r : Rotation) (y : ℕ) →
    on (in_order (pick need ready r).lists) y ≤ on (in_order r) y
pick_on need ready r y = pick_is (λ p. on (in_order p.lists) y ≤ on (in_order r) y) need ready r
    (λ _. omega (arith, on-nil y))
    (λ v _ _ _. omega (arith, now-on need r v y))
    (λ v _. omega (
      arith,
      later-on need ready r v (round need r v) y,
      visited-on r v y,
      on-filter_le (λ z. not (is_out need ready r v (round need r v) z))
          (keys_from v (in_order r) ++ keys_before v (in_order r)) y,
    ))

-- A pick removes no ready key from the lists.
pub pick_keeps : (need : ℕ → ℕ) (ready : ℕ → Bool) (r : Rotation) (y : ℕ) → ready y ≡ true →
    on (in_order (pick need ready r).lists) y ≡ on (in_order r) y
pick_keeps need ready r y is = pick_is (λ p. on (in_order p.lists) y ≡ on (in_order r) y) need ready r
    (λ none. on-nil y ∙ sym (none y is))
    (λ v _ _ _. now-on need r v y)
    (λ v _. later-on need ready r v (round need r v) y
    ∙ on-filter (λ z. not (is_out need ready r v (round need r v) z))
    (keys_from v (in_order r) ++ keys_before v (in_order r)) y (rw is refl) ∙ visited-on r v y)

if_most : (b : Bool) (m n : ℕ) → m ≤ n → (if b then m else 0) ≤ n
if_most true m n h = h
if_most false m n h = omega arith

if_else_most : (b : Bool) (m k n : ℕ) → m ≤ n → k ≤ n → (if b then m else k) ≤ n
if_else_most true m k n h i = h
if_else_most false m k n h i = i

pub pick_need : (need : ℕ → ℕ) (ready : ℕ → Bool) (r : Rotation) (y : ℕ) →
    (pick need ready r).quanta y ≤ need y
pick_need need ready r y = pick_is (λ p. p.quanta y ≤ need y) need ready r
    (λ _. if_most (has_key r y) (need y) (need y) (omega arith))
    (λ v _ _ _. if_most (has (keys_before v r.new) y) (min 1 (need y)) (need y) (omega arith))
    (λ v _. if_else_most (y == v) (need y) (if has_key r y then min (all_visits r v (round need r v) y)
    (need y)
    else 0) (need y) (omega arith)
    (if_most (has_key r y) (min (all_visits r v (round need r v) y) (need y)) (need y) (omega arith)))

pub record IsWinner (need : ℕ → ℕ) (ready : ℕ → Bool) (r : Rotation) (p : Picked) (v : ℕ) : Type 0 where
  pub listed : 0 < on (in_order r) v
  pub is_ready : ready v ≡ true
  pub given : p.quanta v ≡ need v

pub pick_winner : (need : ℕ → ℕ) (ready : ℕ → Bool) (r : Rotation) (v : ℕ) →
    (pick need ready r).winner ≡ Some v → IsWinner need ready r (pick need ready r) v
pick_winner need ready r v = pick_is (λ p. p.winner ≡ Some v → IsWinner need ready r p v) need ready r
    (λ _ e. absurd (cc e))
    (λ u is none at_new e. subst (IsWinner need ready r (picked_now need r u)) (same_key u v e) (record {
      listed = omega (arith, on-append r.old r.new u);
      is_ready = is;
      given = rw (on-hasnot _ _ (on-before_self u r.new)) (sym none);
    }))
    (λ u least e. subst (IsWinner need ready r (picked_later need ready r u (round need r u)))
    (same_key u v e) (record {
      listed = least.stands;
      is_ready = least.is_ready;
      given = rw (eq-eqb u u refl) refl;
    }))

pub pick_none : (need : ℕ → ℕ) (ready : ℕ → Bool) (r : Rotation) → (pick need ready r).winner ≡ None →
    (y : ℕ) → ready y ≡ true → on (in_order r) y ≡ 0
pick_none need ready r = pick_is (λ p. p.winner ≡ None → (y : ℕ) → ready y ≡ true → on (in_order r) y ≡ 0)
    need ready r
    (λ none _. none)
    (λ u _ _ _ e. absurd (cc e))
    (λ u _ e. absurd (cc e))

min_least : (m n : ℕ) → n ≤ m → min m n ≡ n
min_least m n h = omega arith

leaves_later : (need : ℕ → ℕ) (ready : ℕ → Bool) (r : Rotation) (v k y : ℕ) → 0 < on (in_order r) y →
    (0 < on (in_order (picked_later need ready r v k).lists) y)
    ⊎ ((picked_later need ready r v k).quanta y ≡ need y)
leaves_later need ready r v k y listed = elim (cases_Bool (is_out need ready r v k y)) [
  | inr stays ↦ inl (omega (
    arith,
    later-on need ready r v k y,
    on-filter (λ z. not (is_out need ready r v k z)) (keys_from v (in_order r) ++ keys_before v (in_order r))
        y (not_from_false _ stays),
    visited-on r v y,
  ))
  | inl out ↦
      let visits : max 1 (round need r y) ≤ old_visits r v k y =
      leb-true _ _ (and_parts (not (ready y)) _ out).1 in
      let enough : need y ≤ all_visits r v k y = go (has r.new y) refl (omega arith) in
      inr (elim (cases_Bool (y == v)) [
        | inl won ↦ rw won refl
        | inr other ↦ rw (other, listed-some r y listed) (min_least (all_visits r v k y) (need y) enough)
      ])
]
  where
    go : (b : Bool) → has r.new y ≡ b → round need r y ≤ old_visits r v k y → need y ≤ all_visits r v k y
    go true e h =
        let h' : need y ≤ old_visits r v k y =
        subst (λ (b : Bool). (if b then need y else 1 + need y) ≤ old_visits r v k y) e h in
        omega arith
    go false e h =
        let h' : 1 + need y ≤ old_visits r v k y =
        subst (λ (b : Bool). (if b then need y else 1 + need y) ≤ old_visits r v k y) e h in
        omega arith

-- A key that a pick removes from the lists gets the quanta that it needs.
pub pick_leaves : (need : ℕ → ℕ) (ready : ℕ → Bool) (r : Rotation) (y : ℕ) → 0 < on (in_order r) y →
    (0 < on (in_order (pick need ready r).lists) y) ⊎ ((pick need ready r).quanta y ≡ need y)
pick_leaves need ready r y listed =
    pick_is (λ p. (0 < on (in_order p.lists) y) ⊎ (p.quanta y ≡ need y)) need ready r
    (λ _. inr (rw (listed-some r y listed) refl))
    (λ v _ _ _. inl (omega (arith, now-on need r v y)))
    (λ v _. leaves_later need ready r v (round need r v) y listed)
