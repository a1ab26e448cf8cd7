-- Proves how many quanta a pick gives to two stations, one of which keeps its place in the rotation.
use Rattle.std.proofs.Common.{◌≡◌, refl, ap, sym, ◌∙◌, subst, arith, ℕ, zero, suc, ◌+◌, ◌-◌, ◌*◌, ◌<◌, ◌≤◌, min, max, Bool, true, false, if◌then◌else◌, cond, not, ◌&&◌, ◌==◌, nat_le, List, [], ◌∷◌, ◌++◌, filter, eq-eqb, inl, inr, ◌⊎◌, Option, Some, None, find}
use Rattle.std.proofs.lemmas.Bool.{cases_Bool, cases_eq, cases_lt, eqb-true, eqb-false, ne_eqb, and_parts, leb-true, leb-false, not_from_false}
use Rattle.wf_def_lists.specs.Table.{has}
use Rattle.wf_def_lists.specs.Lists.{on}
use Rattle.wf_def_rotation.specs.Rotation.{Rotation, has_key, in_order, with_new_key, with_old_key, with_key_listed, without_key, round, first_least, keys_before, keys_from, old_visits, all_visits, is_out, Picked, none_ready, picked_now, pick_from, pick}
use Rattle.wf_law_rules.proofs.Lemmas.Counts.{ahead, on-nil, on-cons, on-cons_same, on-cons_other, on-append, ahead-append, ahead-none, on-filter, on-filter_out, ahead-filter, has-on, hasnot-on, listed-none, listed-some, before_from, on-before_self, on-split}
use Rattle.wf_law_rules.proofs.Lemmas.Rotations.{IsLater, later, once_old, old_visits-bit, not_out, bits, is_later, least-empty, find-none, find-some}

-- ---- the order of a list

pub ahead_most : (j i : ℕ) (xs : List ℕ) → ahead j i xs ≤ on xs j * on xs i
unfolding on ahead
ahead_most j i [] = omega arith
ahead_most j i (x ∷ xs) = go (if x == j then 1 else 0) (if x == i then 1 else 0) (on xs j) (on xs i)
    (ahead j i xs) (ahead_most j i xs)
  where
    go : (p q m n a : ℕ) → a ≤ m * n → p * n + a ≤ (p + m) * (q + n)
    go p q m n a h = omega arith

-- if one of two keys is not on a list, none of them is before the other
ahead-none_first : (j i : ℕ) (xs : List ℕ) → on xs j ≡ 0 → ahead j i xs ≡ 0
ahead-none_first j i xs none =
    let most : on xs j * on xs i ≡ 0 = rw none (omega arith) in
    omega (arith, ahead_most j i xs)

-- one of two keys on a list is before the other
either_first : (j i : ℕ) (xs : List ℕ) → (j ≡ i → ⊥) → 0 < on xs j → 0 < on xs i →
    1 ≤ ahead j i xs + ahead i j xs
unfolding ahead
either_first j i [] differs at_j at_i = absurd (omega (arith, on-nil j))
either_first j i (x ∷ xs) differs at_j at_i = elim (cases_eq x j) [
  | inl e ↦
      let rest : on (x ∷ xs) i ≡ on xs i = on-cons_other x i xs (λ k. differs (sym e ∙ k)) in
      rw (eq-eqb x j e) (omega arith)
  | inr other ↦ elim (cases_eq x i) [
    | inl e ↦
        let rest : on (x ∷ xs) j ≡ on xs j = on-cons_other x j xs other in
        rw (eq-eqb x i e) (omega arith)
    | inr away ↦
        let rest_j : on (x ∷ xs) j ≡ on xs j = on-cons_other x j xs other in
        let rest_i : on (x ∷ xs) i ≡ on xs i = on-cons_other x i xs away in
        rw (ne_eqb x j other, ne_eqb x i away)
        (omega (arith, either_first j i xs differs (omega arith) (omega arith)))
  ]
]

-- the first key is before all others
first_before : (v s : ℕ) (xs : List ℕ) → (v ≡ s → ⊥) →
    on (keys_from v xs) s ≤ ahead v s (keys_from v xs)
unfolding ahead
first_before v s [] differs = omega (arith, on-nil s)
first_before v s (x ∷ xs) differs = elim (cases_Bool (x == v)) [
  | inl ht ↦
      let e : x ≡ v = eqb-true _ _ ht in
      let rest : on (x ∷ xs) s ≡ on xs s = on-cons_other x s xs (λ k. differs (sym e ∙ k)) in
      rw (ht, ht) (omega arith)
  | inr hf ↦ rw hf (first_before v s xs differs)
]

-- and none is before it
none_before : (v s : ℕ) (xs : List ℕ) → (v ≡ s → ⊥) → on xs v ≤ 1 → ahead s v (keys_from v xs) ≡ 0
unfolding ahead
none_before v s [] differs one = refl
none_before v s (x ∷ xs) differs one = elim (cases_Bool (x == v)) [
  | inl ht ↦
      let e : x ≡ v = eqb-true _ _ ht in
      let same : on (x ∷ xs) v ≡ 1 + on xs v = subst (λ (z : ℕ). on (z ∷ xs) v ≡ 1 + on xs v) (sym e)
      (on-cons_same v xs) in
      let none : on xs v ≡ 0 = omega arith in
      rw (ht, ne_eqb x s (λ k. differs (sym e ∙ k))) (omega (arith, ahead-none s v xs none))
  | inr hf ↦ rw hf (none_before v s xs differs (omega (arith, on-cons x v xs)))
]

ahead-filter_le : (p : ℕ → Bool) (j i : ℕ) (xs : List ℕ) → ahead j i (filter p xs) ≤ ahead j i xs
ahead-filter_le p j i xs = elim (cases_Bool (p j)) [
  | inl yes_j ↦ elim (cases_Bool (p i)) [
    | inl yes_i ↦ omega (arith, ahead-filter p j i xs yes_j yes_i)
    | inr no_i ↦ omega (arith, ahead-none j i (filter p xs) (on-filter_out p xs i no_i))
  ]
  | inr no_j ↦ omega (arith, ahead-none_first j i (filter p xs) (on-filter_out p xs j no_j))
]

-- ---- the lead

-- How many quanta station i may be ahead of s: 1 if the next turn of s comes before that of i, else 0.
unfoldable pub lead : ℕ → ℕ → Rotation → ℕ
lead s i r = ahead s i r.old + (on r.new s - ahead i s r.new)

-- each key is on the lists at most one time
abbrev pub Once : Rotation → Type 0
Once r = (y : ℕ) → on (in_order r) y ≤ 1

pub lead_most : (s i : ℕ) (r : Rotation) → Once r → lead s i r ≤ 1
unfolding lead
lead_most s i r once = go (on r.old s) (on r.old i) (on r.new s) (ahead s i r.old) (ahead i s r.new)
    (ahead_most s i r.old)
    (omega (arith, on-append r.old r.new s, once s)) (omega (arith, on-append r.old r.new i, once i))
  where
    go : (m n k a b : ℕ) → a ≤ m * n → m + k ≤ 1 → n ≤ 1 → a + (k - b) ≤ 1
    go zero n k a b h e f = omega arith
    go (suc m) n k a b h e f = let z : m ≡ 0 = omega arith in
        let h' : a ≤ (suc 0) * n = subst (λ (z : ℕ). a ≤ (suc z) * n) z h in omega arith

-- adding another key to the new list does not change the lead
lead_old : (s i k : ℕ) (r : Rotation) → lead s i r ≤ lead s i (with_old_key r k)
unfolding lead
lead_old s i k r = omega (arith, ahead-append s i r.old (k ∷ []))

lead_added : (s i k : ℕ) (r : Rotation) → (k ≡ s → ⊥) → lead s i (with_new_key r k) ≡ lead s i r
unfolding lead
lead_added s i k r other =
    let none : on (k ∷ []) s ≡ 0 = on-cons_other k s [] other ∙ on-nil s in
    let there : on (r.new ++ k ∷ []) s ≡ on r.new s = omega (arith, on-append r.new (k ∷ []) s) in
    let product : on r.new i * on (k ∷ []) s ≡ 0 = rw none (omega arith) in
    let before : ahead i s (r.new ++ k ∷ []) ≡ ahead i s r.new =
    omega (arith, ahead-append i s r.new (k ∷ []), ahead-none i s (k ∷ []) none) in
    rw (there, before) refl

-- listing another key, on whichever list, does not lower the lead
pub lead_listed : (ready : Bool) (s i k : ℕ) (r : Rotation) → (k ≡ s → ⊥) →
    lead s i r ≤ lead s i (with_key_listed ready r k)
lead_listed true s i k r other = omega (arith, lead_added s i k r other)
lead_listed false s i k r other = lead_old s i k r

-- removing another key does not change the lead
pub lead_off : (s i k : ℕ) (r : Rotation) → (s ≡ k → ⊥) → (i ≡ k → ⊥) →
    lead s i (without_key r k) ≡ lead s i r
unfolding lead
lead_off s i k r at_s at_i =
    let keep_s : not (s == k) ≡ true = not_from_false _ (ne_eqb s k at_s) in
    let keep_i : not (i == k) ≡ true = not_from_false _ (ne_eqb i k at_i) in
    rw (
      ahead-filter (λ z. not (z == k)) s i r.old keep_s keep_i,
      ahead-filter (λ z. not (z == k)) i s r.new keep_i keep_s,
      on-filter (λ z. not (z == k)) r.new s keep_s,
    ) refl

-- ---- the cases of a pick

find-front_step : (p : ℕ → Bool) (xs : List ℕ) (x v y : ℕ) →
    (find p xs ≡ Some v → 0 < on (keys_before v xs) y → p y ≡ false) → (b : Bool) → p x ≡ b →
    cond b (Some x) (find p xs) ≡ Some v → 0 < on (keys_before v (x ∷ xs)) y → p y ≡ false
find-front_step p xs x v y below true h k stands =
    let e : x ≡ v = cc in
    absurd (let z : on [] y ≡ 0 = on-nil y in
    let s : 0 < on [] y = rw (eq-eqb x v e) at stands in omega arith)
find-front_step p xs x v y below false h k stands = elim (cases_eq x v) [
  | inl e ↦ absurd (let z : on [] y ≡ 0 = on-nil y in
      let s : 0 < on [] y = rw (eq-eqb x v e) at stands in omega arith)
  | inr other ↦
      let s : 0 < on (x ∷ keys_before v xs) y = rw (ne_eqb x v other) at stands in
      elim (cases_eq x y) [
        | inl e ↦ sym (ap p e) ∙ h
        | inr away ↦ below k (omega (arith, on-cons_other x y (keys_before v xs) away))
      ]
]

-- no key before the one that is found passes the test
pub find-front : (p : ℕ → Bool) (xs : List ℕ) (v : ℕ) → find p xs ≡ Some v → (y : ℕ) →
    0 < on (keys_before v xs) y → p y ≡ false
find-front p [] v e y stands = absurd (cc e)
find-front p (x ∷ xs) v e y stands =
    find-front_step p xs x v y (λ k s. find-front p xs v k y s) (p x) refl e stands

-- the winner has round 0
pub record IsNow (need : ℕ → ℕ) (ready : ℕ → Bool) (r : Rotation) (v : ℕ) : Type 0 where
  pub once : Once r
  pub stands : 0 < on r.new v
  pub is_ready : ready v ≡ true
  pub needs : need v ≡ 0
  pub front : (y : ℕ) → 0 < on (keys_before v r.new) y → ready y ≡ true → 0 < need y

is_now : (need : ℕ → ℕ) (ready : ℕ → Bool) (r : Rotation) (v : ℕ) → Once r →
    find (λ y. ready y && (need y == 0)) r.new ≡ Some v → IsNow need ready r v
is_now need ready r v once e =
    let found : ((ready v && (need v == 0)) ≡ true) × (0 < on r.new v) =
    find-some (λ y. ready y && (need y == 0)) r.new v e in
    let both : (ready v ≡ true) × ((need v == 0) ≡ true) = and_parts _ _ found.0 in
    record {
      once = once;
      stands = found.1;
      is_ready = both.0;
      needs = eqb-true _ _ both.1;
      front = λ y stands is.
          let test : (need y == 0) ≡ false =
          rw is at (find-front (λ y. ready y && (need y == 0)) r.new v e y stands) in
          let some : (need y ≡ 0 → ⊥) = eqb-false _ _ test in omega arith;
    }

pub pick_cases : (P : Picked → Type 0) (need : ℕ → ℕ) (ready : ℕ → Bool) (r : Rotation) → Once r
    → (((y : ℕ) → ready y ≡ true → on (in_order r) y ≡ 0) → P (none_ready need r))
    → ((v : ℕ) → IsNow need ready r v → P (picked_now need r v))
    → ((v : ℕ) → IsLater need ready r v → P (later need ready r v))
    → P (pick need ready r)
unfolding pick
pick_cases P need ready r once none now late = go (find (λ y. ready y && (need y == 0)) r.new)
    (first_least (round need r) (filter ready (in_order r))) refl refl
  where
    go : (o u : Option ℕ) → find (λ y. ready y && (need y == 0)) r.new ≡ o →
        first_least (round need r) (filter ready (in_order r)) ≡ u → P (pick_from need ready r o)
    go (Some v) u e k = now v (is_now need ready r v once e)
    go None None e k = rw k (none (least-empty (round need r) ready (in_order r) k))
    go None (Some v) e k = rw k (late v (is_later need ready r v once (find-none _ r.new e) k))

-- A key keeps its place in a pick: it stays on the old list, or it is listed and ready.
abbrev pub Stands : (ℕ → Bool) → Rotation → Picked → ℕ → Type 0
Stands ready r p s = ((0 < on r.old s) × (0 < on p.lists.old s))
    ⊎ ((0 < on (in_order r) s) × (ready s ≡ true))

-- ---- the winner has round 0

now_number : (qi qs a os bi bs fi fs x y z : ℕ) → qi ≤ bi → bs ≤ qs → os + (bs + fs) ≡ 1 → bi + fi ≤ 1 →
    x ≤ bi * bs → y ≤ fi * fs → (0 < bi → 0 < bs → 1 ≤ x + z) →
    qi + (a + ((bs + fs) - (x + bi * fs + y))) ≤ qs + (a + os * bi + z + (fs - y))
now_number qi qs a (suc os) bi bs fi fs x y z h k once one m n either =
    let e : bs ≡ 0 = omega arith in let f : fs ≡ 0 = omega arith in rw (e, f) (omega arith)
now_number qi qs a zero bi (suc bs) fi fs x y z h k once one m n either =
    let e : bs ≡ 0 = omega arith in
    let f : fs ≡ 0 = omega arith in
    elim (cases_lt 0 bi) [
      | inl some ↦ let g : 1 ≤ x + z = either some (omega arith) in rw (e, f) (omega arith)
      | inr none ↦ rw (e, f) (omega arith)
    ]
now_number qi qs a zero bi zero fi (suc fs) x y z h k once one m n either =
    let e : fs ≡ 0 = omega arith in
    let n' : y ≤ fi * 1 = subst (λ (z : ℕ). y ≤ fi * suc z) e n in
    rw e (omega arith)
now_number qi qs a zero bi zero fi zero x y z h k once one m n either = absurd (omega arith)

now_given : (need : ℕ → ℕ) (r : Rotation) (v y : ℕ) → (picked_now need r v).quanta y
    ≤ on (keys_before v r.new) y
now_given need r v y = elim (cases_Bool (has (keys_before v r.new) y)) [
  | inl ht ↦ let some : 0 < on (keys_before v r.new) y = has-on (keys_before v r.new) y ht in
      rw ht (omega arith)
  | inr hf ↦ rw hf (omega arith)
]

now_gets : (need : ℕ → ℕ) (ready : ℕ → Bool) (r : Rotation) (v y : ℕ) → IsNow need ready r v →
    ready y ≡ true → on (keys_before v r.new) y ≤ (picked_now need r v).quanta y
now_gets need ready r v y i is =
    let one : on (keys_before v r.new) y ≤ 1 =
    omega (arith, on-split v r.new y, on-append r.old r.new y, i.once y) in
    elim (cases_Bool (has (keys_before v r.new) y)) [
      | inl ht ↦ let some : 0 < need y = i.front y (has-on (keys_before v r.new) y ht) is in
          rw ht (omega arith)
      | inr hf ↦ omega (arith, hasnot-on (keys_before v r.new) y hf)
    ]

now_lead : (need : ℕ → ℕ) (ready : ℕ → Bool) (r : Rotation) (v s i : ℕ) → IsNow need ready r v →
    (s ≡ i → ⊥) → Stands ready r (picked_now need r v) s →
    (picked_now need r v).quanta i + lead s i r
    ≤ (picked_now need r v).quanta s + lead s i (picked_now need r v).lists
unfolding lead
now_lead need ready r v s i k differs stands = rw (new_s, new_is, old_is)
    (now_number _ _ (ahead s i r.old) (on r.old s) (on (keys_before v r.new) i) (on (keys_before v r.new) s)
    (on (keys_from v r.new) i) (on (keys_from v r.new) s) (ahead i s (keys_before v r.new))
    (ahead i s (keys_from v r.new)) (ahead s i (keys_before v r.new)) (now_given need r v i) gets
    (omega (arith, listed, on-append r.old r.new s, on-split v r.new s, k.once s))
    (omega (arith, on-append r.old r.new i, on-split v r.new i, k.once i))
    (ahead_most i s (keys_before v r.new)) (ahead_most i s (keys_from v r.new))
    (λ at_i at_s. either_first i s (keys_before v r.new) (λ e. differs (sym e)) at_i at_s))
  where
    new_s : on r.new s ≡ on (keys_before v r.new) s + on (keys_from v r.new) s
    new_s = sym (on-split v r.new s)

    new_is : ahead i s r.new ≡ ahead i s (keys_before v r.new) +
        on (keys_before v r.new) i * on (keys_from v r.new) s + ahead i s (keys_from v r.new)
    new_is = ap (ahead i s) (sym (before_from v r.new))
        ∙ ahead-append i s (keys_before v r.new) (keys_from v r.new)

    old_is : ahead s i (r.old ++ keys_before v r.new) ≡ ahead s i r.old +
        on r.old s * on (keys_before v r.new) i + ahead s i (keys_before v r.new)
    old_is = ahead-append s i r.old (keys_before v r.new)

    listed : 0 < on (in_order r) s
    listed = elim stands [
      | inl h ↦ omega (arith, on-append r.old r.new s, h.0)
      | inr h ↦ h.0
    ]

    gets : on (keys_before v r.new) s ≤ (picked_now need r v).quanta s
    gets = elim stands [
      | inl h ↦ omega (arith, on-split v r.new s, once_old r s (k.once s) h.0)
      | inr h ↦ now_gets need ready r v s k h.1
    ]

-- ---- the winner has a later round

round_bit : (need : ℕ → ℕ) (r : Rotation) (y : ℕ) → on r.new y ≤ 1 →
    round need r y + on r.new y ≡ 1 + need y
round_bit need r y one = elim (cases_Bool (has r.new y)) [
  | inl ht ↦ let some : 0 < on r.new y = has-on r.new y ht in rw ht (omega arith)
  | inr hf ↦ let none : on r.new y ≡ 0 = hasnot-on r.new y hf in rw hf (omega arith)
]

new_bit : (r : Rotation) (y : ℕ) → on r.new y ≤ 1 → (if has r.new y then 1 else 0) ≡ on r.new y
new_bit r y one = elim (cases_Bool (has r.new y)) [
  | inl ht ↦ let some : 0 < on r.new y = has-on r.new y ht in rw ht (omega arith)
  | inr hf ↦ let none : on r.new y ≡ 0 = hasnot-on r.new y hf in rw hf (omega arith)
]

module _ (need : ℕ → ℕ) (ready : ℕ → Bool) (r : Rotation) (v : ℕ) (l : IsLater need ready r v) where
  new_one : (y : ℕ) → on r.new y ≤ 1
  new_one y = omega (arith, on-append r.old r.new y, l.once y)

  front_one : (y : ℕ) → on (keys_before v (in_order r)) y ≤ 1
  front_one y = omega (arith, on-split v (in_order r) y, l.once y)

  visits_bit : (y : ℕ) → old_visits r v (round need r v) y + 1
      ≡ round need r v + on (keys_before v (in_order r)) y
  visits_bit y = old_visits-bit r v (round need r v) y l.positive (front_one y)

  all_bit : (y : ℕ) → all_visits r v (round need r v) y
      ≡ old_visits r v (round need r v) y + on r.new y
  all_bit y = ap (λ (n : ℕ). old_visits r v (round need r v) y + n) (new_bit r y (new_one y))

  given_winner : (later need ready r v).quanta v + 1
      ≡ round need r v + on (keys_before v (in_order r)) v + on r.new v
  given_winner =
      let given : (later need ready r v).quanta v ≡ need v = rw (eq-eqb v v refl) refl in
      omega (arith, given, round_bit need r v (new_one v), on-before_self v (in_order r))

  given_other : (y : ℕ) → (y ≡ v → ⊥) → 0 < on (in_order r) y → (later need ready r v).quanta y
      ≡ min (all_visits r v (round need r v) y) (need y)
  given_other y other listed = rw (ne_eqb y v other, listed-some r y listed) refl

  -- no key gets more quanta than visits
  given_most : (y : ℕ) → 0 < on (in_order r) y → (later need ready r v).quanta y + 1
      ≤ round need r v + on (keys_before v (in_order r)) y + on r.new y
  given_most y listed = elim (cases_eq y v) [
    | inl e ↦ subst (λ (z : ℕ). (later need ready r v).quanta z + 1
        ≤ round need r v + on (keys_before v (in_order r)) z + on r.new z) (sym e)
        (omega (arith, given_winner))
    | inr other ↦ omega (arith, given_other y other listed, visits_bit y, all_bit y)
  ]

  given_none : (y : ℕ) → on (in_order r) y ≡ 0 → (later need ready r v).quanta y ≡ 0
  given_none y none = elim (cases_eq y v) [
    | inl e ↦ absurd (
        let here : 0 < on (in_order r) v = l.least.stands in
        let same : on (in_order r) y ≡ on (in_order r) v = ap (on (in_order r)) e in omega arith)
    | inr other ↦
        rw (ne_eqb y v other, listed-none r y none) refl
  ]

  -- a key that is out gets fewer
  given_out : (y : ℕ) → is_out need ready r v (round need r v) y ≡ true →
      (later need ready r v).quanta y + 2
      ≤ round need r v + on (keys_before v (in_order r)) y + on r.new y
  given_out y out =
      let test : nat_le (max 1 (round need r y)) (old_visits r v (round need r v) y) ≡ true =
      (and_parts (not (ready y)) (nat_le (max 1 (round need r y)) (old_visits r v (round need r v) y))
      out).1 in
      let many : max 1 (round need r y) ≤ old_visits r v (round need r v) y =
      leb-true (max 1 (round need r y)) (old_visits r v (round need r v) y) test in
      let less : (later need ready r v).quanta y ≤ need y = later_need y in
      omega (arith, visits_bit y, round_bit need r y (new_one y))
    where
      later_need : (y : ℕ) → (later need ready r v).quanta y ≤ need y
      later_need y = go (y == v) (has_key r y)
        where
          go : (a b : Bool) → (if a then need y else (if b then min (all_visits r v (round need r v) y)
              (need y)
              else 0)) ≤ need y
          go true b = omega arith
          go false true = omega arith
          go false false = omega arith

  -- a key that keeps its place gets a quantum for each visit
  given_all : (y : ℕ) → 0 < on (in_order r) y → (ready y ≡ false → on r.new y ≡ 0) →
      is_out need ready r v (round need r v) y ≡ false → (later need ready r v).quanta y + 1
      ≡ round need r v + on (keys_before v (in_order r)) y + on r.new y
  given_all y listed is_old stays = elim (cases_eq y v) [
    | inl e ↦ subst (λ (z : ℕ). (later need ready r v).quanta z + 1
        ≡ round need r v + on (keys_before v (in_order r)) z + on r.new z) (sym e) given_winner
    | inr other ↦ omega (arith, given_other y other listed, visits_bit y, all_bit y, enough)
  ]
    where
      enough : all_visits r v (round need r v) y ≤ need y
      enough = elim (cases_Bool (ready y)) [
        | inl ht ↦ elim (cases_eq (on (keys_before v (in_order r)) y) 0) [
          | inl none ↦
              let all : round need r v ≤ round need r y = l.least.all y listed ht in
              omega (arith, visits_bit y, all_bit y, round_bit need r y (new_one y))
          | inr some ↦
              let front : round need r v < round need r y = l.least.front y (omega arith) ht in
              omega (arith, visits_bit y, all_bit y, round_bit need r y (new_one y), front_one y)
        ]
        | inr hf ↦
            let test : nat_le (max 1 (round need r y)) (old_visits r v (round need r v) y) ≡ false =
            rw hf at stays in
            let few : old_visits r v (round need r v) y < max 1 (round need r y) =
            leb-false (max 1 (round need r y)) (old_visits r v (round need r v) y) test in
            omega (arith, all_bit y, round_bit need r y (new_one y), is_old hf)
      ]

-- the lists bound the lead
lead_base : (s i : ℕ) (r : Rotation) → (s ≡ i → ⊥) → Once r → 0 < on (in_order r) s →
    lead s i r + on r.new i ≤ on r.new s + ahead s i (in_order r)
unfolding lead
lead_base s i r differs once listed =
    go (ahead s i r.old) (on r.old s) (on r.new s) (on r.new i) (ahead i s r.new) (ahead s i r.new)
    (ahead s i (in_order r)) (ahead-append s i r.old r.new)
    (omega (arith, on-append r.old r.new s, once s)) (omega (arith, on-append r.old r.new i, once i))
    (λ at_s at_i. either_first i s r.new (λ e. differs (sym e)) at_i at_s)
  where
    go : (a os ns ni x y t : ℕ) → t ≡ a + os * ni + y → os + ns ≡ 1 → ni ≤ 1 →
        (0 < ns → 0 < ni → 1 ≤ x + y) → a + (ns - x) + ni ≤ ns + t
    go a (suc os) ns ni x y t e one n either = let f : ns ≡ 0 = omega arith in rw f (omega arith)
    go a zero (suc ns) ni x y t e one n either =
        let f : ns ≡ 0 = omega arith in
        elim (cases_lt 0 ni) [
          | inl some ↦ let g : 1 ≤ x + y = either (omega arith) some in omega arith
          | inr none ↦ omega arith
        ]
    go a zero zero ni x y t e one n either = absurd (omega arith)

-- a key that is out was visited, and then so was one before it
out_bits : (bi bs fi fs p q : ℕ) → bi + fi ≡ 1 → bs + fs ≡ 1 → p ≤ bs * bi → q ≤ fs * fi →
    bi + (p + bs * fi + q) ≤ bs + 1
out_bits zero zero fi fs p q h k m n = let e : fi ≡ 1 = omega arith in let f : fs ≡ 1 = omega arith in
    let n' : q ≤ 1 * 1 = subst (λ (z : ℕ). q ≤ z * 1) f (subst (λ (z : ℕ). q ≤ fs * z) e n) in omega arith
out_bits zero (suc zero) fi fs p q h k m n = let e : fi ≡ 1 = omega arith in let f : fs ≡ 0 = omega arith in
    let n' : q ≤ 0 * fi = subst (λ (z : ℕ). q ≤ z * fi) f n in omega arith
out_bits (suc zero) zero fi fs p q h k m n = let e : fi ≡ 0 = omega arith in
    let n' : q ≤ fs * 0 = subst (λ (z : ℕ). q ≤ fs * z) e n in omega arith
out_bits (suc zero) (suc zero) fi fs p q h k m n = let e : fi ≡ 0 = omega arith in
    let n' : q ≤ fs * 0 = subst (λ (z : ℕ). q ≤ fs * z) e n in omega arith
out_bits (suc (suc bi)) bs fi fs p q h k m n = absurd (omega arith)
out_bits bi (suc (suc bs)) fi fs p q h k m n = absurd (omega arith)

module _ (need : ℕ → ℕ) (ready : ℕ → Bool) (r : Rotation) (v s i : ℕ) (l : IsLater need ready r v)
    (differs : s ≡ i → ⊥) where
  abbrev front : List ℕ
  front = keys_before v (in_order r)

  abbrev rest : List ℕ
  rest = keys_from v (in_order r)

  whole : ahead s i (in_order r) ≡ ahead s i front + on front s * on rest i + ahead s i rest
  whole = ap (ahead s i) (sym (before_from v (in_order r))) ∙ ahead-append s i front rest

  -- s keeps its place
  kept_lead : 0 < on (in_order r) s → (ready s ≡ false → on r.new s ≡ 0) →
      is_out need ready r v (round need r v) s ≡ false →
      (later need ready r v).quanta i + lead s i r
      ≤ (later need ready r v).quanta s + ahead s i (later need ready r v).lists.old
  kept_lead listed is_old stays = elim (cases_eq (on (in_order r) i) 0) [
    | inl none ↦ unlisted none
    | inr some ↦ elim (cases_Bool (is_out need ready r v (round need r v) i)) [
      | inl out ↦
          let both : on front i + (ahead s i front + on front s * on rest i + ahead s i rest)
          ≤ on front s + 1 = out_bits (on front i) (on front s) (on rest i) (on rest s) _ _
          (omega (arith, on-split v (in_order r) i, l.once i))
          (omega (arith, on-split v (in_order r) s, l.once s))
          (ahead_most s i front) (ahead_most s i rest) in
          omega (arith, whole, base, got_s, given_out need ready r v l i out)
      | inr stays_i ↦
          let moved : ahead s i (later need ready r v).lists.old ≡ ahead s i (rest ++ front) =
          ahead-filter (λ z. not (is_out need ready r v (round need r v) z)) s i (rest ++ front)
          (not_from_false _ stays) (not_from_false _ stays_i) in
          let visited : ahead s i (rest ++ front) ≡ ahead s i rest + on rest s * on front i +
          ahead s i front = ahead-append s i rest front in
          let both : on front i + (ahead s i front + on front s * on rest i + ahead s i rest)
          ≡ on front s + (ahead s i rest + on rest s * on front i + ahead s i front) =
          bits _ _ _ _ _ _ (omega (arith, on-split v (in_order r) i, l.once i))
          (omega (arith, on-split v (in_order r) s, l.once s)) in
          omega (arith, whole, base, got_s, given_most need ready r v l i (omega arith))
    ]
  ]
    where
      base : lead s i r + on r.new i ≤ on r.new s + ahead s i (in_order r)
      base = lead_base s i r differs l.once listed

      got_s : (later need ready r v).quanta s + 1 ≡ round need r v + on front s + on r.new s
      got_s = given_all need ready r v l s listed is_old stays

      unlisted : on (in_order r) i ≡ 0 → (later need ready r v).quanta i + lead s i r
          ≤ (later need ready r v).quanta s + ahead s i (later need ready r v).lists.old
      unlisted none = omega (
        arith,
        given_none need ready r v l i none,
        ahead-none s i (in_order r) none,
        base,
        got_s,
        l.positive,
      )

  later_lead : Stands ready r (later need ready r v) s →
      (later need ready r v).quanta i + lead s i r
      ≤ (later need ready r v).quanta s + lead s i (later need ready r v).lists
  unfolding lead
  later_lead (inl h) =
      let k = kept_lead (omega (arith, on-append r.old r.new s, h.0)) (λ _. once_old r s (l.once s) h.0)
      (not_out need ready r v s h.1) in omega (arith, k)
  later_lead (inr h) =
      let k = kept_lead h.0 (λ no. absurd (cc (no, h.1))) (rw h.1 refl) in omega (arith, k)

-- ---- the pick

-- A key that keeps its place gets as many quanta as any other, up to the lead.
pub pick_lead : (need : ℕ → ℕ) (ready : ℕ → Bool) (r : Rotation) (s i : ℕ) → Once r → (s ≡ i → ⊥) →
    Stands ready r (pick need ready r) s → (pick need ready r).quanta i + lead s i r
    ≤ (pick need ready r).quanta s + lead s i (pick need ready r).lists
pick_lead need ready r s i once differs = pick_cases (λ p. Stands ready r p s →
    p.quanta i + lead s i r ≤ p.quanta s + lead s i p.lists) need ready r once
    (λ none stands. absurd (gone none stands))
    (λ v k stands. now_lead need ready r v s i k differs stands)
    (λ v l stands. later_lead need ready r v s i l differs stands)
  where
    gone : ((y : ℕ) → ready y ≡ true → on (in_order r) y ≡ 0) → Stands ready r (none_ready need r) s → ⊥
    gone none (inl h) = omega (arith, on-nil s, h.1)
    gone none (inr h) = omega (arith, none s h.1, h.0)

now_win : (need : ℕ → ℕ) (ready : ℕ → Bool) (r : Rotation) (s i : ℕ) → (s ≡ i → ⊥) →
    IsNow need ready r i → lead s i (picked_now need r i).lists ≡ 0
unfolding lead
now_win need ready r s i differs k =
    let none : on (r.old ++ keys_before i r.new) i ≡ 0 = omega (
      arith,
      on-append r.old (keys_before i r.new) i,
      on-before_self i r.new,
      on-append r.old r.new i,
      k.once i,
      k.stands,
    ) in
    omega (
      arith,
      ahead-none s i (r.old ++ keys_before i r.new) none,
      first_before i s r.new (λ e. differs (sym e)),
    )

later_win : (need : ℕ → ℕ) (ready : ℕ → Bool) (r : Rotation) (s i : ℕ) → (s ≡ i → ⊥) →
    IsLater need ready r i → lead s i (later need ready r i).lists ≡ 0
unfolding lead
later_win need ready r s i differs l =
    let first : on (keys_before i (in_order r)) i ≡ 0 = on-before_self i (in_order r) in
    let product : on (keys_from i (in_order r)) s * on (keys_before i (in_order r)) i ≡ 0 =
    rw first (omega arith) in
    omega (
      arith,
      ahead-filter_le (λ z. not (is_out need ready r i (round need r i) z)) s i
          (keys_from i (in_order r) ++ keys_before i (in_order r)),
      ahead-append s i (keys_from i (in_order r)) (keys_before i (in_order r)),
      ahead-none s i (keys_before i (in_order r)) first,
      none_before i s (in_order r) (λ e. differs (sym e)) (l.once i),
      on-nil s,
    )

-- The winner is ahead of no other key.
pub win_lead : (need : ℕ → ℕ) (ready : ℕ → Bool) (r : Rotation) (s i : ℕ) → Once r → (s ≡ i → ⊥) →
    (pick need ready r).winner ≡ Some i → lead s i (pick need ready r).lists ≡ 0
win_lead need ready r s i once differs = pick_cases (λ p. p.winner ≡ Some i → lead s i p.lists ≡ 0)
    need ready r once (λ _ e. absurd (cc e))
    (λ v k e. subst (λ (z : ℕ). lead s i (picked_now need r z).lists ≡ 0) (sym (same v e))
    (now_win need ready r s i differs (subst (IsNow need ready r) (same v e) k)))
    (λ v l e. subst (λ (z : ℕ). lead s i (later need ready r z).lists ≡ 0) (sym (same v e))
    (later_win need ready r s i differs (subst (IsLater need ready r) (same v e) l)))
  where
    same : (v : ℕ) → Some v ≡ Some i → v ≡ i
    same v e = cc
