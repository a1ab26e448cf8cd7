-- Proves that the pick has the same result before and after one turn of the loop, except for the quantum
-- that the turn gives. Each kind of turn has a module, which compares the two picks by the round in which
-- the winner wins.
use Rattle.wf_def_lists.specs.Lists.{IsOnce}
use Rattle.std.proofs.Common.{◌≡◌, refl, ap, sym, ◌∙◌, subst, arith, ℕ, ◌+◌, ◌-◌, min, max, append_assoc, append-nil, Bool, true, false, if◌then◌else◌, not, ◌&&◌, ◌||◌, ◌==◌, nat_le, List, [], ◌∷◌, ◌++◌, filter, find, Option, Some, None}
use Rattle.wf_def_lists.specs.Table.{has}
use Rattle.wf_def_rotation.specs.Rotation.{Rotation, has_key, in_order, keys_before, keys_from, round, first_of_two, first_least, Picked, none_ready, picked_now, old_visits, all_visits, is_out, picked_later, pick_later, pick_from, pick}
use Rattle.wf_law_rules.proofs.Lemmas.Joined.{has_append}
use Rattle.wf_law_rules.proofs.Order.{eq_true, eq_self, filter_has}

pub by_bool : (P : Type 0) (b : Bool) → (b ≡ true → P) → (b ≡ false → P) → P
by_bool P true h k = h refl
by_bool P false h k = k refl

-- ---- functions that agree on the members of a list

in_tail : (y k : ℕ) (ys : List ℕ) → has ys k ≡ true → has (y ∷ ys) k ≡ true
in_tail y k ys h = go (y == k) h
  where
    go : (b : Bool) → has ys k ≡ true → (b || has ys k) ≡ true
    go true h = refl
    go false h = h

in_head : (y : ℕ) (ys : List ℕ) → has (y ∷ ys) y ≡ true
in_head y ys = ap (λ (b : Bool). b || has ys y) (eq_self y)

filter_same : (p q : ℕ → Bool) (ks : List ℕ) → ((k : ℕ) → has ks k ≡ true → p k ≡ q k) →
    filter p ks ≡ filter q ks
filter_same p q [] h = refl
filter_same p q (k ∷ ks) h =
    ap (λ (b : Bool). if b then k ∷ filter p ks else filter p ks) (h k (in_head k ks))
    ∙ ap (λ (zs : List ℕ). if q k then k ∷ zs else zs)
    (filter_same p q ks (λ i there. h i (in_tail k i ks there)))

find_same : (p q : ℕ → Bool) (ks : List ℕ) → ((k : ℕ) → has ks k ≡ true → p k ≡ q k) → find p ks ≡ find q ks
find_same p q [] h = refl
find_same p q (k ∷ ks) h =
    ap (λ (b : Bool). if b then Some k else find p ks) (h k (in_head k ks))
    ∙ ap (λ (o : Option ℕ). if q k then Some k else o)
    (find_same p q ks (λ i there. h i (in_tail k i ks there)))

-- `first_of_two` has the same result for functions that agree on both keys.
first_of_two_same : (f g : ℕ → ℕ) (y : ℕ) (o : Option ℕ) → f y ≡ g y → ((z : ℕ) → o ≡ Some z → f z ≡ g z) →
    first_of_two f y o ≡ first_of_two g y o
first_of_two_same f g y None h k = refl
first_of_two_same f g y (Some z) h k =
    ap (λ (n : ℕ). if nat_le n (f z) then Some y else Some z) h
    ∙ ap (λ (n : ℕ). if nat_le (g y) n then Some y else Some z) (k z refl)

least_member : (f : ℕ → ℕ) (ks : List ℕ) (z : ℕ) → first_least f ks ≡ Some z → has ks z ≡ true
least_member f [] z h = absurd (cc h)
least_member f (y ∷ ys) z h = go (first_least f ys) h (least_member f ys z)
  where
    go : (o : Option ℕ) → first_of_two f y o ≡ Some z → (o ≡ Some z → has ys z ≡ true) → has (y ∷ ys) z ≡ true
    go None e k = ap (has (y ∷ ys)) (let s : z ≡ y = cc e in s) ∙ in_head y ys
    go (Some x) e k = pick_one (nat_le (f y) (f x)) e
      where
        pick_one : (b : Bool) → (if b then Some y else Some x) ≡ Some z → has (y ∷ ys) z ≡ true
        pick_one true c = ap (has (y ∷ ys)) (let s : z ≡ y = cc c in s) ∙ in_head y ys
        pick_one false c = in_tail y z ys (k c)

least_same : (f g : ℕ → ℕ) (ks : List ℕ) → ((k : ℕ) → has ks k ≡ true → f k ≡ g k) →
    first_least f ks ≡ first_least g ks
least_same f g [] h = refl
least_same f g (k ∷ ks) h =
    first_of_two_same f g k (first_least f ks) (h k (in_head k ks))
    (λ z e. h z (in_tail k z ks (least_member f ks z e)))
    ∙ ap (first_of_two g k) (least_same f g ks (λ i there. h i (in_tail k i ks there)))

-- ---- picks with the same winner and lists, of which the first gives more quanta

pub record Agrees (p q : Picked) (extra : ℕ → ℕ) : Type 0 where
  pub winner : p.winner ≡ q.winner
  pub lists : p.lists ≡ q.lists
  pub quanta : (y : ℕ) → p.quanta y ≡ q.quanta y + extra y

-- 1 for the key, and 0 for the others.
abbrev pub one_for : ℕ → ℕ → ℕ
one_for key y = if key == y then 1 else 0

-- The quanta that each key needs after `key` got one.
abbrev pub less_for : ℕ → (ℕ → ℕ) → ℕ → ℕ
less_for key need y = need y - one_for key y

or_false : (b : Bool) → b || false ≡ b
or_false true = refl
or_false false = refl

distinct_tail : (xs : List ℕ) (k : ℕ) (ys : List ℕ) → IsOnce (xs ++ k ∷ ys) → has ys k ≡ false
distinct_tail [] k ys d = d.0
distinct_tail (x ∷ xs) k ys d = distinct_tail xs k ys d.1

found_passes : (p : ℕ → Bool) (ks : List ℕ) (z : ℕ) → find p ks ≡ Some z → p z ≡ true
found_passes p [] z h = absurd (cc h)
found_passes p (y ∷ ys) z h = go (p y) refl h (found_passes p ys z)
  where
    go : (b : Bool) → p y ≡ b → (if b then Some y else find p ys) ≡ Some z →
        (find p ys ≡ Some z → p z ≡ true) → p z ≡ true
    go true e c k = ap p (let s : z ≡ y = cc c in s) ∙ e
    go false e c k = k c

either_false : (a b : Bool) → (a || b) ≡ false → (a ≡ false) × (b ≡ false)
either_false true b h = absurd (cc h)
either_false false b h = (refl, h)

both_false : (a b : Bool) → a ≡ false → b ≡ false → (a || b) ≡ false
both_false a b h k = ap (λ (x : Bool). x || b) h ∙ k

absent_if : (b : Bool) (x : ℕ) (xs : List ℕ) (y : ℕ) → (x == y) ≡ false → has xs y ≡ false →
    has (if b then [] else x ∷ xs) y ≡ false
absent_if true x xs y h k = refl
absent_if false x xs y h k = both_false (x == y) (has xs y) h k

before_absent : (w : ℕ) (ks : List ℕ) (y : ℕ) → has ks y ≡ false → has (keys_before w ks) y ≡ false
before_absent w [] y h = refl
before_absent w (x ∷ xs) y h =
    let e = either_false (x == y) (has xs y) h in
    absent_if (x == w) x (keys_before w xs) y e.0 (before_absent w xs y e.1)

-- A turn in which the head k of the new list does not win. It moves to the end of the old list and gets x
-- quanta: 1 if its deficit was not above 0, else 0.
module _ (need need' : ℕ → ℕ) (ready : ℕ → Bool) (k x : ℕ) (new old : List ℕ) (d : IsOnce (old ++ k ∷ new))
    (others : (y : ℕ) → (k == y) ≡ false → need' y ≡ need y) (loses : ready k && (need k == 0) ≡ false)
    (round_ready : ready k ≡ true → need k ≡ 1 + need' k) (round_max : max 1 (need k) ≡ max 1 (1 + need' k))
    (gets : need k ≡ need' k + x) (gets_one : min 1 (need k) ≡ x)
    (gets_more : (n : ℕ) → min (n + 1) (need k) ≡ min (n + 0) (need' k) + x) where
  abbrev r : Rotation
  r = record { new = k ∷ new; old = old }

  abbrev r' : Rotation
  r' = record { new = new; old = old ++ k ∷ [] }

  abbrev extra : ℕ → ℕ
  extra y = if k == y then x else 0

  absent : has new k ≡ false
  absent = distinct_tail old k new d

  order : in_order r ≡ in_order r'
  order = sym (append_assoc old (k ∷ []) new)

  -- Proves a statement about y from the statement for k and for each other key.
  by_key : (P : ℕ → Type 0) (y : ℕ) → P k → ((k == y) ≡ false → P y) → P y
  by_key P y h o = by_bool (P y) (k == y) (λ e. subst P (eq_true k y e) h) o

  extra_k : extra k ≡ x
  extra_k = ap (λ (b : Bool). if b then x else 0) (eq_self k)

  extra_other : (y : ℕ) → (k == y) ≡ false → extra y ≡ 0
  extra_other y e = ap (λ (b : Bool). if b then x else 0) e

  new_other : (y : ℕ) → (k == y) ≡ false → has r.new y ≡ has r'.new y
  new_other y e = ap (λ (b : Bool). b || has new y) e

  new_k : has r.new k ≡ true
  new_k = in_head k new

  lists_other : (y : ℕ) → (k == y) ≡ false → has_key r y ≡ has_key r' y
  lists_other y e =
      ap (λ (b : Bool). b || has old y) (new_other y e)
      ∙ ap (λ (b : Bool). has new y || b) (sym (has_append old (k ∷ []) y
      ∙ ap (λ (b : Bool). has old y || (b || false)) e ∙ or_false (has old y)))

  lists_k : has_key r k ≡ true
  lists_k = ap (λ (b : Bool). b || has old k) new_k

  or_true : (b : Bool) → b || true ≡ true
  or_true true = refl
  or_true false = refl

  lists_k' : has_key r' k ≡ true
  lists_k' = ap (λ (b : Bool). b || has (old ++ k ∷ []) k) absent ∙ has_append old (k ∷ []) k
      ∙ ap (λ (b : Bool). has old k || (b || false)) (eq_self k) ∙ or_true (has old k)

  round_other : (y : ℕ) → (k == y) ≡ false → round need r y ≡ round need' r' y
  round_other y e =
      ap (λ (b : Bool). if b then need y else 1 + need y) (new_other y e)
      ∙ ap (λ (n : ℕ). if has new y then n else 1 + n) (sym (others y e))

  round_k : round need r k ≡ need k
  round_k = ap (λ (b : Bool). if b then need k else 1 + need k) new_k

  round_k' : round need' r' k ≡ 1 + need' k
  round_k' = ap (λ (b : Bool). if b then need' k else 1 + need' k) absent

  round_of_ready : (y : ℕ) → ready y ≡ true → round need r y ≡ round need' r' y
  round_of_ready y h = by_bool (round need r y ≡ round need' r' y) (k == y)
      (λ e. let s : k ≡ y = eq_true k y e in
      subst (λ (n : ℕ). round need r n ≡ round need' r' n) s
      (round_k ∙ round_ready (ap ready s ∙ h) ∙ sym round_k'))
      (round_other y)

  max_same : (y : ℕ) → max 1 (round need r y) ≡ max 1 (round need' r' y)
  max_same y = by_key (λ n. max 1 (round need r n) ≡ max 1 (round need' r' n)) y
      (ap (max 1) round_k ∙ round_max ∙ sym (ap (max 1) round_k')) (λ e. ap (max 1) (round_other y e))

  rotation_is : (a a' b b' : List ℕ) → a ≡ a' → b ≡ b' →
      (let p : Rotation = record { new = a; old = b } in p) ≡ record { new = a'; old = b' }
  rotation_is a a' b b' p q = λ i. record { new = p i; old = q i }

  -- The picks agree if w wins in round 0.
  now_same : (w : ℕ) → ready w && (need w == 0) ≡ true →
      Agrees (picked_now need r w) (picked_now need' r' w) extra
  now_same w h =
      let apart : (k == w) ≡ false = by_bool ((k == w) ≡ false) (k == w)
      (λ e. absurd (cc (ap (λ (n : ℕ). ready n && (need n == 0)) (eq_true k w e), h, loses))) (λ e. e) in
      let first : keys_before w (k ∷ new) ≡ k ∷ keys_before w new =
      ap (λ (b : Bool). if b then [] else k ∷ keys_before w new) apart in
      record {
        winner = refl;
        lists = rotation_is _ _ _ _ (ap (λ (b : Bool). if b then k ∷ new else keys_from w new) apart)
            (ap (λ (zs : List ℕ). old ++ zs) first ∙ sym (append_assoc old (k ∷ []) (keys_before w new)));
        quanta = λ y. by_key (λ n. (if has (keys_before w (k ∷ new)) n then min 1 (need n) else 0)
            ≡ (if has (keys_before w new) n then min 1 (need' n) else 0) + extra n) y
            (ap (λ (zs : List ℕ). if has zs k then min 1 (need k) else 0) first
            ∙ ap (λ (b : Bool). if b || has (keys_before w new) k then min 1 (need k) else 0) (eq_self k)
            ∙ gets_one
            ∙ omega (
              arith,
              extra_k,
              ap (λ (b : Bool). if b then min 1 (need' k) else 0)
                  (before_absent w new k absent),
            ))
            (λ e. ap (λ (zs : List ℕ). if has zs y then min 1 (need y) else 0) first
            ∙ ap (λ (b : Bool). if b || has (keys_before w new) y then min 1 (need y) else 0) e
            ∙ ap (λ (n : ℕ). if has (keys_before w new) y then min 1 n else 0) (sym (others y e))
            ∙ omega (arith, extra_other y e));
      }

  none_same : Agrees (none_ready need r) (none_ready need' r') extra
  none_same = record {
    winner = refl;
    lists = refl;
    quanta = λ y. by_key (λ n. (if has_key r n then need n else 0)
        ≡ (if has_key r' n then need' n else 0) + extra n) y
        (ap (λ (b : Bool). if b then need k else 0) lists_k
        ∙ omega (arith, gets, extra_k, ap (λ (b : Bool). if b then need' k else 0) lists_k'))
        (λ e. ap (λ (b : Bool). if b then need y else 0) (lists_other y e)
        ∙ ap (λ (n : ℕ). if has_key r' y then n else 0) (sym (others y e))
        ∙ omega (arith, extra_other y e));
  }

  module _ (w : ℕ) (ready_w : ready w ≡ true) where
    abbrev t : ℕ
    t = round need r w

    abbrev t' : ℕ
    t' = round need' r' w

    visit_same : t ≡ t'
    visit_same = round_of_ready w ready_w

    old_same : (y : ℕ) → old_visits r w t y ≡ old_visits r' w t' y
    old_same y =
        ap (λ (zs : List ℕ). if has (keys_before w zs) y then t else t - 1) order
        ∙ ap (λ (n : ℕ). if has (keys_before w (in_order r')) y then n else n - 1) visit_same

    out_same : (y : ℕ) → is_out need ready r w t y ≡ is_out need' ready r' w t' y
    out_same y =
        ap (λ (n : ℕ). not (ready y) && nat_le n (old_visits r w t y)) (max_same y)
        ∙ ap (λ (n : ℕ). not (ready y) && nat_le (max 1 (round need' r' y)) n) (old_same y)

    visits_other : (y : ℕ) → (k == y) ≡ false → all_visits r w t y ≡ all_visits r' w t' y
    visits_other y e =
        ap (λ (b : Bool). old_visits r w t y + (if b then 1 else 0)) (new_other y e)
        ∙ ap (λ (n : ℕ). n + (if has new y then 1 else 0)) (old_same y)

    visits_k : all_visits r w t k ≡ old_visits r w t k + 1
    visits_k = ap (λ (b : Bool). old_visits r w t k + (if b then 1 else 0)) new_k

    visits_k' : all_visits r' w t' k ≡ old_visits r w t k + 0
    visits_k' = ap (λ (b : Bool). old_visits r' w t' k + (if b then 1 else 0)) absent
        ∙ ap (λ (n : ℕ). n + 0) (sym (old_same k))

    later_same : Agrees (picked_later need ready r w t) (picked_later need' ready r' w t') extra
    later_same = record {
      winner = refl;
      lists = rotation_is _ _ _ _ refl
          (filter_same (λ y. not (is_out need ready r w t y)) (λ y. not (is_out need' ready r' w t' y)) _
          (λ y there. ap not (out_same y))
          ∙ ap (λ (zs : List ℕ). filter (λ y. not (is_out need' ready r' w t' y))
          (keys_from w zs ++ keys_before w zs)) order);
      quanta = λ y. by_key (λ n. (if n == w then need n
          else (if has_key r n then min (all_visits r w t n) (need n) else 0))
          ≡ (if n == w then need' n else (if has_key r' n then min (all_visits r' w t' n) (need' n) else 0)) +
          extra n) y
          (by_bool _ (k == w)
          (λ e. ap (λ (b : Bool). if b then need k else
          (if has_key r k then min (all_visits r w t k) (need k) else 0)) e
          ∙ omega (
            arith,
            gets,
            extra_k,
            ap (λ (b : Bool). if b then need' k
                else (if has_key r' k then min (all_visits r' w t' k) (need' k) else 0)) e,
          ))
          (λ e. ap (λ (b : Bool). if b then need k else
          (if has_key r k then min (all_visits r w t k) (need k) else 0)) e
          ∙ ap (λ (b : Bool). if b then min (all_visits r w t k) (need k) else 0) lists_k
          ∙ ap (λ (n : ℕ). min n (need k)) visits_k ∙ gets_more (old_visits r w t k)
          ∙ omega (
            arith,
            extra_k,
            ap (λ (b : Bool). if b then need' k
                else (if has_key r' k then min (all_visits r' w t' k) (need' k) else 0)) e
                ∙ ap (λ (b : Bool). if b then min (all_visits r' w t' k) (need' k) else 0) lists_k'
                ∙ ap (λ (n : ℕ). min n (need' k)) visits_k',
          )))
          (λ e. ap (λ (n : ℕ). if y == w then n else (if has_key r y then min (all_visits r w t y) n else 0))
          (sym (others y e))
          ∙ ap (λ (b : Bool). if y == w then need' y else (if b then min (all_visits r w t y)
          (need' y) else 0))
          (lists_other y e)
          ∙ ap (λ (n : ℕ). if y == w then need' y else (if has_key r' y then min n (need' y) else 0))
          (visits_other y e)
          ∙ omega (arith, extra_other y e));
    }

  member_other : (y : ℕ) → has new y ≡ true → (k == y) ≡ false
  member_other y h = by_bool ((k == y) ≡ false) (k == y)
      (λ e. absurd (cc (ap (has new) (eq_true k y e), h, absent))) (λ e. e)

  found_same : find (λ y. ready y && (need y == 0)) (k ∷ new) ≡ find (λ y. ready y && (need' y == 0)) new
  found_same =
      ap (λ (b : Bool). if b then Some k else find (λ y. ready y && (need y == 0)) new) loses
      ∙ find_same (λ y. ready y && (need y == 0)) (λ y. ready y && (need' y == 0)) new
      (λ y there. ap (λ (n : ℕ). ready y && (n == 0)) (sym (others y (member_other y there))))

  least_found : first_least (round need r) (filter ready (in_order r))
      ≡ first_least (round need' r') (filter ready (in_order r'))
  least_found =
      least_same (round need r) (round need' r') (filter ready (in_order r))
      (λ y there. round_of_ready y (filter_has ready (in_order r) y there).1)
      ∙ ap (λ (zs : List ℕ). first_least (round need' r') (filter ready zs)) order

  -- The picks before and after this turn agree.
  pub visit_of_new : Agrees (pick need ready r) (pick need' ready r') extra
  unfolding pick
  visit_of_new =
      subst (λ (o : Option ℕ). Agrees (pick_from need ready r o) (pick need' ready r') extra) (sym found_same)
      (from_found (find (λ y. ready y && (need' y == 0)) new) refl)
    where
      from_least : (o : Option ℕ) → first_least (round need' r') (filter ready (in_order r')) ≡ o →
          Agrees (pick_later need ready r o) (pick_later need' ready r' o) extra
      from_least None e = none_same
      from_least (Some w) e = later_same w (filter_has ready (in_order r') w
          (least_member (round need' r') (filter ready (in_order r')) w e)).1

      from_found : (o : Option ℕ) → find (λ y. ready y && (need' y == 0)) new ≡ o →
          Agrees (pick_from need ready r o) (pick_from need' ready r' o) extra
      from_found None e = subst (λ (o : Option ℕ). Agrees (pick_later need ready r o)
          (pick_later need' ready r' (first_least (round need' r') (filter ready (in_order r')))) extra)
          (sym least_found) (from_least _ refl)
      from_found (Some w) e = now_same w (found_passes (λ y. ready y && (need y == 0)) (k ∷ new) w
          (found_same ∙ e))

filter-append : (p : ℕ → Bool) (xs ys : List ℕ) → filter p (xs ++ ys) ≡ filter p xs ++ filter p ys
filter-append p [] ys = refl
filter-append p (x ∷ xs) ys = ap (λ (zs : List ℕ). if p x then x ∷ zs else zs) (filter-append p xs ys)
    ∙ go (p x)
  where
    go : (b : Bool) → (if b then x ∷ (filter p xs ++ filter p ys) else filter p xs ++ filter p ys)
        ≡ (if b then x ∷ filter p xs else filter p xs) ++ filter p ys
    go true = refl
    go false = refl

from_if : (b : Bool) (x : ℕ) (xs zs : List ℕ) (y : ℕ) → (x == y) ≡ false → has xs y ≡ false →
    has zs y ≡ false → has (if b then x ∷ xs else zs) y ≡ false
from_if true x xs zs y h k l = both_false (x == y) (has xs y) h k
from_if false x xs zs y h k l = l

from_absent : (w : ℕ) (ks : List ℕ) (y : ℕ) → has ks y ≡ false → has (keys_from w ks) y ≡ false
from_absent w [] y h = refl
from_absent w (x ∷ xs) y h =
    let e = either_false (x == y) (has xs y) h in
    from_if (x == w) x xs (keys_from w xs) y e.0 e.1 (from_absent w xs y e.1)

other_member : (k : ℕ) (ks : List ℕ) → has ks k ≡ false → (y : ℕ) → has ks y ≡ true → (k == y) ≡ false
other_member k ks absent y h = by_bool ((k == y) ≡ false) (k == y)
    (λ e. absurd (cc (ap (has ks) (eq_true k y e), h, absent))) (λ e. e)

-- A turn with an empty new list in which the head k of the old list is not ready and has a deficit above 0.
-- It leaves the rotation.
module _ (need : ℕ → ℕ) (ready : ℕ → Bool) (k : ℕ) (old : List ℕ) (d : IsOnce (k ∷ (old ++ [])))
    (loses : ready k ≡ false) (above : need k ≡ 0) where
  abbrev s : Rotation
  s = record { new = []; old = k ∷ old }

  abbrev s' : Rotation
  s' = record { new = []; old = old }

  abbrev m : List ℕ
  m = old ++ []

  out_absent : has old k ≡ false
  out_absent = ap (λ (zs : List ℕ). has zs k) (sym (append-nil old)) ∙ d.0

  out_filter : filter ready (k ∷ m) ≡ filter ready m
  out_filter = ap (λ (b : Bool). if b then k ∷ filter ready m else filter ready m) loses

  out_none : Agrees (none_ready need s) (none_ready need s') (λ y. 0)
  out_none = record {
    winner = refl;
    lists = refl;
    quanta = λ y. by_bool ((if has_key s y then need y else 0) ≡ (if has_key s' y then need y else 0) + 0)
        (k == y)
        (λ e. subst (λ (n : ℕ). (if has_key s n then need n else 0)
        ≡ (if has_key s' n then need n else 0) + 0) (eq_true k y e)
        (ap (λ (b : Bool). if b || has old k then need k else 0) (eq_self k)
        ∙ omega (arith, above, ap (λ (b : Bool). if b then need k else 0) out_absent)))
        (λ e. ap (λ (b : Bool). if b || has old y then need y else 0) e ∙ omega arith);
  }

  module _ (w : ℕ) (ready_w : ready w ≡ true) where
    abbrev u : ℕ
    u = 1 + need w

    out_apart : (k == w) ≡ false
    out_apart = by_bool ((k == w) ≡ false) (k == w)
        (λ e. absurd (cc (ap ready (eq_true k w e), ready_w, loses))) (λ e. e)

    out_before : keys_before w (k ∷ m) ≡ k ∷ keys_before w m
    out_before = ap (λ (b : Bool). if b then [] else k ∷ keys_before w m) out_apart

    out_from : keys_from w (k ∷ m) ≡ keys_from w m
    out_from = ap (λ (b : Bool). if b then k ∷ m else keys_from w m) out_apart

    out_visits_k : old_visits s w u k ≡ u
    out_visits_k = ap (λ (zs : List ℕ). if has zs k then u else u - 1) out_before
        ∙ ap (λ (b : Bool). if b || has (keys_before w m) k then u else u - 1) (eq_self k)

    out_visits : (y : ℕ) → (k == y) ≡ false → old_visits s w u y ≡ old_visits s' w u y
    out_visits y e = ap (λ (zs : List ℕ). if has zs y then u else u - 1) out_before
        ∙ ap (λ (b : Bool). if b || has (keys_before w m) y then u else u - 1) e

    abbrev keep : ℕ → Bool
    keep y = not (is_out need ready s w u y)

    abbrev keep' : ℕ → Bool
    keep' y = not (is_out need ready s' w u y)

    keep_k : keep k ≡ false
    keep_k =
        ap (λ (n : ℕ). not (not (ready k) && nat_le (max 1 (1 + need k)) n)) out_visits_k
        ∙ ap (λ (b : Bool). not (not b && nat_le (max 1 (1 + need k)) u)) loses
        ∙ ap (λ (n : ℕ). not (true && nat_le (max 1 (1 + n)) u)) above ∙ ap not (one_le (need w))
      where
        one_le : (n : ℕ) → nat_le (max 1 (1 + 0)) (1 + n) ≡ true
        one_le n = grind arith

    keep_other : (y : ℕ) → (k == y) ≡ false → keep y ≡ keep' y
    keep_other y e = ap (λ (n : ℕ). not (not (ready y) && nat_le (max 1 (1 + need y)) n)) (out_visits y e)

    out_ring : filter keep (keys_from w (k ∷ m) ++ keys_before w (k ∷ m))
        ≡ filter keep' (keys_from w m ++ keys_before w m)
    out_ring =
        ap (λ (zs : List ℕ). filter keep (zs ++ keys_before w (k ∷ m))) out_from
        ∙ ap (λ (zs : List ℕ). filter keep (keys_from w m ++ zs)) out_before
        ∙ filter-append keep (keys_from w m) (k ∷ keys_before w m)
        ∙ ap (λ (b : Bool). filter keep (keys_from w m)
        ++ (if b then k ∷ filter keep (keys_before w m) else filter keep (keys_before w m))) keep_k
        ∙ sym (filter-append keep (keys_from w m) (keys_before w m))
        ∙ filter_same keep keep' (keys_from w m ++ keys_before w m)
        (λ y there. keep_other y (other_member k (keys_from w m ++ keys_before w m) absent_ring y there))
      where
        absent_ring : has (keys_from w m ++ keys_before w m) k ≡ false
        absent_ring = has_append (keys_from w m) (keys_before w m) k
            ∙ both_false (has (keys_from w m) k) (has (keys_before w m) k) (from_absent w m k d.0)
            (before_absent w m k d.0)

    min_zero : (n : ℕ) → min n 0 ≡ 0
    min_zero n = omega arith

    out_later : Agrees (picked_later need ready s w u) (picked_later need ready s' w u) (λ y. 0)
    out_later = record {
      winner = refl;
      lists = λ i. record { new = []; old = out_ring i };
      quanta = λ y. by_bool ((if y == w then need y
          else (if has_key s y then min (all_visits s w u y) (need y) else 0))
          ≡ (if y == w then need y else (if has_key s' y then min (all_visits s' w u y) (need y) else 0)) + 0)
          (k == y)
          (λ e. subst (λ (n : ℕ). (if n == w then need n
          else (if has_key s n then min (all_visits s w u n) (need n) else 0))
          ≡ (if n == w then need n else (if has_key s' n then min (all_visits s' w u n) (need n) else 0)) + 0)
          (eq_true k y e)
          (ap (λ (b : Bool). if b then need k else (if has_key s k then min (all_visits s w u k)
          (need k) else 0))
          out_apart
          ∙ ap (λ (b : Bool). if b || has old k then min (all_visits s w u k) (need k) else 0) (eq_self k)
          ∙ ap (min (all_visits s w u k)) above ∙ min_zero (all_visits s w u k)
          ∙ omega (
            arith,
            ap (λ (b : Bool). if b then need k
                else (if has_key s' k then min (all_visits s' w u k) (need k) else 0)) out_apart
                ∙ ap (λ (b : Bool). if b then min (all_visits s' w u k) (need k) else 0) out_absent,
          )))
          (λ e. ap (λ (b : Bool). if y == w then need y
          else (if b || has old y then min (all_visits s w u y) (need y) else 0)) e
          ∙ ap (λ (n : ℕ). if y == w then need y else (if has old y then min (n + 0) (need y) else 0))
          (out_visits y e) ∙ omega arith);
    }

  -- The picks before and after this turn agree.
  pub visit_out : Agrees (pick need ready s) (pick need ready s') (λ y. 0)
  unfolding pick
  visit_out =
      subst (λ (o : Option ℕ). Agrees (pick_later need ready s o)
      (pick_later need ready s' (first_least (λ y. 1 + need y) (filter ready m))) (λ y. 0))
      (sym (ap (first_least (λ y. 1 + need y)) out_filter))
      (go (first_least (λ y. 1 + need y) (filter ready m)) refl)
    where
      go : (o : Option ℕ) → first_least (λ y. 1 + need y) (filter ready m) ≡ o →
          Agrees (pick_later need ready s o) (pick_later need ready s' o) (λ y. 0)
      go None e = out_none
      go (Some w) e = out_later w (filter_has ready m w
          (least_member (λ y. 1 + need y) (filter ready m) w e)).1

-- ---- the head of a list moves to its end, and its round falls by one

last_or : (ℕ → ℕ) → ℕ → Option ℕ → Option ℕ
last_or f k None = Some k
last_or f k (Some z) = if nat_le (f z) (f k) then Some z else Some k

-- Comparing y, z and k, in this order, gives the same from the left and from the right.
first_of_three : (f : ℕ → ℕ) (y z k : ℕ) (p q r : Bool) → nat_le (f y) (f z) ≡ p → nat_le (f z) (f k) ≡ q →
    nat_le (f y) (f k) ≡ r
    → first_of_two f y (if q then Some z else Some k) ≡ last_or f k (if p then Some y else Some z)
unfolding last_or
first_of_three f y z k true true r a b c =
    ap (λ (t : Bool). if t then Some y else Some z) a
    ∙ sym (ap (λ (t : Bool). if t then Some y else Some k) (through (f y) (f z) (f k) a b))
  where
    through : (a b c : ℕ) → nat_le a b ≡ true → nat_le b c ≡ true → nat_le a c ≡ true
    through a b c h k = grind arith
first_of_three f y z k false true r a b c = ap (λ (t : Bool). if t then Some y else Some z) a
    ∙ sym (ap (λ (t : Bool). if t then Some z else Some k) b)
first_of_three f y z k true false r a b c = refl
first_of_three f y z k false false r a b c =
    ap (λ (t : Bool). if t then Some y else Some k) (past (f y) (f z) (f k) a b)
    ∙ sym (ap (λ (t : Bool). if t then Some z else Some k) b)
  where
    past : (a b c : ℕ) → nat_le a b ≡ false → nat_le b c ≡ false → nat_le a c ≡ false
    past a b c h k = grind arith

first_of_two_last : (f : ℕ → ℕ) (y k : ℕ) (o : Option ℕ) →
    first_of_two f y (last_or f k o) ≡ last_or f k (first_of_two f y o)
unfolding last_or
first_of_two_last f y k None = refl
first_of_two_last f y k (Some z) = first_of_three f y z k (nat_le (f y) (f z)) (nat_le (f z) (f k))
    (nat_le (f y) (f k)) refl refl refl

least_append : (f : ℕ → ℕ) (ys : List ℕ) (k : ℕ) →
    first_least f (ys ++ k ∷ []) ≡ last_or f k (first_least f ys)
unfolding last_or
least_append f [] k = refl
least_append f (y ∷ ys) k = ap (first_of_two f y) (least_append f ys k)
    ∙ first_of_two_last f y k (first_least f ys)

-- Comparing k first, with round 1 + g k, gives the same as comparing it last, with round g k.
moved_back : (f g : ℕ → ℕ) (k : ℕ) (o : Option ℕ) → f k ≡ 1 + g k → ((z : ℕ) → o ≡ Some z → f z ≡ g z) →
    first_of_two f k o ≡ last_or g k o
unfolding last_or
moved_back f g k None h e = refl
moved_back f g k (Some z) h e =
    ap (λ (t : Bool). if t then Some k else Some z) (other_way (f k) (f z) (g k) (g z) h (e z refl))
    ∙ flip (nat_le (g z) (g k))
  where
    other_way : (a b c d : ℕ) → a ≡ 1 + c → b ≡ d → nat_le a b ≡ not (nat_le d c)
    other_way a b c d h k = go (nat_le d c) refl
      where
        go : (t : Bool) → nat_le d c ≡ t → nat_le a b ≡ not t
        go true e = grind arith
        go false e = grind arith

    flip : (t : Bool) → (if not t then Some k else Some z) ≡ (if t then Some z else Some k)
    flip true = refl
    flip false = refl

rotated_least : (f g : ℕ → ℕ) (k : ℕ) (ys : List ℕ) → f k ≡ 1 + g k →
    ((z : ℕ) → has ys z ≡ true → f z ≡ g z) → first_least f (k ∷ ys) ≡ first_least g (ys ++ k ∷ [])
rotated_least f g k ys h e =
    moved_back f g k (first_least f ys) h (λ z s. e z (least_member f ys z s))
    ∙ ap (last_or g k) (least_same f g ys e) ∙ sym (least_append g ys k)

before_front : (w : ℕ) (xs zs : List ℕ) → has xs w ≡ true → (keys_before w (xs ++ zs) ≡ keys_before w xs) ×
    (keys_from w (xs ++ zs) ≡ keys_from w xs ++ zs)
before_front w [] zs h = absurd (cc h)
before_front w (x ∷ xs) zs h = go (x == w) h (before_front w xs zs)
  where
    go : (b : Bool) → (b || has xs w) ≡ true → (has xs w ≡ true →
        (keys_before w (xs ++ zs) ≡ keys_before w xs) × (keys_from w (xs ++ zs) ≡ keys_from w xs ++ zs))
        → ((if b then [] else x ∷ keys_before w (xs ++ zs)) ≡ (if b then [] else x ∷ keys_before w xs)) ×
        ((if b then x ∷ (xs ++ zs) else keys_from w (xs ++ zs)) ≡ (if b then x ∷ xs else keys_from w xs)
        ++ zs)
    go true h f = (refl, refl)
    go false h f = (ap (λ (ys : List ℕ). x ∷ ys) (f h).0, (f h).1)

before_last : (k : ℕ) (xs : List ℕ) → has xs k ≡ false → (keys_before k (xs ++ k ∷ []) ≡ xs) ×
    (keys_from k (xs ++ k ∷ []) ≡ k ∷ [])
before_last k [] h = (
  ap (λ (b : Bool). if b then [] else k ∷ []) (eq_self k),
  ap (λ (b : Bool). if b then k ∷ [] else []) (eq_self k),
)
before_last k (x ∷ xs) h =
    let e = either_false (x == k) (has xs k) h in (
      ap (λ (b : Bool). if b then [] else x ∷ keys_before k (xs ++ k ∷ [])) e.0
          ∙ ap (λ (ys : List ℕ). x ∷ ys) (before_last k xs e.1).0,
      ap (λ (b : Bool). if b then x ∷ (xs ++ k ∷ []) else keys_from k (xs ++ k ∷ [])) e.0
          ∙ (before_last k xs e.1).1,
    )

one_self : (k : ℕ) → one_for k k ≡ 1
one_self k = let P : Bool → ℕ = λ b. if b then 1 else 0 in ap P (eq_self k)

one_other : (k y : ℕ) → (k == y) ≡ false → one_for k y ≡ 0
one_other k y e = let P : Bool → ℕ = λ b. if b then 1 else 0 in ap P e

-- A turn with an empty new list in which the head k of the old list has a deficit that is not above 0. It
-- gets one quantum and moves to the end of the old list.
module _ (need need' : ℕ → ℕ) (ready : ℕ → Bool) (k : ℕ) (old : List ℕ) (d : IsOnce (k ∷ (old ++ [])))
    (others : (y : ℕ) → (k == y) ≡ false → need' y ≡ need y) (gets : need k ≡ 1 + need' k) where
  abbrev v : Rotation
  v = record { new = []; old = k ∷ old }

  abbrev v' : Rotation
  v' = record { new = []; old = old ++ k ∷ [] }

  back_absent : has old k ≡ false
  back_absent = ap (λ (zs : List ℕ). has zs k) (sym (append-nil old)) ∙ d.0

  order_v : in_order v ≡ k ∷ old
  order_v = ap (λ (zs : List ℕ). k ∷ zs) (append-nil old)

  order_v' : in_order v' ≡ old ++ k ∷ []
  order_v' = append-nil (old ++ k ∷ [])

  back_lists : (y : ℕ) → has_key v y ≡ has_key v' y
  back_lists y = flip (k == y) (has old y) ∙ sym (has_append old (k ∷ []) y)
    where
      flip : (a b : Bool) → (a || b) ≡ (b || (a || false))
      flip true true = refl
      flip true false = refl
      flip false true = refl
      flip false false = refl

  back_lists_k : has_key v k ≡ true
  back_lists_k = in_head k old

  back_none : Agrees (none_ready need v) (none_ready need' v') (one_for k)
  back_none = record {
    winner = refl;
    lists = refl;
    quanta = λ y. by_bool ((if has_key v y then need y else 0)
        ≡ (if has_key v' y then need' y else 0) + one_for k y) (k == y)
        (λ e. subst (λ (n : ℕ). (if has_key v n then need n else 0)
        ≡ (if has_key v' n then need' n else 0) + one_for k n) (eq_true k y e)
        (ap (λ (b : Bool). if b then need k else 0) back_lists_k
        ∙ omega (
          arith,
          gets,
          one_self k,
          ap (λ (b : Bool). if b then need' k else 0)
              (sym (back_lists k) ∙ back_lists_k),
        )))
        (λ e. ap (λ (b : Bool). if b then need y else 0) (back_lists y)
        ∙ ap (λ (n : ℕ). if has_key v' y then n else 0) (sym (others y e))
        ∙ omega (arith, one_other k y e));
  }

  -- Another key wins the pick.
  module _ (w : ℕ) (apart : (k == w) ≡ false) (there : has old w ≡ true) where
    abbrev g : ℕ
    g = 1 + need w

    abbrev g' : ℕ
    g' = 1 + need' w

    g_same : g ≡ g'
    g_same = ap (λ (n : ℕ). 1 + n) (sym (others w apart))

    before_v : keys_before w (in_order v) ≡ k ∷ keys_before w old
    before_v = ap (keys_before w) order_v ∙ ap (λ (b : Bool). if b then [] else k ∷ keys_before w old) apart

    from_v : keys_from w (in_order v) ≡ keys_from w old
    from_v = ap (keys_from w) order_v ∙ ap (λ (b : Bool). if b then k ∷ old else keys_from w old) apart

    before_v' : keys_before w (in_order v') ≡ keys_before w old
    before_v' = ap (keys_before w) order_v' ∙ (before_front w old (k ∷ []) there).0

    from_v' : keys_from w (in_order v') ≡ keys_from w old ++ k ∷ []
    from_v' = ap (keys_from w) order_v' ∙ (before_front w old (k ∷ []) there).1

    visits_v : old_visits v w g k ≡ g
    visits_v = ap (λ (zs : List ℕ). if has zs k then g else g - 1) before_v
        ∙ ap (λ (b : Bool). if b || has (keys_before w old) k then g else g - 1) (eq_self k)

    visits_v' : old_visits v' w g' k ≡ g - 1
    visits_v' =
        ap (λ (zs : List ℕ). if has zs k then g' else g' - 1) before_v'
        ∙ ap (λ (b : Bool). if b then g' else g' - 1) (before_absent w old k back_absent)
        ∙ ap (λ (n : ℕ). n - 1) (sym g_same)

    visits_same : (y : ℕ) → (k == y) ≡ false → old_visits v w g y ≡ old_visits v' w g' y
    visits_same y e =
        ap (λ (zs : List ℕ). if has zs y then g else g - 1) before_v
        ∙ ap (λ (b : Bool). if b || has (keys_before w old) y then g else g - 1) e
        ∙ ap (λ (n : ℕ). if has (keys_before w old) y then n else n - 1) g_same
        ∙ sym (ap (λ (zs : List ℕ). if has zs y then g' else g' - 1) before_v')

    shift : (a b n : ℕ) → a ≡ 1 + b → nat_le (max 1 (1 + a)) (1 + n) ≡ nat_le (max 1 (1 + b)) (1 + n - 1)
    shift a b n e = go (nat_le (max 1 (1 + a)) (1 + n)) refl
      where
        go : (t : Bool) → nat_le (max 1 (1 + a)) (1 + n) ≡ t →
            nat_le (max 1 (1 + a)) (1 + n) ≡ nat_le (max 1 (1 + b)) (1 + n - 1)
        go true h = grind arith
        go false h = grind arith

    keeps_same : (y : ℕ) → not (is_out need ready v w g y) ≡ not (is_out need' ready v' w g' y)
    keeps_same y = by_bool (not (is_out need ready v w g y) ≡ not (is_out need' ready v' w g' y)) (k == y)
        (λ e. subst (λ (n : ℕ). not (is_out need ready v w g n) ≡ not (is_out need' ready v' w g' n))
        (eq_true k y e)
        (ap (λ (n : ℕ). not (not (ready k) && nat_le (max 1 (1 + need k)) n)) visits_v
        ∙ ap (λ (b : Bool). not (not (ready k) && b)) (shift (need k) (need' k) (need w) gets)
        ∙ sym (ap (λ (n : ℕ). not (not (ready k) && nat_le (max 1 (1 + need' k)) n)) visits_v')))
        (λ e. ap (λ (n : ℕ). not (not (ready y) && nat_le (max 1 (1 + n)) (old_visits v w g y)))
        (sym (others y e))
        ∙ ap (λ (n : ℕ). not (not (ready y) && nat_le (max 1 (1 + need' y)) n)) (visits_same y e))

    ring_same : filter (λ y. not (is_out need ready v w g y))
        (keys_from w (in_order v) ++ keys_before w (in_order v))
        ≡ filter (λ y. not (is_out need' ready v' w g' y))
        (keys_from w (in_order v') ++ keys_before w (in_order v'))
    ring_same =
        filter_same (λ y. not (is_out need ready v w g y)) (λ y. not (is_out need' ready v' w g' y)) _
        (λ y h. keeps_same y)
        ∙ ap (filter (λ y. not (is_out need' ready v' w g' y)))
        (ap (λ (zs : List ℕ). zs ++ keys_before w (in_order v)) from_v
        ∙ ap (λ (zs : List ℕ). keys_from w old ++ zs) before_v
        ∙ sym (append_assoc (keys_from w old) (k ∷ []) (keys_before w old))
        ∙ sym (ap (λ (zs : List ℕ). zs ++ keys_before w (in_order v')) from_v'
        ∙ ap (λ (zs : List ℕ). (keys_from w old ++ k ∷ []) ++ zs) before_v'))

    more_min : (a b n : ℕ) → a ≡ 1 + b → min (1 + n + 0) a ≡ min (1 + n - 1 + 0) b + 1
    more_min a b n e = omega arith

    back_other : Agrees (picked_later need ready v w g) (picked_later need' ready v' w g') (one_for k)
    back_other = record {
      winner = refl;
      lists = λ i. record { new = []; old = ring_same i };
      quanta = λ y. by_bool ((if y == w then need y
          else (if has_key v y then min (all_visits v w g y) (need y) else 0))
          ≡ (if y == w then need' y else (if has_key v' y then min (all_visits v' w g' y) (need' y) else 0)) +
          one_for k y) (k == y)
          (λ e. subst (λ (n : ℕ). (if n == w then need n
          else (if has_key v n then min (all_visits v w g n) (need n) else 0))
          ≡ (if n == w then need' n else (if has_key v' n then min (all_visits v' w g' n) (need' n) else 0)) +
          one_for k n) (eq_true k y e)
          (ap (λ (b : Bool). if b then need k else (if has_key v k then min (all_visits v w g k)
          (need k) else 0))
          apart
          ∙ ap (λ (b : Bool). if b then min (all_visits v w g k) (need k) else 0) back_lists_k
          ∙ ap (λ (n : ℕ). min (n + 0) (need k)) visits_v ∙ more_min (need k) (need' k) (need w) gets
          ∙ omega (
            arith,
            one_self k,
            ap (λ (b : Bool). if b then need' k else (if has_key v' k then min (all_visits v' w g' k)
                (need' k)
                else 0)) apart
                ∙ ap (λ (b : Bool). if b then min (all_visits v' w g' k) (need' k) else 0)
                (sym (back_lists k) ∙ back_lists_k) ∙ ap (λ (n : ℕ). min (n + 0) (need' k)) visits_v',
          )))
          (λ e. ap (λ (n : ℕ). if y == w then n else (if has_key v y then min (all_visits v w g y) n else 0))
          (sym (others y e))
          ∙ ap (λ (b : Bool). if y == w then need' y else (if b then min (all_visits v w g y)
          (need' y) else 0))
          (back_lists y)
          ∙ ap (λ (n : ℕ). if y == w then need' y else (if has_key v' y then min (n + 0) (need' y) else 0))
          (visits_same y e)
          ∙ omega (arith, one_other k y e));
    }

  -- Key k wins the pick.
  module _ (ready_k : ready k ≡ true) where
    abbrev h : ℕ
    h = 1 + need k

    abbrev h' : ℕ
    h' = 1 + need' k

    self_before : keys_before k (in_order v) ≡ []
    self_before = ap (λ (b : Bool). if b then [] else k ∷ keys_before k (old ++ [])) (eq_self k)

    self_from : keys_from k (in_order v) ≡ k ∷ old
    self_from = ap (λ (b : Bool). if b then k ∷ (old ++ []) else keys_from k (old ++ [])) (eq_self k)
        ∙ order_v

    self_before' : keys_before k (in_order v') ≡ old
    self_before' = ap (keys_before k) order_v' ∙ (before_last k old back_absent).0

    self_from' : keys_from k (in_order v') ≡ k ∷ []
    self_from' = ap (keys_from k) order_v' ∙ (before_last k old back_absent).1

    self_visits : (y : ℕ) → old_visits v k h y ≡ h - 1
    self_visits y = ap (λ (zs : List ℕ). if has zs y then h else h - 1) self_before

    self_visits' : (y : ℕ) → has old y ≡ true → old_visits v' k h' y ≡ h'
    self_visits' y there = ap (λ (zs : List ℕ). if has zs y then h' else h' - 1) self_before'
        ∙ ap (λ (b : Bool). if b then h' else h' - 1) there

    self_same : (y : ℕ) → has old y ≡ true → old_visits v k h y ≡ old_visits v' k h' y
    self_same y there = self_visits y ∙ omega (arith, gets, self_visits' y there)

    self_keeps : (y : ℕ) → has (k ∷ old) y ≡ true →
        not (is_out need ready v k h y) ≡ not (is_out need' ready v' k h' y)
    self_keeps y there = by_bool (not (is_out need ready v k h y) ≡ not (is_out need' ready v' k h' y))
        (k == y)
        (λ e. subst (λ (n : ℕ). not (is_out need ready v k h n) ≡ not (is_out need' ready v' k h' n))
        (eq_true k y e)
        (ap (λ (b : Bool). not (not b && nat_le (max 1 (1 + need k)) (old_visits v k h k))) ready_k
        ∙ sym (ap (λ (b : Bool). not (not b && nat_le (max 1 (1 + need' k)) (old_visits v' k h' k)))
        ready_k)))
        (λ e. ap (λ (n : ℕ). not (not (ready y) && nat_le (max 1 (1 + n)) (old_visits v k h y)))
        (sym (others y e))
        ∙ ap (λ (n : ℕ). not (not (ready y) && nat_le (max 1 (1 + need' y)) n))
        (self_same y (ap (λ (b : Bool). b || has old y) (sym e) ∙ there)))

    self_ring : filter (λ y. not (is_out need ready v k h y))
        (keys_from k (in_order v) ++ keys_before k (in_order v))
        ≡ filter (λ y. not (is_out need' ready v' k h' y))
        (keys_from k (in_order v') ++ keys_before k (in_order v'))
    self_ring =
        ap (filter (λ y. not (is_out need ready v k h y)))
        (ap (λ (zs : List ℕ). zs ++ keys_before k (in_order v)) self_from
        ∙ ap (λ (zs : List ℕ). (k ∷ old) ++ zs) self_before ∙ append-nil (k ∷ old))
        ∙ filter_same (λ y. not (is_out need ready v k h y)) (λ y. not (is_out need' ready v' k h' y))
        (k ∷ old) self_keeps
        ∙ ap (filter (λ y. not (is_out need' ready v' k h' y)))
        (sym (ap (λ (zs : List ℕ). zs ++ keys_before k (in_order v')) self_from'
        ∙ ap (λ (zs : List ℕ). (k ∷ []) ++ zs) self_before'))

    swapped : (y : ℕ) → (k == y) ≡ false → (y == k) ≡ false
    swapped y e = by_bool ((y == k) ≡ false) (y == k)
        (λ t. absurd (cc (sym (eq_self k) ∙ ap (λ (n : ℕ). k == n) (sym (eq_true y k t)) ∙ e))) (λ t. t)

    self_paid : (y : ℕ) → (k == y) ≡ false → (if has_key v y then min (all_visits v k h y) (need y) else 0)
        ≡ (if has_key v' y then min (all_visits v' k h' y) (need' y) else 0)
    self_paid y e =
        by_bool ((if has_key v y then min (all_visits v k h y) (need y) else 0)
        ≡ (if has_key v' y then min (all_visits v' k h' y) (need' y) else 0)) (has old y)
        (λ there.
        ap (λ (n : ℕ). if has_key v y then min (all_visits v k h y) n else 0) (sym (others y e))
        ∙ ap (λ (b : Bool). if b then min (all_visits v k h y) (need' y) else 0) (back_lists y)
        ∙ ap (λ (n : ℕ). if has_key v' y then min (n + 0) (need' y) else 0) (self_same y there))
        (λ absent.
        let out : has_key v y ≡ false = both_false (k == y) (has old y) e absent in
        ap (λ (b : Bool). if b then min (all_visits v k h y) (need y) else 0) out
        ∙ sym (ap (λ (b : Bool). if b then min (all_visits v' k h' y) (need' y) else 0)
        (sym (back_lists y) ∙ out)))

    back_self : Agrees (picked_later need ready v k h) (picked_later need' ready v' k h') (one_for k)
    back_self = record {
      winner = refl;
      lists = λ i. record { new = []; old = self_ring i };
      quanta = λ y. by_bool ((if y == k then need y
          else (if has_key v y then min (all_visits v k h y) (need y) else 0))
          ≡ (if y == k then need' y else (if has_key v' y then min (all_visits v' k h' y) (need' y) else 0)) +
          one_for k y) (k == y)
          (λ e. subst (λ (n : ℕ). (if n == k then need n
          else (if has_key v n then min (all_visits v k h n) (need n) else 0))
          ≡ (if n == k then need' n else (if has_key v' n then min (all_visits v' k h' n) (need' n) else 0)) +
          one_for k n) (eq_true k y e)
          (ap (λ (b : Bool). if b then need k else (if has_key v k then min (all_visits v k h k)
          (need k) else 0))
          (eq_self k)
          ∙ omega (
            arith,
            gets,
            one_self k,
            ap (λ (b : Bool). if b then need' k
                else (if has_key v' k then min (all_visits v' k h' k) (need' k) else 0)) (eq_self k),
          )))
          (λ e. ap (λ (b : Bool). if b then need y else
          (if has_key v y then min (all_visits v k h y) (need y) else 0)) (swapped y e) ∙ self_paid y e
          ∙ omega (
            arith,
            one_other k y e,
            ap (λ (b : Bool). if b then need' y
                else (if has_key v' y then min (all_visits v' k h' y) (need' y) else 0)) (swapped y e),
          ));
    }

  back_later : (w : ℕ) → has (k ∷ old) w ≡ true → ready w ≡ true →
      Agrees (picked_later need ready v w (1 + need w)) (picked_later need' ready v' w (1 + need' w))
      (one_for k)
  back_later w there ready_w = by_bool (Agrees (picked_later need ready v w (1 + need w))
      (picked_later need' ready v' w (1 + need' w)) (one_for k)) (k == w)
      (λ e. let same : k ≡ w = eq_true k w e in
      subst (λ (n : ℕ). Agrees (picked_later need ready v n (1 + need n))
      (picked_later need' ready v' n (1 + need' n)) (one_for k)) same
      (back_self (ap ready same ∙ ready_w)))
      (λ e. back_other w e (ap (λ (b : Bool). b || has old w) (sym e) ∙ there))

  least_visited : first_least (λ y. 1 + need y) (filter ready (in_order v))
      ≡ first_least (λ y. 1 + need' y) (filter ready (in_order v'))
  least_visited =
      ap (λ (zs : List ℕ). first_least (λ y. 1 + need y) (filter ready zs)) order_v
      ∙ by_bool _ (ready k) is_ready not_ready
      ∙ sym (ap (λ (zs : List ℕ). first_least (λ y. 1 + need' y) (filter ready zs)) order_v'
      ∙ ap (first_least (λ y. 1 + need' y)) (filter-append ready old (k ∷ [])))
    where
      agree : (z : ℕ) → has (filter ready old) z ≡ true → 1 + need z ≡ 1 + need' z
      agree z h = ap (λ (n : ℕ). 1 + n) (sym (others z
          (other_member k old back_absent z (filter_has ready old z h).0)))

      is_ready : ready k ≡ true → first_least (λ y. 1 + need y) (filter ready (k ∷ old))
          ≡ first_least (λ y. 1 + need' y) (filter ready old ++ filter ready (k ∷ []))
      is_ready e =
          ap (λ (b : Bool). first_least (λ y. 1 + need y)
          (if b then k ∷ filter ready old else filter ready old)) e
          ∙ rotated_least (λ y. 1 + need y) (λ y. 1 + need' y) k (filter ready old)
          (ap (λ (n : ℕ). 1 + n) gets) agree
          ∙ sym (ap (λ (b : Bool). first_least (λ y. 1 + need' y)
          (filter ready old ++ (if b then k ∷ [] else []))) e)

      not_ready : ready k ≡ false → first_least (λ y. 1 + need y) (filter ready (k ∷ old))
          ≡ first_least (λ y. 1 + need' y) (filter ready old ++ filter ready (k ∷ []))
      not_ready e =
          ap (λ (b : Bool). first_least (λ y. 1 + need y)
          (if b then k ∷ filter ready old else filter ready old)) e
          ∙ least_same (λ y. 1 + need y) (λ y. 1 + need' y) (filter ready old) agree
          ∙ sym (ap (λ (b : Bool). first_least (λ y. 1 + need' y)
          (filter ready old ++ (if b then k ∷ [] else []))) e
          ∙ ap (first_least (λ y. 1 + need' y)) (append-nil (filter ready old)))

  -- The picks before and after this turn agree, except for that quantum.
  pub visit_back : Agrees (pick need ready v) (pick need' ready v') (one_for k)
  unfolding pick
  visit_back =
      subst (λ (o : Option ℕ). Agrees (pick_later need ready v o)
      (pick_later need' ready v' (first_least (λ y. 1 + need' y) (filter ready (in_order v'))))
      (one_for k)) (sym least_visited) (go (first_least (λ y. 1 + need' y) (filter ready (in_order v')))
      least_visited)
    where
      go : (o : Option ℕ) → first_least (λ y. 1 + need y) (filter ready (in_order v)) ≡ o →
          Agrees (pick_later need ready v o) (pick_later need' ready v' o) (one_for k)
      go None e = back_none
      go (Some w) e =
          let member = filter_has ready (in_order v) w (least_member (λ y. 1 + need y)
          (filter ready (in_order v)) w e) in
          back_later w (ap (λ (zs : List ℕ). has zs w) (sym order_v) ∙ member.0) member.1

-- ---- the turns of the loop

-- The head of the new list has a deficit that is not above 0: it gets one quantum and moves to the end of
-- the old list.
pub new_gets : (need need' : ℕ → ℕ) (ready : ℕ → Bool) (k : ℕ) (new old : List ℕ) → IsOnce (old ++ k ∷ new) →
    ((y : ℕ) → (k == y) ≡ false → need' y ≡ need y) → need k ≡ 1 + need' k
    → Agrees (pick need ready (record { new = k ∷ new; old = old }))
    (pick need' ready (record { new = new; old = old ++ k ∷ [] })) (one_for k)
new_gets need need' ready k new old d others gets =
    visit_of_new need need' ready k 1 new old d others (loses (ready k) (need k) (need' k) gets) (λ _. gets)
    (ap (max 1) gets) (omega (arith, gets)) (omega (arith, gets)) (λ n. omega (arith, gets))
  where
    loses : (b : Bool) (n n' : ℕ) → n ≡ 1 + n' → b && (n == 0) ≡ false
    loses true n n' e = grind arith
    loses false n n' e = refl

-- The head of the new list is not ready, and its deficit is above 0: it moves to the end of the old list.
pub new_idle : (need : ℕ → ℕ) (ready : ℕ → Bool) (k : ℕ) (new old : List ℕ) → IsOnce (old ++ k ∷ new) →
    need k ≡ 0 → ready k ≡ false
    → Agrees (pick need ready (record { new = k ∷ new; old = old }))
    (pick need ready (record { new = new; old = old ++ k ∷ [] })) (λ y. if k == y then 0 else 0)
new_idle need ready k new old d above idle =
    visit_of_new need need ready k 0 new old d (λ y e. refl) (ap (λ (b : Bool). b && (need k == 0)) idle)
    (λ h. absurd (cc (h, idle))) (omega (arith, above)) (omega (arith, above)) (omega (arith, above))
    (λ n. omega (arith, above))

-- The head of the new list is ready, and its deficit is above 0: it wins, and nothing changes.
pub new_wins : (need : ℕ → ℕ) (ready : ℕ → Bool) (k : ℕ) (new old : List ℕ) → need k ≡ 0 → ready k ≡ true
    → Agrees (pick need ready (record { new = k ∷ new; old = old }))
    (record { winner = Some k; lists = record { new = k ∷ new; old = old }; quanta = λ y. 0 }) (λ y. 0)
unfolding pick
new_wins need ready k new old above is_ready =
    subst (λ (o : Option ℕ). Agrees (pick_from need ready (record { new = k ∷ new; old = old }) o)
    (record { winner = Some k; lists = record { new = k ∷ new; old = old }; quanta = λ y. 0 }) (λ y. 0))
    (sym found)
    (record {
      winner = refl;
      lists = λ i. record {
        new = ap (λ (b : Bool). if b then k ∷ new else keys_from k new) (eq_self k) i;
        old = (ap (λ (b : Bool). old ++ (if b then [] else k ∷ keys_before k new)) (eq_self k)
            ∙ append-nil old) i;
      };
      quanta = λ y. ap (λ (b : Bool). if has (if b then [] else k ∷ keys_before k new) y then min 1 (need y)
          else 0) (eq_self k);
    })
  where
    found : find (λ y. ready y && (need y == 0)) (k ∷ new) ≡ Some k
    found =
        ap (λ (n : ℕ). if ready k && (n == 0) then Some k else find (λ y. ready y && (need y == 0)) new) above
        ∙ ap (λ (b : Bool). if b && (0 == 0) then Some k else find (λ y. ready y && (need y == 0)) new)
        is_ready

-- The same for the head of the old list, if the new list is empty.
pub old_wins : (need : ℕ → ℕ) (ready : ℕ → Bool) (k : ℕ) (old : List ℕ) → need k ≡ 0 → ready k ≡ true
    → Agrees (pick need ready (record { new = []; old = k ∷ old }))
    (record { winner = Some k; lists = record { new = []; old = k ∷ old }; quanta = λ y. 0 }) (λ y. 0)
unfolding pick
old_wins need ready k old above is_ready =
    subst (λ (o : Option ℕ). Agrees (pick_later need ready p o) q (λ y. 0)) (sym least)
    (record {
      winner = refl;
      lists = λ i. record { new = []; old = ring i };
      quanta = λ y. by_bool ((if y == k then need y
          else (if has_key p y then min (all_visits p k (1 + need k) y) (need y) else 0)) ≡ 0 + 0) (y == k)
          (λ e. ap (λ (b : Bool). if b then need y else
          (if has_key p y then min (all_visits p k (1 + need k) y) (need y) else 0)) e
          ∙ ap need (eq_true y k e) ∙ omega (arith, above))
          (λ e. ap (λ (b : Bool). if b then need y else
          (if has_key p y then min (all_visits p k (1 + need k) y) (need y) else 0)) e
          ∙ zero_if (has_key p y) (need y) (all_visits p k (1 + need k) y) (omega (arith, no_visits y)));
    })
  where
    p : Rotation
    p = record { new = []; old = k ∷ old }

    q : Picked
    q = record { winner = Some k; lists = record { new = []; old = k ∷ old }; quanta = λ y. 0 }

    first : (o : Option ℕ) → first_of_two (λ y. 1 + need y) k o ≡ Some k
    first None = refl
    first (Some z) = ap (λ (b : Bool). if b then Some k else Some z) (low (need k) (need z) above)
      where
        low : (a b : ℕ) → a ≡ 0 → nat_le (1 + a) (1 + b) ≡ true
        low a b e = grind arith

    least : first_least (λ y. 1 + need y) (filter ready (k ∷ (old ++ []))) ≡ Some k
    least = ap (λ (b : Bool). first_least (λ y. 1 + need y)
        (if b then k ∷ filter ready (old ++ []) else filter ready (old ++ []))) is_ready
        ∙ first (first_least (λ y. 1 + need y) (filter ready (old ++ [])))

    no_visits : (y : ℕ) → old_visits p k (1 + need k) y ≡ 0
    no_visits y = ap (λ (b : Bool). if has (if b then [] else k ∷ keys_before k (old ++ [])) y then 1 + need k
        else 1 + need k - 1) (eq_self k) ∙ omega (arith, above)

    zero_if : (b : Bool) (n m : ℕ) → m ≡ 0 → (if b then min m n else 0) ≡ 0 + 0
    zero_if true n m e = omega (arith, e)
    zero_if false n m e = omega arith

    kept : (y : ℕ) → not (is_out need ready p k (1 + need k) y) ≡ true
    kept y = ap (λ (n : ℕ). not (not (ready y) && nat_le (max 1 (1 + need y)) n)) (no_visits y)
        ∙ stays (ready y) (need y)
      where
        stays : (b : Bool) (n : ℕ) → not (not b && nat_le (max 1 (1 + n)) 0) ≡ true
        stays true n = refl
        stays false n = grind arith

    all_kept : (ks : List ℕ) → filter (λ y. true) ks ≡ ks
    all_kept [] = refl
    all_kept (x ∷ xs) = ap (λ (zs : List ℕ). x ∷ zs) (all_kept xs)

    ring : filter (λ y. not (is_out need ready p k (1 + need k) y))
        (keys_from k (k ∷ (old ++ [])) ++ keys_before k (k ∷ (old ++ []))) ≡ k ∷ old
    ring =
        filter_same (λ y. not (is_out need ready p k (1 + need k) y)) (λ y. true) _ (λ y h. kept y)
        ∙ all_kept _
        ∙ ap (λ (b : Bool). (if b then k ∷ (old ++ []) else keys_from k (old ++ []))
        ++ (if b then [] else k ∷ keys_before k (old ++ []))) (eq_self k)
        ∙ append-nil (k ∷ (old ++ [])) ∙ ap (λ (zs : List ℕ). k ∷ zs) (append-nil old)
