-- A pass leaves the rotation as the pick does, for each course of the pass.
use Rattle.std.proofs.Common.{◌≡◌, ℕ, ◌+◌, ◌-◌, ◌*◌, ◌<◌, ◌≤◌, min, max, Bool, true, false, cond, ltb, leb, eqb, not, ◌||◌, ◌&&◌, List, [], ◌∷◌, ◌++◌, length, get_or, take, drop, set, Some, None, refl, sym, ap, ◌∙◌, subst, inl, inr, arith, length-append, eq-eqb}
use Rattle.std.specs.Prelude.{ℤ, pos, ◌+ℤ◌}
use Rattle.std.specs.List.{filter}
use Rattle.std.proofs.lemmas.List.{append-nil, take_all, drop_all, get_or_append_left, get_or-append_right, get_or-set_same, set-set}
use Rattle.std.proofs.lemmas.List.Elements.{filter-append}
use Rattle.std.proofs.Math.Seq.{drop-append_seam, take-append_seam}
use Rattle.std.proofs.lemmas.Bool.{cases_eq, cases_lt, lt-ltb, le-ltb, ne_eqb, le-leb, lt-leb}
use Rattle.wf_def_lists.specs.Table.{has}
use Rattle.wf_def_rotation.specs.Rotation.{Rotation, no_keys, has_key, in_order, need_of, keys_before, keys_from, round, none_ready, picked_now, picked_later, all_visits, is_out}
use Rattle.wf_rotation.specs.Cuts.{Cut}
use Rattle.wf_def_lists.specs.Lists.{on}
use Rattle.wf_rotation.specs.Lists.{lists_at, with_keys}
use Rattle.wf_rotation.specs.Rotas.{Rotas, deficit_at, quantum_at, need_at, is_ready}
use Rattle.wf_rotation.specs.Scan.{first_round}
use Rattle.wf_rotation.specs.Pass.{raised, on_new, SharesAre, lists_after, HasPassed, WasPickedFrom, last_key}
use Rattle.wf_rotation.specs.declared.side.Side.TheVariants.{New, Old}
use Rattle.wf_rotation.specs.declared.pass.Course.TheVariants.{Nobody, AtOnce, Later}
use Rattle.wf_rotation.specs.declared.pass.Share.{Share}
use Rattle.wf_law_rules.proofs.Lemmas.Counts.{on-cons_same, on-append}
use Rattle.wf_law_rules.proofs.Lemmas.Counts.{on-hasnot, on-has, listed-none, listed-some}
use Rattle.wf_rotation.proofs.PassLemmas.{on_take, on_more}
use Rattle.wf_rotation.proofs.PickLemmas.{AtFront, round_new, round_old}

filter_false : (xs : List ℕ) → filter (λ y. false) xs ≡ []
filter_false [] = refl
filter_false (x ∷ xs) = filter_false xs

filter_true : (xs : List ℕ) → filter (λ y. true) xs ≡ xs
filter_true [] = refl
filter_true (x ∷ xs) = ap (λ (t : List ℕ). x ∷ t) (filter_true xs)

-- a deficit that rises as in the pick
as_quanta : (d : ℤ) (q visits quanta : ℕ) → min visits (need_of q d) ≡ quanta →
    raised d q visits ≡ d +ℤ pos (quanta * q)
as_quanta d q visits quanta e = ap (λ (n : ℕ). d +ℤ pos (n * q)) e

pub nobody_picked : (v : Rotas) (list : ℕ) (v' : Rotas) →
    ((y : ℕ) → on (in_order (lists_at v.lists list)) y ≤ 1) →
    HasPassed Nobody v list (need_at v) (λ y. false) (length (in_order (lists_at v.lists list))) v' →
    WasPickedFrom v list (none_ready (need_at v) (lists_at v.lists list)) v'
nobody_picked v list v' once ok = record {
  lists = ok.lists ∙ ap (set v.lists list) empty;
  deficits = λ k. ok.deficits k ∙ as_quanta (deficit_at v.deficits k) (quantum_at v.quanta k)
      (on (take (length (in_order r)) (in_order r)) k * need_at v k) _ (gets k);
  keys = ok.keys;
  quanta = ok.quanta;
}
  where
    r : Rotation
    r = lists_at v.lists list

    empty : lists_after Nobody (lists_at v.lists list) (λ y. false)
        (length (in_order (lists_at v.lists list))) ≡ no_keys
    empty =
        let news : drop (length (in_order (lists_at v.lists list)) - length (lists_at v.lists list).old)
        (lists_at v.lists list).new ≡ [] = drop_all
        (length (in_order (lists_at v.lists list)) - length (lists_at v.lists list).old)
        (lists_at v.lists list).new (omega (
          arith,
          length-append (lists_at v.lists list).old (lists_at v.lists list).new,
        )) in
        let olds : drop (length (in_order (lists_at v.lists list))) (lists_at v.lists list).old ≡ [] =
        drop_all (length (in_order (lists_at v.lists list))) (lists_at v.lists list).old
        (omega (arith, length-append (lists_at v.lists list).old (lists_at v.lists list).new)) in
        rw (news, olds, filter_false) refl

    gets : (k : ℕ) → min (on (take (length (in_order (lists_at v.lists list)))
        (in_order (lists_at v.lists list))) k * need_at v k) (need_at v k)
        ≡ cond (has_key (lists_at v.lists list) k) (need_at v k) 0
    gets k =
        let all : take (length (in_order (lists_at v.lists list))) (in_order (lists_at v.lists list))
        ≡ in_order (lists_at v.lists list) = take_all (length (in_order (lists_at v.lists list)))
        (in_order (lists_at v.lists list)) (omega arith) in
        rw all (elim (cases_lt 0 (on (in_order (lists_at v.lists list)) k)) [
          | inl stands ↦
              let one : on (in_order (lists_at v.lists list)) k ≡ 1 = omega (arith, once k) in
              rw (one, listed-some (lists_at v.lists list) k stands) (omega arith)
          | inr off ↦
              let none : on (in_order (lists_at v.lists list)) k ≡ 0 = omega arith in
              rw (none, listed-none (lists_at v.lists list) k none) (omega arith)
        ])

pub at_once_picked : (v : Rotas) (ready : ℕ → Bool) (list : ℕ) (v' : Rotas) (c : Cut) →
    ((y : ℕ) → on (in_order (lists_at v.lists list)) y ≤ 1) →
    (at : AtFront (need_at v) ready (lists_at v.lists list) c) →
    HasPassed AtOnce v list (λ y. 1) (λ y. true) (length at.front) v' →
    WasPickedFrom v list (picked_now (need_at v) (lists_at v.lists list) c.key) v'
at_once_picked v ready list v' c once at ok = record {
  lists = ok.lists ∙ ap (set v.lists list) moved;
  deficits = λ k. ok.deficits k ∙ as_quanta (deficit_at v.deficits k) (quantum_at v.quanta k)
      (on (take (length at.front) (lists_at v.lists list).new) k * 1)
      (cond (has (keys_before c.key (lists_at v.lists list).new) k) (min 1 (need_at v k)) 0) (gets k);
  keys = ok.keys;
  quanta = ok.quanta;
}
  where
    front_is : take (length at.front) (lists_at v.lists list).new ≡ at.front
    front_is = ap (take (length at.front)) at.news ∙ take-append_seam at.front (c.key ∷ c.after)

    rest_is : drop (length at.front - 0) (lists_at v.lists list).new ≡ c.key ∷ c.after
    rest_is =
        let whole : length at.front - 0 ≡ length at.front = omega arith in
        ap (λ (n : ℕ). drop n (lists_at v.lists list).new) whole ∙ ap (drop (length at.front)) at.news
        ∙ drop-append_seam at.front (c.key ∷ c.after)

    moved : lists_after AtOnce (lists_at v.lists list) (λ y. true) (length at.front)
        ≡ record {
          new = keys_from c.key (lists_at v.lists list).new;
          old =
              (lists_at v.lists list).old ++ keys_before c.key (lists_at v.lists list).new;
        }
    moved = two _ _ _ _ (rest_is ∙ sym at.from_winner)
        (ap (λ (xs : List ℕ). (lists_at v.lists list).old ++ xs)
        (none_left (length at.front) ∙ ap (filter (λ y. true)) front_is ∙ filter_true at.front
        ∙ sym at.in_front))
      where
        rot : List ℕ → List ℕ → Rotation
        rot news olds = record { new = news; old = olds }

        two : (a b x y : List ℕ) → a ≡ b → x ≡ y → rot a x ≡ rot b y
        two a b x y e f = rw (e, f) refl

        none_left : (n : ℕ) → drop n [] ++ filter (λ y. true) (take n (lists_at v.lists list).new)
            ≡ filter (λ y. true) (take n (lists_at v.lists list).new)
        none_left n = ap (λ (xs : List ℕ). xs ++ filter (λ y. true) (take n (lists_at v.lists list).new))
            (drop_all {X = ℕ} n [] (omega arith))

    gets : (k : ℕ) → min (on (take (length at.front) (lists_at v.lists list).new) k * 1) (need_at v k)
        ≡ cond (has (keys_before c.key (lists_at v.lists list).new) k) (min 1 (need_at v k)) 0
    gets k =
        let most : on at.front k ≤ 1 = omega (
          arith,
          once k,
          on-append (lists_at v.lists list).old (lists_at v.lists list).new k,
          ap (λ (xs : List ℕ). on xs k) at.news,
          on-append at.front (c.key ∷ c.after) k,
        ) in
        ap (λ (xs : List ℕ). min (on xs k * 1) (need_at v k)) front_is ∙ (elim (cases_lt 0 (on at.front k)) [
          | inl stands ↦
              let one : on at.front k ≡ 1 = omega arith in
              rw (one, on-has at.front k stands) (omega arith)
          | inr off ↦
              let none : on at.front k ≡ 0 = omega arith in
              rw (none, on-hasnot at.front k none) (omega arith)
        ]) ∙ ap (λ (xs : List ℕ). cond (has xs k) (min 1 (need_at v k)) 0) (sym at.in_front)

or_not : (a : Bool) (x y : ℕ) → not (not a && leb x y) ≡ (a || ltb y x)
or_not true x y = refl
or_not false x y = elim (cases_lt y x) [
  | inl less ↦ rw (lt-ltb y x less, lt-leb x y less) refl
  | inr more ↦ rw (le-ltb y x more, le-leb x y more) refl
]

on_at : (xs : List ℕ) (i : ℕ) → i < length xs → 0 < on xs (get_or xs i 0)
on_at xs i low = omega (
  arith,
  on_more xs i low (get_or xs i 0),
  on_take xs (i + 1) (get_or xs i 0),
  on-cons_same (get_or xs i 0) [],
)

has_first : (xs ys : List ℕ) (i : ℕ) → ((y : ℕ) → on (xs ++ ys) y ≤ 1) → i < length (xs ++ ys) →
    has xs (get_or (xs ++ ys) i 0) ≡ ltb i (length xs)
has_first xs ys i once low = elim (cases_lt i (length xs)) [
  | inl early ↦
      let same : get_or (xs ++ ys) i 0 ≡ get_or xs i 0 = get_or_append_left xs ys 0 i early in
      rw (lt-ltb i (length xs) early, same) (on-has xs (get_or xs i 0) (on_at xs i early))
  | inr late ↦
      let there : i - length xs < length ys = omega (arith, length-append xs ys) in
      let same : get_or (xs ++ ys) i 0 ≡ get_or ys (i - length xs) 0 =
      get_or-append_right xs ys (length xs) i 0 refl late in
      rw (le-ltb i (length xs) late, same) (on-hasnot xs (get_or ys (i - length xs) 0)
      (omega (
        arith,
        on_at ys (i - length xs) there,
        on-append xs ys (get_or ys (i - length xs) 0),
        once (get_or ys (i - length xs) 0),
      )))
]

has_second : (xs ys : List ℕ) (i : ℕ) → ((y : ℕ) → on (xs ++ ys) y ≤ 1) → i < length (xs ++ ys) →
    has ys (get_or (xs ++ ys) i 0) ≡ not (ltb i (length xs))
has_second xs ys i once low = elim (cases_lt i (length xs)) [
  | inl early ↦
      let same : get_or (xs ++ ys) i 0 ≡ get_or xs i 0 = get_or_append_left xs ys 0 i early in
      rw (lt-ltb i (length xs) early, same) (on-hasnot ys (get_or xs i 0)
      (omega (arith, on_at xs i early, on-append xs ys (get_or xs i 0), once (get_or xs i 0))))
  | inr late ↦
      let there : i - length xs < length ys = omega (arith, length-append xs ys) in
      let same : get_or (xs ++ ys) i 0 ≡ get_or ys (i - length xs) 0 =
      get_or-append_right xs ys (length xs) i 0 refl late in
      rw (le-ltb i (length xs) late, same) (on-has ys (get_or ys (i - length xs) 0)
      (on_at ys (i - length xs) there))
]

abbrev share : ℕ → Bool → Share
share visits stays = record { visits = visits; stays = stays }

same_shares : (a b : ℕ) (x y : Bool) → a ≡ b → x ≡ y → share a x ≡ share b y
same_shares a b x y e f = ap (λ (n : ℕ). share n x) e ∙ ap (share b) f

zeroed : (n : ℕ) → n - 0 ≡ n
zeroed n = omega arith

-- the visits of a key, by whether it stands before the winner and on old
abbrev told : ℕ → ℕ → Bool → Bool → Bool → Share
told visit need ready before new = record {
  visits = cond before visit (visit - 1) + cond new 1 0;
  stays = not (not ready && leb (max 1 (cond new need (1 + need))) (cond before visit (visit - 1)));
}

by_place : (visit need : ℕ) (ready b n : Bool) →
    share ((visit - cond b 0 1) + on_new (cond n Old New))
    (ready || ltb (visit - cond b 0 1) (max 1 (need + first_round (cond n Old New))))
    ≡ told visit need ready b (not n)
by_place visit need ready true true = same_shares _ _ _ _ (omega arith)
    (ap (λ (k : ℕ). ready || ltb k (max 1 (need + 1))) (zeroed visit)
    ∙ ap (λ (k : ℕ). ready || ltb visit (max 1 k)) (let e : need + 1 ≡ 1 + need = omega arith in e)
    ∙ sym (or_not ready (max 1 (1 + need)) visit))
by_place visit need ready true false = same_shares _ _ _ _ (omega arith)
    (ap (λ (k : ℕ). ready || ltb k (max 1 (need + 0))) (zeroed visit)
    ∙ ap (λ (k : ℕ). ready || ltb visit (max 1 k)) (let e : need + 0 ≡ need = omega arith in e)
    ∙ sym (or_not ready (max 1 need) visit))
by_place visit need ready false true = same_shares _ _ _ _ (omega arith)
    (ap (λ (k : ℕ). ready || ltb (visit - 1) (max 1 k)) (let e : need + 1 ≡ 1 + need = omega arith in e)
    ∙ sym (or_not ready (max 1 (1 + need)) (visit - 1)))
by_place visit need ready false false = same_shares _ _ _ _ (omega arith)
    (ap (λ (k : ℕ). ready || ltb (visit - 1) (max 1 k)) (let e : need + 0 ≡ need = omega arith in e)
    ∙ sym (or_not ready (max 1 need) (visit - 1)))

module _ (v : Rotas) (ready : List Bool) (list : ℕ)
    (once : (y : ℕ) → on (in_order (lists_at v.lists list)) y ≤ 1) (c : Cut)
    (split : in_order (lists_at v.lists list) ≡ c.before ++ (c.key ∷ c.after))
    (before_winner : keys_before c.key (in_order (lists_at v.lists list)) ≡ c.before) (visit : ℕ) where
  at_place : (i : ℕ) → i < length (in_order (lists_at v.lists list)) →
      has (keys_before c.key (in_order (lists_at v.lists list)))
      (get_or (in_order (lists_at v.lists list)) i 0) ≡ ltb i (length c.before)
  at_place i low =
      ap (λ (xs : List ℕ). has xs (get_or (in_order (lists_at v.lists list)) i 0)) before_winner
      ∙ ap (λ (xs : List ℕ). has c.before (get_or xs i 0)) split
      ∙ has_first c.before (c.key ∷ c.after) i (λ y. subst (λ (xs : List ℕ). on xs y ≤ 1) split (once y))
      (subst (λ (xs : List ℕ). i < length xs) split low)

  pub shares_later : SharesAre (Later visit (length c.before)) v ready list
      (all_visits (lists_at v.lists list) c.key visit)
      (λ y. not (is_out (need_at v) (is_ready ready) (lists_at v.lists list) c.key visit y))
  shares_later i low =
      by_place visit (need_at v (get_or (in_order (lists_at v.lists list)) i 0))
      (is_ready ready (get_or (in_order (lists_at v.lists list)) i 0)) (ltb i (length c.before))
      (ltb i (length (lists_at v.lists list).old))
      ∙ ap (λ (p : Bool). told visit (need_at v (get_or (in_order (lists_at v.lists list)) i 0))
      (is_ready ready (get_or (in_order (lists_at v.lists list)) i 0)) p
      (not (ltb i (length (lists_at v.lists list).old)))) (sym (at_place i low))
      ∙ ap (λ (q : Bool). told visit (need_at v (get_or (in_order (lists_at v.lists list)) i 0))
      (is_ready ready (get_or (in_order (lists_at v.lists list)) i 0))
      (has (keys_before c.key (in_order (lists_at v.lists list)))
      (get_or (in_order (lists_at v.lists list)) i 0)) q)
      (sym (has_second (lists_at v.lists list).old (lists_at v.lists list).new i once low))

once_times : (n m : ℕ) → min (1 * n) m ≡ min n m
once_times n m = ap (λ (k : ℕ). min k m) (let e : 1 * n ≡ n = omega arith in e)

none_times : (n m : ℕ) → min (0 * n) m ≡ 0
none_times n m = ap (λ (k : ℕ). min k m) (let e : 0 * n ≡ 0 = omega arith in e) ∙ omega arith

pub last_none : (ks : List ℕ) → last_key ks ≡ None → ks ≡ []
last_none [] h = refl
last_none (x ∷ []) h = absurd (cc)
last_none (x ∷ y ∷ ks) h = absurd (some_left y ks (last_none (y ∷ ks) h))
  where
    some_left : (y : ℕ) (ks : List ℕ) → y ∷ ks ≡ [] → ⊥
    some_left y ks e = cc

pub last_some : (ks : List ℕ) (k : ℕ) → last_key ks ≡ Some k → (ys : List ℕ) × (ks ≡ ys ++ k ∷ [])
last_some [] k h = absurd (cc)
last_some (x ∷ []) k h =
    let e : x ≡ k = cc in
    ([], ap (λ (y : ℕ). y ∷ []) e)
last_some (x ∷ y ∷ ks) k h =
    let deeper : (ys : List ℕ) × (y ∷ ks ≡ ys ++ k ∷ []) = last_some (y ∷ ks) k h in
    (x ∷ deeper.0, ap (λ (t : List ℕ). x ∷ t) deeper.1)

module _ (v : Rotas) (ready : List Bool) (list : ℕ)
    (once : (y : ℕ) → on (in_order (lists_at v.lists list)) y ≤ 1) (c : Cut)
    (split : in_order (lists_at v.lists list) ≡ c.before ++ (c.key ∷ c.after))
    (won : is_ready ready c.key ≡ true)
    (before_winner : keys_before c.key (in_order (lists_at v.lists list)) ≡ c.before)
    (from_winner : keys_from c.key (in_order (lists_at v.lists list)) ≡ c.key ∷ c.after)
    (some_round : 0 < round (need_at v) (lists_at v.lists list) c.key)
    (there : list < length v.lists) (v' : Rotas)
    (ok : HasPassed (Later (round (need_at v) (lists_at v.lists list) c.key) (length c.before)) v list
    (all_visits (lists_at v.lists list) c.key (round (need_at v) (lists_at v.lists list) c.key))
    (λ y. not (is_out (need_at v) (is_ready ready) (lists_at v.lists list) c.key
    (round (need_at v) (lists_at v.lists list) c.key) y)) (length (in_order (lists_at v.lists list))) v')
  where
    abbrev r : Rotation
    r = lists_at v.lists list

    abbrev visit : ℕ
    visit = round (need_at v) (lists_at v.lists list) c.key

    abbrev stay : ℕ → Bool
    stay = λ y. not (is_out (need_at v) (is_ready ready) (lists_at v.lists list) c.key
        (round (need_at v) (lists_at v.lists list) c.key) y)

    on_split : (y : ℕ) → on (in_order (lists_at v.lists list)) y ≡ on c.before y + on (c.key ∷ c.after) y
    on_split y = ap (λ (xs : List ℕ). on xs y) split ∙ on-append c.before (c.key ∷ c.after) y

    winner_stays : stay c.key ≡ true
    winner_stays = rw won refl

    kept_is : filter stay (in_order (lists_at v.lists list)) ≡ filter stay c.before
        ++ (c.key ∷ filter stay c.after)
    kept_is = ap (filter stay) split ∙ filter-append stay c.before (c.key ∷ c.after)
        ∙ ap (λ (xs : List ℕ). filter stay c.before ++ xs) (head (stay c.key) winner_stays)
      where
        head : (b : Bool) → b ≡ true → cond b (c.key ∷ filter stay c.after) (filter stay c.after) ≡ c.key
            ∷ filter stay c.after
        head b e = rw e refl

    passed_is : lists_after (Later visit (length c.before)) (lists_at v.lists list) stay
        (length (in_order (lists_at v.lists list)))
        ≡ record { new = []; old = filter stay c.before ++ (c.key ∷ filter stay c.after) }
    passed_is =
        let news : drop (length (in_order (lists_at v.lists list)) - length (lists_at v.lists list).old)
        (lists_at v.lists list).new ≡ [] = drop_all
        (length (in_order (lists_at v.lists list)) - length (lists_at v.lists list).old)
        (lists_at v.lists list).new (omega (
          arith,
          length-append (lists_at v.lists list).old (lists_at v.lists list).new,
        )) in
        let olds : drop (length (in_order (lists_at v.lists list))) (lists_at v.lists list).old ≡ [] =
        drop_all (length (in_order (lists_at v.lists list))) (lists_at v.lists list).old
        (omega (arith, length-append (lists_at v.lists list).old (lists_at v.lists list).new)) in
        let all : take (length (in_order (lists_at v.lists list))) (in_order (lists_at v.lists list))
        ≡ in_order (lists_at v.lists list) = take_all (length (in_order (lists_at v.lists list)))
        (in_order (lists_at v.lists list)) (omega arith) in
        rw (news, olds, all) (ap (λ (xs : List ℕ). let x : Rotation = record { new = []; old = xs } in x)
        kept_is)

    pub now_is : lists_at v'.lists list ≡ record {
      new = [];
      old =
          filter stay c.before ++ (c.key ∷ filter stay c.after);
    }
    now_is = ap (λ (ls : List Rotation). lists_at ls list) ok.lists
        ∙ get_or-set_same v.lists list _ no_keys there ∙ passed_is

    target_is : filter stay (keys_from c.key (in_order (lists_at v.lists list))
        ++ keys_before c.key (in_order (lists_at v.lists list))) ≡ c.key
        ∷ (filter stay c.after ++ filter stay c.before)
    target_is = ap (λ (xs : List ℕ). filter stay (xs ++ keys_before c.key (in_order (lists_at v.lists list))))
        from_winner ∙ ap (λ (xs : List ℕ). filter stay ((c.key ∷ c.after) ++ xs)) before_winner
        ∙ head (stay c.key) winner_stays ∙ ap (λ (xs : List ℕ). c.key ∷ xs)
        (filter-append stay c.after c.before)
      where
        head : (b : Bool) → b ≡ true → cond b (c.key ∷ filter stay (c.after ++ c.before))
            (filter stay (c.after ++ c.before)) ≡ c.key ∷ filter stay (c.after ++ c.before)
        head b e = rw e refl

    on_lists : (y : ℕ) → on (in_order (lists_at v.lists list)) y
        ≡ on (lists_at v.lists list).old y + on (lists_at v.lists list).new y
    on_lists y = on-append (lists_at v.lists list).old (lists_at v.lists list).new y

    winner_visits : all_visits (lists_at v.lists list) c.key (round (need_at v)
        (lists_at v.lists list) c.key) c.key
        ≡ need_at v c.key
    winner_visits =
        let not_before : has (keys_before c.key (in_order (lists_at v.lists list))) c.key ≡ false =
        ap (λ (xs : List ℕ). has xs c.key) before_winner
        ∙ on-hasnot c.before c.key (omega (arith, on_split c.key, once c.key, on-cons_same c.key c.after))
        in
        ap (λ (b : Bool). cond b visit (visit - 1) + cond (has
        (lists_at v.lists list).new c.key) 1 0) not_before
        ∙ (elim (cases_lt 0 (on (lists_at v.lists list).new c.key)) [
          | inl new ↦
              let is_round : round (need_at v) (lists_at v.lists list) c.key ≡ need_at v c.key =
              round_new (need_at v) (lists_at v.lists list) c.key new in
              ap (λ (b : Bool). visit - 1 + cond b 1 0) (on-has (lists_at v.lists list).new c.key new)
              ∙ omega (arith, is_round, some_round)
          | inr none ↦
              let off : on (lists_at v.lists list).new c.key ≡ 0 = omega arith in
              let is_round : round (need_at v) (lists_at v.lists list) c.key ≡ 1 + need_at v c.key =
              round_old (need_at v) (lists_at v.lists list) c.key off in
              ap (λ (b : Bool). visit - 1 + cond b 1 0) (on-hasnot (lists_at v.lists list).new c.key off)
              ∙ omega (arith, is_round)
        ])

    gets_winner : min (on (in_order (lists_at v.lists list)) c.key * all_visits
        (lists_at v.lists list) c.key visit c.key) (need_at v c.key) ≡ need_at v c.key
    gets_winner =
        let one : on (in_order (lists_at v.lists list)) c.key ≡ 1 =
        omega (arith, once c.key, on_split c.key, on-cons_same c.key c.after) in
        ap (λ (n : ℕ). min (n * all_visits (lists_at v.lists list) c.key visit c.key) (need_at v c.key)) one
        ∙ ap (λ (n : ℕ). min (1 * n) (need_at v c.key)) winner_visits ∙ omega arith

    gets : (k : ℕ) → min (on (take (length (in_order (lists_at v.lists list)))
        (in_order (lists_at v.lists list))) k * all_visits (lists_at v.lists list) c.key visit k)
        (need_at v k)
        ≡ cond (eqb k c.key) (need_at v k) (cond (has_key (lists_at v.lists list) k)
        (min (all_visits (lists_at v.lists list) c.key visit k) (need_at v k)) 0)
    gets k =
        let all : take (length (in_order (lists_at v.lists list))) (in_order (lists_at v.lists list))
        ≡ in_order (lists_at v.lists list) = take_all (length (in_order (lists_at v.lists list)))
        (in_order (lists_at v.lists list)) (omega arith) in
        ap (λ (xs : List ℕ). min (on xs k * all_visits (lists_at v.lists list) c.key visit k)
        (need_at v k)) all
        ∙ (elim (cases_eq k c.key) [
          | inl e ↦
              let P : ℕ → Type 0 = λ (y : ℕ). min (on (in_order (lists_at v.lists list)) y * all_visits
              (lists_at v.lists list) c.key visit y) (need_at v y) ≡ need_at v y in
              subst P (sym e) gets_winner ∙ sym (ap (λ (b : Bool).
              cond b (need_at v k) (cond (has_key (lists_at v.lists list) k)
              (min (all_visits (lists_at v.lists list) c.key visit k) (need_at v k)) 0)) (eq-eqb k c.key e))
          | inr other ↦ (elim (cases_lt 0 (on (in_order (lists_at v.lists list)) k)) [
            | inl stands ↦
                let one : on (in_order (lists_at v.lists list)) k ≡ 1 = omega (arith, once k) in
                ap (λ (m : ℕ). min (m * all_visits (lists_at v.lists list) c.key visit k) (need_at v k)) one
                ∙ once_times (all_visits (lists_at v.lists list) c.key visit k) (need_at v k)
                ∙ sym (ap (λ (b : Bool). cond b (min (all_visits (lists_at v.lists list) c.key visit k)
                (need_at v k)) 0) (listed-some (lists_at v.lists list) k stands))
            | inr off ↦
                let none : on (in_order (lists_at v.lists list)) k ≡ 0 = omega arith in
                ap (λ (m : ℕ). min (m * all_visits (lists_at v.lists list) c.key visit k) (need_at v k)) none
                ∙ none_times (all_visits (lists_at v.lists list) c.key visit k) (need_at v k)
                ∙ sym (ap (λ (b : Bool). cond b (min (all_visits (lists_at v.lists list) c.key visit k)
                (need_at v k)) 0) (listed-none (lists_at v.lists list) k none))
          ]) ∙ sym (ap (λ (b : Bool). cond b (need_at v k)
              (cond (has_key (lists_at v.lists list) k)
              (min (all_visits (lists_at v.lists list) c.key visit k) (need_at v k)) 0))
              (ne_eqb k c.key other))
        ])

    quanta_given : (k : ℕ) → deficit_at v'.deficits k
        ≡ deficit_at v.deficits k +ℤ pos ((picked_later (need_at v) (is_ready ready)
        (lists_at v.lists list) c.key visit).quanta k * quantum_at v.quanta k)
    quanta_given k = ok.deficits k ∙ as_quanta (deficit_at v.deficits k) (quantum_at v.quanta k) _ _ (gets k)

    -- no key before the winner stays
    pub later_as_it_is : filter stay c.before ≡ [] →
        WasPickedFrom v list (picked_later (need_at v) (is_ready ready)
        (lists_at v.lists list) c.key visit) v'
    later_as_it_is none = record {
      lists = ok.lists ∙ ap (set v.lists list) (passed_is
          ∙ ap (λ (xs : List ℕ). let x : Rotation = record { new = []; old = xs } in x) same);
      deficits = quanta_given;
      keys = ok.keys;
      quanta = ok.quanta;
    }
      where
        same : filter stay c.before ++ (c.key ∷ filter stay c.after)
            ≡ filter stay (keys_from c.key (in_order (lists_at v.lists list))
            ++ keys_before c.key (in_order (lists_at v.lists list)))
        same = ap (λ (xs : List ℕ). xs ++ (c.key ∷ filter stay c.after)) none
            ∙ sym (target_is ∙ ap (λ (xs : List ℕ). c.key ∷ (filter stay c.after ++ xs)) none
            ∙ ap (λ (xs : List ℕ). c.key ∷ xs) (append-nil (filter stay c.after)))

    -- the old list is rotated
    pub later_visited : WasPickedFrom v list (picked_later (need_at v) (is_ready ready)
        (lists_at v.lists list) c.key visit) (record {
          lists =
              with_keys v'.lists list Old (c.key ∷ (filter stay c.after ++ filter stay c.before));
          deficits =
              v'.deficits;
          quanta = v'.quanta;
        })
    later_visited = record {
      lists = ap (λ (x : Rotation). set v'.lists list
          (record { new = x.new; old = c.key ∷ (filter stay c.after ++ filter stay c.before) })) now_is
          ∙ ap (λ (ls : List Rotation). set ls list (record {
            new = [];
            old =
                c.key ∷ (filter stay c.after ++ filter stay c.before);
          })) ok.lists
          ∙ set-set v.lists list _ _
          ∙ ap (λ (xs : List ℕ). set v.lists list (record { new = []; old = xs })) (sym target_is);
      deficits = quanta_given;
      keys = ok.keys;
      quanta = ok.quanta;
    }
