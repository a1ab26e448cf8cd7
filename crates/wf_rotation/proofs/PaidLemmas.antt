-- Each visit of the loop but the last is paid for: it gives a quantum, or takes a key off new, or off the
-- rotation.
use Rattle.std.proofs.Common.{◌≡◌, ℕ, ◌+◌, ◌*◌, ◌<◌, ◌≤◌, ◌==◌, Bool, true, false, if◌then◌else◌, List, [], ◌∷◌, ◌++◌, length, refl, sym, ap, ◌∙◌, subst, inl, inr, arith, length-append, filter, eq-eqb}
use Rattle.std.specs.Prelude.{ℤ, pos, ◌+ℤ◌, int_le, sum_by, not}
use Rattle.std.proofs.lemmas.Int.{ints}
use Rattle.std.proofs.lemmas.List.{get_or-set_same}
use Rattle.std.proofs.lemmas.List.Sums.{sum_by-cons}
use Rattle.std.proofs.lemmas.List.Filters.{length-filter_both}
use Rattle.std.proofs.lemmas.Bool.{cases_eq, ne_eqb}
use Rattle.wf_def_lists.specs.Lists.{on}
use Rattle.wf_def_rotation.specs.Rotation.{Rotation, no_keys, in_order, pick, round, is_out, keys_before, keys_from}
use Rattle.wf_def_rotation.specs.Loop.{Visit, Wins, Again, Standing, visit_at, with_quantum_paid, onward}
use Rattle.wf_rotation.specs.Lists.{lists_at}
use Rattle.wf_rotation.specs.Rotas.{Rotas, deficit_at, quantum_at, need_at, is_ready, picked_at}
use Rattle.wf_rotation.specs.Steps.{most_visits}
use Rattle.wf_rotation.specs.Visits.{standing_at, first_visit, IsOnward, HasVisited, IsSamePick}
use Rattle.wf_law_rules.proofs.Lemmas.Counts.{on-cons_same, on-append, before_from}
use Rattle.wf_law_rules.proofs.Lemmas.Rotations.{pick_is}

-- ---- sums over keys

sum_added : (f g : ℕ → ℕ) (xs : List ℕ) → sum_by (λ y. f y + g y) xs ≡ sum_by f xs + sum_by g xs
sum_added f g [] = omega arith
sum_added f g (x ∷ xs) = omega (
  arith,
  sum_by-cons (λ y. f y + g y) x xs,
  sum_by-cons f x xs,
  sum_by-cons g x xs,
  sum_added f g xs,
)

sum_more : (f g : ℕ → ℕ) → ((y : ℕ) → f y ≤ g y) → (xs : List ℕ) → sum_by f xs ≤ sum_by g xs
sum_more f g more [] = omega arith
sum_more f g more (x ∷ xs) = omega (
  arith,
  sum_by-cons f x xs,
  sum_by-cons g x xs,
  more x,
  sum_more f g more xs,
)

-- one quantum for one key
abbrev one_for : ℕ → ℕ → ℕ
one_for key y = if y == key then 1 else 0

sum_one : (key : ℕ) (xs : List ℕ) → sum_by (one_for key) xs ≡ on xs key
unfolding on
sum_one key [] = refl
sum_one key (x ∷ xs) = omega (arith, sum_by-cons (one_for key) x xs, sum_one key xs)

-- ---- what one visit pays

-- the loop before and after a visit: a key got a quantum, or left new, or left the rotation
record Pays (quantum : ℕ → ℕ) (s e : Standing) : Type 0 where
  pub gives : ℕ → ℕ
  pub deficits : (y : ℕ) → e.deficit y ≡ s.deficit y +ℤ pos (gives y * quantum y)
  pub stand : (y : ℕ) → on (in_order e.lists) y ≤ on (in_order s.lists) y
  pub news : length e.lists.new ≤ length s.lists.new
  pub keys : length (in_order e.lists) ≤ length (in_order s.lists)
  pub pays : (xs : List ℕ) → ((y : ℕ) → on (in_order s.lists) y ≤ on xs y) →
      1 + length e.lists.new + length (in_order e.lists)
      ≤ sum_by gives xs + length s.lists.new + length (in_order s.lists)

one_paid : (quantum : ℕ → ℕ) (deficit : ℕ → ℤ) (key y : ℕ) → with_quantum_paid quantum deficit key y
    ≡ deficit y +ℤ pos (one_for key y * quantum y)
one_paid quantum deficit key y = elim (cases_eq key y) [
  | inl e ↦ rw (eq-eqb key y e, eq-eqb y key (sym e)) (omega (arith, ints))
  | inr other ↦ rw (ne_eqb key y other, ne_eqb y key (λ e. other (sym e))) (omega (arith, ints))
]

none_paid : (d : ℤ) (q : ℕ) → d ≡ d +ℤ pos (0 * q)
none_paid d q = omega (arith, ints)

abbrev at_lists : List ℕ → List ℕ → (ℕ → ℤ) → Standing
at_lists news olds deficit = record { lists = record { new = news; old = olds }; deficit = deficit }

-- the visit of a key of old, and of a key of new, by whether it owes and whether it is ready
abbrev pub of_old : (ℕ → ℕ) → (ℕ → ℤ) → ℕ → List ℕ → Bool → Bool → Visit
of_old quantum deficit key keys owes rdy =
    if owes then Again (record { new = []; old = keys ++ key ∷ [] }) (with_quantum_paid quantum deficit key)
    else (if rdy then Wins key else Again (record { new = []; old = keys }) deficit)

abbrev of_new : (ℕ → ℕ) → (ℕ → ℤ) → ℕ → List ℕ → List ℕ → Bool → Bool → Visit
of_new quantum deficit key keys olds owes rdy =
    if owes then Again (record { new = keys; old = olds ++ key ∷ [] }) (with_quantum_paid quantum deficit key)
    else (if rdy then Wins key else Again (record { new = keys; old = olds ++ key ∷ [] }) deficit)

pays_visit : (quantum : ℕ → ℕ) (deficit : ℕ → ℤ) (ready : ℕ → Bool) (news olds : List ℕ) →
    IsOnward (visit_at quantum deficit ready news olds) →
    Pays quantum (at_lists news olds deficit)
    (onward (at_lists news olds deficit) (visit_at quantum deficit ready news olds))
pays_visit quantum deficit ready [] [] goes = absurd goes
pays_visit quantum deficit ready [] (key ∷ keys) goes = go (int_le (deficit key) (pos 0)) (ready key) goes
  where
    go : (owes rdy : Bool) → IsOnward (of_old quantum deficit key keys owes rdy) →
        Pays quantum (at_lists [] (key ∷ keys) deficit)
        (onward (at_lists [] (key ∷ keys) deficit) (of_old quantum deficit key keys owes rdy))
    go true rdy h = record {
      gives = one_for key;
      deficits = one_paid quantum deficit key;
      stand = λ y. omega (
        arith,
        on-append (keys ++ key ∷ []) [] y,
        on-append (key ∷ keys) [] y,
        on-append keys (key ∷ []) y,
        on-append (key ∷ []) keys y,
      );
      news = omega arith;
      keys = omega (
        arith,
        length-append (keys ++ key ∷ []) [],
        length-append keys (key ∷ []),
        length-append (key ∷ keys) [],
      );
      pays = λ xs more. omega (
        arith,
        length-append (keys ++ key ∷ []) [],
        length-append keys (key ∷ []),
        length-append (key ∷ keys) [],
        sum_one key xs,
        more key,
        on-append (key ∷ keys) [] key,
        on-cons_same key keys,
      );
    }
    go false true h = absurd h
    go false false h = record {
      gives = λ y. 0;
      deficits = λ y. none_paid (deficit y) (quantum y);
      stand = λ y. omega (
        arith,
        on-append keys [] y,
        on-append (key ∷ keys) [] y,
        on-append (key ∷ []) keys y,
      );
      news = omega arith;
      keys = omega (arith, length-append keys [], length-append (key ∷ keys) []);
      pays = λ xs more. omega (arith, length-append keys [], length-append (key ∷ keys) []);
    }
pays_visit quantum deficit ready (key ∷ keys) olds goes = go (int_le (deficit key) (pos 0)) (ready key) goes
  where
    moved : (y : ℕ) → on ((olds ++ key ∷ []) ++ keys) y ≤ on (olds ++ key ∷ keys) y
    moved y = omega (
      arith,
      on-append (olds ++ key ∷ []) keys y,
      on-append olds (key ∷ []) y,
      on-append olds (key ∷ keys) y,
      on-append (key ∷ []) keys y,
    )

    as_long : length ((olds ++ key ∷ []) ++ keys) ≡ length (olds ++ key ∷ keys)
    as_long = omega (
      arith,
      length-append (olds ++ key ∷ []) keys,
      length-append olds (key ∷ []),
      length-append olds (key ∷ keys),
    )

    go : (owes rdy : Bool) → IsOnward (of_new quantum deficit key keys olds owes rdy) →
        Pays quantum (at_lists (key ∷ keys) olds deficit)
        (onward (at_lists (key ∷ keys) olds deficit) (of_new quantum deficit key keys olds owes rdy))
    go true rdy h = record {
      gives = one_for key;
      deficits = one_paid quantum deficit key;
      stand = moved;
      news = omega arith;
      keys = omega (arith, as_long);
      pays = λ xs more. omega (arith, as_long);
    }
    go false true h = absurd h
    go false false h = record {
      gives = λ y. 0;
      deficits = λ y. none_paid (deficit y) (quantum y);
      stand = moved;
      news = omega arith;
      keys = omega (arith, as_long);
      pays = λ xs more. omega (arith, as_long);
    }

-- ---- what some visits have paid

-- the visits since the start, each of which gave a quantum, or took a key off new or off the rotation
pub record ArePaid (start : Rotas) (list : ℕ) (v : Rotas) (visits : ℕ) : Type 0 where
  pub given : ℕ → ℕ
  pub deficits : (key : ℕ) → deficit_at v.deficits key
      ≡ deficit_at start.deficits key +ℤ pos (given key * quantum_at start.quanta key)
  pub stand : (key : ℕ) → on (in_order (lists_at v.lists list)) key
      ≤ on (in_order (lists_at start.lists list)) key
  pub news : length (lists_at v.lists list).new ≤ length (lists_at start.lists list).new
  pub keys : length (in_order (lists_at v.lists list)) ≤ length (in_order (lists_at start.lists list))
  pub paid : visits + length (lists_at v.lists list).new + length (in_order (lists_at v.lists list))
      ≤ sum_by given (in_order (lists_at start.lists list)) + length (lists_at start.lists list).new
      + length (in_order (lists_at start.lists list))
  pub some : 0 < visits → (key : ℕ) → 1 ≤ quantum_at start.quanta key

pub paid_first : (v : Rotas) (list : ℕ) → ArePaid v list v 0
paid_first v list = record {
  given = λ key. 0;
  deficits = λ key. none_paid (deficit_at v.deficits key) (quantum_at v.quanta key);
  stand = λ key. omega arith;
  news = omega arith;
  keys = omega arith;
  paid = omega arith;
  some = λ some_visits. absurd (omega arith);
}

twice : (d : ℤ) (m n q : ℕ) → (d +ℤ pos (m * q)) +ℤ pos (n * q) ≡ d +ℤ pos ((m + n) * q)
twice d m n q =
    let both : (m + n) * q ≡ m * q + n * q = grind arith in
    rw both (omega (arith, ints))

module _ (start : Rotas) (ready : List Bool) (list : ℕ) (u v : Rotas) (low : list < length start.lists)
    (some : (key : ℕ) → 1 ≤ quantum_at u.quanta key)
    (same : IsSamePick start ready list u) (visited : HasVisited u list (first_visit u ready list) v) where
  abbrev at_u : Standing
  at_u = standing_at u list

  abbrev next : Standing
  next = onward at_u (first_visit u ready list)

  here : lists_at v.lists list ≡ next.lists
  here = ap (λ (all : List Rotation). lists_at all list) visited.lists
      ∙ get_or-set_same u.lists list next.lists no_keys (omega (arith, low, same.there))

  -- one visit more
  pub paid_after : (visits : ℕ) → ArePaid start list u visits → IsOnward (first_visit u ready list) →
      ArePaid start list v (visits + 1)
  paid_after visits were goes =
      let one : Pays (quantum_at u.quanta) at_u next = pays_visit (quantum_at u.quanta)
      (deficit_at u.deficits) (is_ready ready) (lists_at u.lists list).new (lists_at u.lists list).old goes in
      record {
        given = λ key. were.given key + one.gives key;
        deficits = λ key. visited.deficits key ∙ one.deficits key
            ∙ ap (λ (quanta : List ℕ). deficit_at u.deficits key
            +ℤ pos (one.gives key * quantum_at quanta key)) same.quanta
            ∙ ap (λ (d : ℤ). d +ℤ pos (one.gives key * quantum_at start.quanta key)) (were.deficits key)
            ∙ twice (deficit_at start.deficits key) (were.given key) (one.gives key)
            (quantum_at start.quanta key);
        stand = λ key. rw here (omega (arith, one.stand key, were.stand key));
        news = rw here (omega (arith, one.news, were.news));
        keys = rw here (omega (arith, one.keys, were.keys));
        paid = rw here (omega (
          arith,
          one.pays (in_order (lists_at start.lists list)) were.stand,
          sum_added were.given one.gives (in_order (lists_at start.lists list)),
          were.paid,
        ));
        some = λ some_visits key. subst (λ (quanta : List ℕ). 1 ≤ quantum_at quanta key) same.quanta
            (some key);
      }

-- ---- the whole pick

-- a pick leaves no more keys on new, nor on the rotation
abbrev IsFewer : Rotation → Rotation → Type 0
IsFewer r left = (length left.new ≤ length r.new) × (length (in_order left) ≤ length (in_order r))

cut_length : (v : ℕ) (xs : List ℕ) → length (keys_before v xs) + length (keys_from v xs) ≡ length xs
cut_length v xs = sym (length-append (keys_before v xs) (keys_from v xs)) ∙ ap length (before_from v xs)

filter_shorter : (p : ℕ → Bool) (xs : List ℕ) → length (filter p xs) ≤ length xs
filter_shorter p xs = omega (arith, length-filter_both p (λ y. not (p y)) (λ y. refl) xs)

pick_fewer : (need : ℕ → ℕ) (ready : ℕ → Bool) (r : Rotation) → IsFewer r (pick need ready r).lists
pick_fewer need ready r = pick_is (λ p. IsFewer r p.lists) need ready r
    (λ _. (omega arith, omega arith))
    (λ v _ _ _. (
      omega (arith, cut_length v r.new),
      omega (
        arith,
        cut_length v r.new,
        length-append (r.old ++ keys_before v r.new) (keys_from v r.new),
        length-append r.old (keys_before v r.new),
        length-append r.old r.new,
      ),
    ))
    (λ v _. (
      omega arith,
      omega (
        arith,
        length-append (filter (λ y. not (is_out need ready r v (round need r v) y))
            (keys_from v (in_order r) ++ keys_before v (in_order r))) [],
        filter_shorter (λ y. not (is_out need ready r v (round need r v) y))
            (keys_from v (in_order r) ++ keys_before v (in_order r)),
        length-append (keys_from v (in_order r)) (keys_before v (in_order r)),
        cut_length v (in_order r),
      ),
    ))

less_times : (m n q : ℕ) → 1 ≤ q → m * q ≤ n * q → m ≤ n
less_times m n q some less = grind arith

given_more : (d e : ℤ) (m n k q : ℕ) → 1 ≤ q → e ≡ d +ℤ pos (m * q) →
    e +ℤ pos (k * q) ≡ d +ℤ pos (n * q) → m ≤ n
given_more d e m n k q some before after =
    let less : m * q ≤ n * q = omega (arith, ints, before, after) in
    less_times m n q some less

module _ (start : Rotas) (ready : List Bool) (list : ℕ) (u : Rotas) (visits : ℕ)
    (some : (key : ℕ) → 1 ≤ quantum_at start.quanta key) (same : IsSamePick start ready list u)
    (paid : ArePaid start list u visits) where
  abbrev left : Rotation
  left = (picked_at start ready list).lists

  more_given : (key : ℕ) → paid.given key ≤ (picked_at start ready list).quanta key
  more_given key = given_more (deficit_at start.deficits key) (deficit_at u.deficits key) (paid.given key)
      ((picked_at start ready list).quanta key) ((picked_at u ready list).quanta key)
      (quantum_at start.quanta key)
      (some key) (paid.deficits key)
      (ap (λ (quanta : List ℕ). deficit_at u.deficits key
      +ℤ pos ((picked_at u ready list).quanta key * quantum_at quanta key)) (sym same.quanta)
      ∙ same.deficits key)

  fewer : IsFewer (lists_at u.lists list) left
  fewer = subst (λ (r : Rotation). IsFewer (lists_at u.lists list) r) same.lists
      (pick_fewer (need_at u) (is_ready ready) (lists_at u.lists list))

  -- the visits so far and one more are no more than the pick allows
  pub visits_low : visits < most_visits start ready list
  visits_low = omega (
    arith,
    paid.paid,
    paid.news,
    paid.keys,
    fewer.0,
    fewer.1,
    sum_more paid.given (picked_at start ready list).quanta more_given (in_order (lists_at start.lists list)),
  )
