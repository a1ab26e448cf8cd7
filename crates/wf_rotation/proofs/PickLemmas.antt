-- The pick of the definitions is the cut of the rotation at its winner.
use Rattle.std.proofs.Common.{◌≡◌, ℕ, ◌+◌, ◌<◌, ◌≤◌, Bool, true, false, cond, leb, eqb, ◌&&◌, List, [], ◌∷◌, ◌++◌, Option, Some, None, refl, ap, ◌∙◌, subst, inl, inr, arith, append_assoc, eq-eqb}
use Rattle.std.specs.Prelude.{find}
use Rattle.std.specs.Option.{option_map}
use Rattle.std.specs.List.{filter}
use Rattle.std.proofs.lemmas.List.{append_cancel_left}
use Rattle.std.proofs.lemmas.Bool.{cases_eq, cases_Bool, both_ways, leb-true, leb-false, ne_eqb, and_parts, and_cases}
use Rattle.wf_def_rotation.specs.Rotation.{Rotation, in_order, keys_before, keys_from, round, first_of_two, first_least, none_ready, picked_now, picked_later, pick}
use Rattle.wf_rotation.specs.Cuts.{Cut, better, least}
use Rattle.wf_def_lists.specs.Lists.{on}
use Rattle.wf_law_rules.proofs.Lemmas.Counts.{on-nil, on-first, on-cons_same, on-cons_other, on-append}
use Rattle.wf_law_rules.proofs.Lemmas.Counts.{on-hasnot, on-has}
use Rattle.wf_rotation.proofs.LeastLemmas.{least-cut, least-none, least-from_past, better-none_ready, better-not_ready, better-first, better-later}

-- no ready key has a smaller order than the cut's, and none before it the same
pub record Least (ready : ℕ → Bool) (order : ℕ → ℕ) (xs : List ℕ) (c : Cut) : Type 0 where
  pub least : (y : ℕ) → 0 < on xs y → ready y ≡ true → order c.key ≤ order y
  pub first : (y : ℕ) → 0 < on c.before y → ready y ≡ true → order c.key < order y

pub least-is : (ready : ℕ → Bool) (order : ℕ → ℕ) (xs : List ℕ) (c : Cut) → least ready order xs ≡ Some c →
    Least ready order xs c
unfolding least
least-is ready order [] c e = absurd (cc)
least-is ready order (y ∷ ys) c e = go (least ready order ys) refl (λ (d : Cut). least-is ready order ys d) e
  where
    split_on : (z : ℕ) (P : Type 0) → 0 < on (y ∷ ys) z → (y ≡ z → P) → (0 < on ys z → P) → P
    split_on z P stands here there = elim (cases_eq y z) [
      | inl e ↦ here e
      | inr other ↦
          there (omega (arith, on-cons_other y z ys other))
    ]

    go : (o : Option Cut) → least ready order ys ≡ o → ((d : Cut) → o ≡ Some d → Least ready order ys d) →
        better ready order y ys o ≡ Some c → Least ready order (y ∷ ys) c
    go None was below is = elim (cases_Bool (ready y)) [
      | inl h ↦
          let same : record { before = []; key = y; after = ys } ≡ c =
          cc (better-none_ready ready order y ys h) in
          subst (Least ready order (y ∷ ys)) same (record {
            least = λ z stands r. split_on z (order y ≤ order z) stands (λ e. omega (arith, ap order e))
                (λ on_ys. absurd (both_ways (ready z) (least-none ready order ys was z on_ys) r));
            first = λ z stands r. absurd (omega (arith, on-nil z));
          })
      | inr h ↦ absurd (cc (better-not_ready ready order y ys h))
    ]
    go (Some d) was below is = elim (cases_Bool (ready y && leb (order y) (order d.key))) [
      | inl h ↦
          let same : record { before = []; key = y; after = ys } ≡ c =
          cc (better-first ready order y ys d h) in
          let le : order y ≤ order d.key = leb-true (order y) (order d.key)
          (and_parts (ready y) (leb (order y) (order d.key)) h).1 in
          subst (Least ready order (y ∷ ys)) same (record {
            least = λ z stands r. split_on z (order y ≤ order z) stands (λ e. omega (arith, ap order e))
                (λ on_ys. omega (arith, (below d refl).least z on_ys r));
            first = λ z stands r. absurd (omega (arith, on-nil z));
          })
      | inr h ↦
          let same : record { before = y ∷ d.before; key = d.key; after = d.after } ≡ c =
          cc (better-later ready order y ys d h) in
          let above : (z : ℕ) → y ≡ z → ready z ≡ true →
          order d.key < order z = λ z e r. elim (and_cases (ready y) (leb (order y) (order d.key)) h) [
            | inl waits ↦ absurd (both_ways (ready y) waits (ap ready e ∙ r))
            | inr gt ↦ (let lt : order d.key < order y = leb-false (order y) (order d.key) gt in
                omega (arith, ap order e))
          ] in
          subst (Least ready order (y ∷ ys)) same (record {
            least = λ z stands r. split_on z (order d.key ≤ order z) stands (λ e. omega (arith, above z e r))
                (λ on_ys. (below d refl).least z on_ys r);
            first = λ z stands r. elim (cases_eq y z) [
              | inl e ↦ above z e r
              | inr other ↦ (below d refl).first z (omega (arith, on-cons_other y z d.before other)) r
            ];
          })
    ]

-- the first of the ready keys of the least round
first_least_is : (ready : ℕ → Bool) (order : ℕ → ℕ) (xs : List ℕ) →
    first_least order (filter ready xs) ≡ option_map (λ c. c.key) (least ready order xs)
unfolding least
first_least_is ready order [] = refl
first_least_is ready order (y ∷ ys) = elim (cases_Bool (ready y)) [
  | inl h ↦ rw (h, first_least_is ready order ys) (go h (least ready order ys))
  | inr h ↦ rw (h, first_least_is ready order ys) (skip h (least ready order ys))
]
  where
    go : ready y ≡ true → (o : Option Cut) → first_of_two order y (option_map (λ c. c.key) o)
        ≡ option_map (λ c. c.key) (better ready order y ys o)
    go h None = rw h refl
    go h (Some c) = rw h (choose (leb (order y) (order c.key)) c)
      where
        choose : (b : Bool) (c : Cut) → cond b (Some y) (Some c.key)
            ≡ option_map (λ (d : Cut). d.key) (cond b (Some (record { before = []; key = y; after = ys }))
            (Some (record { before = y ∷ c.before; key = c.key; after = c.after })))
        choose true c = refl
        choose false c = refl

    skip : ready y ≡ false → (o : Option Cut) → option_map (λ c. c.key) o
        ≡ option_map (λ c. c.key) (better ready order y ys o)
    skip h None = rw h refl
    skip h (Some c) = rw h refl

find_none : (p : ℕ → Bool) (xs : List ℕ) → ((y : ℕ) → 0 < on xs y → p y ≡ false) → find p xs ≡ None
find_none p [] fails = refl
find_none p (x ∷ xs) fails = rw (fails x (omega (arith, on-cons_same x xs)))
    (find_none p xs (λ y stands. fails y (omega (arith, on-first x y xs))))

find_first : (p : ℕ → Bool) (xs : List ℕ) (k : ℕ) (ys : List ℕ) → ((y : ℕ) → 0 < on xs y → p y ≡ false) →
    p k ≡ true → find p (xs ++ k ∷ ys) ≡ Some k
find_first p [] k ys fails here = rw here refl
find_first p (x ∷ xs) k ys fails here = rw (fails x (omega (arith, on-cons_same x xs)))
    (find_first p xs k ys (λ y stands. fails y (omega (arith, on-first x y xs))) here)

filter_none : (p : ℕ → Bool) (xs : List ℕ) → ((y : ℕ) → 0 < on xs y → p y ≡ false) → filter p xs ≡ []
filter_none p [] fails = refl
filter_none p (x ∷ xs) fails = rw (fails x (omega (arith, on-cons_same x xs)))
    (filter_none p xs (λ y stands. fails y (omega (arith, on-first x y xs))))

-- the keys before a key, and from it on
before_is : (xs : List ℕ) (k : ℕ) (ys : List ℕ) → on xs k ≡ 0 → keys_before k (xs ++ k ∷ ys) ≡ xs
before_is [] k ys none = rw (eq-eqb k k refl) refl
before_is (x ∷ xs) k ys none = elim (cases_eq x k) [
  | inl e ↦ absurd (omega (arith, ap (λ (y : ℕ). on (y ∷ xs) k) e, on-cons_same k xs))
  | inr other ↦ rw (ne_eqb x k other) (ap (λ (t : List ℕ). x ∷ t)
      (before_is xs k ys (omega (arith, on-cons_other x k xs other))))
]

from_is : (xs : List ℕ) (k : ℕ) (ys : List ℕ) → on xs k ≡ 0 → keys_from k (xs ++ k ∷ ys) ≡ k ∷ ys
from_is [] k ys none = rw (eq-eqb k k refl) refl
from_is (x ∷ xs) k ys none = elim (cases_eq x k) [
  | inl e ↦ absurd (omega (arith, ap (λ (y : ℕ). on (y ∷ xs) k) e, on-cons_same k xs))
  | inr other ↦ rw (ne_eqb x k other) (from_is xs k ys (omega (arith, on-cons_other x k xs other)))
]

-- the round of a key
pub round_new : (need : ℕ → ℕ) (r : Rotation) (y : ℕ) → 0 < on r.new y → round need r y ≡ need y
round_new need r y stands = rw (on-has r.new y stands) refl

pub round_old : (need : ℕ → ℕ) (r : Rotation) (y : ℕ) → on r.new y ≡ 0 → round need r y ≡ 1 + need y
round_old need r y none = rw (on-hasnot r.new y none) refl

-- a winner of round 0 is on new
pub record AtFront (need : ℕ → ℕ) (ready : ℕ → Bool) (r : Rotation) (c : Cut) : Type 0 where
  pub front : List ℕ
  pub before_is : c.before ≡ r.old ++ front
  pub news : r.new ≡ front ++ c.key ∷ c.after
  pub picked : pick need ready r ≡ picked_now need r c.key
  pub in_front : keys_before c.key r.new ≡ front
  pub from_winner : keys_from c.key r.new ≡ c.key ∷ c.after

module _ (need : ℕ → ℕ) (ready : ℕ → Bool) (r : Rotation) where
  -- in round 0
  abbrev now : ℕ → Bool
  now = λ y. ready y && eqb (need y) 0

  not_ready : (y : ℕ) → ready y ≡ false → (ready y && eqb (need y) 0) ≡ false
  not_ready y h = rw h refl

  in_need : (y : ℕ) → 0 < need y → (ready y && eqb (need y) 0) ≡ false
  in_need y some = elim (cases_Bool (ready y)) [
    | inl h ↦ rw (h, ne_eqb (need y) 0 (λ e. omega arith)) refl
    | inr h ↦ rw h refl
  ]

  -- no key is ready
  pub pick_none : least ready (round need r) (in_order r) ≡ None → pick need ready r ≡ none_ready need r
  unfolding pick
  pick_none none =
      let waits : (y : ℕ) → 0 < on (in_order r) y →
      ready y ≡ false = least-none ready (round need r) (in_order r) none in
      let first : find (λ y. ready y && eqb (need y) 0) r.new ≡ None =
      find_none now r.new (λ y stands. not_ready y (waits y (omega (arith, on-append r.old r.new y)))) in
      let all : filter ready (in_order r) ≡ [] = filter_none ready (in_order r) waits in
      rw (first, all) refl

  module _ (once : (y : ℕ) → on (in_order r) y ≤ 1) (c : Cut)
      (is : least ready (round need r) (in_order r) ≡ Some c) where
    split : in_order r ≡ c.before ++ (c.key ∷ c.after)
    split = (least-cut ready (round need r) (in_order r) c is).0

    won : ready c.key ≡ true
    won = (least-cut ready (round need r) (in_order r) c is).1

    on_split : (y : ℕ) → on (in_order r) y ≡ on c.before y + on (c.key ∷ c.after) y
    on_split y = ap (λ (xs : List ℕ). on xs y) split ∙ on-append c.before (c.key ∷ c.after) y

    on_lists : (y : ℕ) → on (in_order r) y ≡ on r.old y + on r.new y
    on_lists y = on-append r.old r.new y

    pub winner_listed : 0 < on (in_order r) c.key
    winner_listed = omega (arith, on_split c.key, on-cons_same c.key c.after)

    high : (z : ℕ) → 0 < on r.old z → 0 < round need r z
    high z stands = rw (round_old need r z (omega (arith, once z, on_lists z))) (omega arith)

    -- the winner has round 0
    pub at_front : round need r c.key ≡ 0 → AtFront need ready r c
    unfolding pick
    at_front zero_round = record {
      front = found.0;
      before_is = found.1;
      news = news;
      picked = picked;
      in_front = ap (keys_before c.key) news ∙ before_is found.0 c.key c.after none;
      from_winner = ap (keys_from c.key) news ∙ from_is found.0 c.key c.after none;
    }
      where
        found : (front : List ℕ) × (c.before ≡ r.old ++ front)
        found = least-from_past ready (round need r) r.old r.new c high zero_round is

        news : r.new ≡ found.0 ++ c.key ∷ c.after
        news = append_cancel_left r.old r.new (found.0 ++ c.key ∷ c.after)
            (split ∙ ap (λ (xs : List ℕ). xs ++ (c.key ∷ c.after)) found.1
            ∙ append_assoc r.old found.0 (c.key ∷ c.after))

        on_news : (y : ℕ) → on r.new y ≡ on found.0 y + on (c.key ∷ c.after) y
        on_news y = ap (λ (xs : List ℕ). on xs y) news ∙ on-append found.0 (c.key ∷ c.after) y

        none : on found.0 c.key ≡ 0
        none = omega (arith, on_news c.key, once c.key, on_lists c.key, on-cons_same c.key c.after)

        needs : (y : ℕ) → 0 < on found.0 y → ready y ≡ true → 0 < need y
        needs y stands h =
            let above : round need r c.key < round need r y =
            (least-is ready (round need r) (in_order r) c is).first y
            (omega (arith, ap (λ (xs : List ℕ). on xs y) found.1, on-append r.old found.0 y)) h in
            omega (arith, round_new need r y (omega (arith, on_news y)))

        fails : (y : ℕ) → 0 < on found.0 y → (ready y && eqb (need y) 0) ≡ false
        fails y stands = elim (cases_Bool (ready y)) [
          | inl h ↦ in_need y (needs y stands h)
          | inr h ↦
              not_ready y h
        ]

        here : (ready c.key && eqb (need c.key) 0) ≡ true
        here =
            let zero_need : need c.key ≡ 0 = omega (
              arith,
              round_new need r c.key (omega (arith, on_news c.key, on-cons_same c.key c.after)),
            ) in
            rw (won, zero_need) refl

        picked : pick need ready r ≡ picked_now need r c.key
        picked =
            let first : find (λ y. ready y && eqb (need y) 0) r.new ≡ Some c.key =
            ap (find now) news ∙ find_first now found.0 c.key c.after fails here in
            rw first refl

    -- the winner has a later round
    none_now : 0 < round need r c.key → (y : ℕ) → 0 < on r.new y → (ready y && eqb (need y) 0) ≡ false
    none_now later y stands = elim (cases_Bool (ready y)) [
      | inl h ↦
          let above : round need r c.key ≤ round need r y =
          (least-is ready (round need r) (in_order r) c is).least y (omega (arith, on_lists y)) h in
          in_need y (omega (arith, round_new need r y stands))
      | inr h ↦ not_ready y h
    ]

    pub pick_later_is : 0 < round need r c.key → pick need ready r
        ≡ picked_later need ready r c.key (round need r c.key)
    unfolding pick
    pick_later_is later =
        let first : find (λ y. ready y && eqb (need y) 0) r.new ≡ None =
        find_none now r.new (none_now later) in
        let best : first_least (round need r) (filter ready (in_order r)) ≡ Some c.key =
        first_least_is ready (round need r) (in_order r) ∙ ap (option_map (λ (d : Cut). d.key)) is in
        rw (first, best) refl

    none_before : on c.before c.key ≡ 0
    none_before = omega (arith, on_split c.key, once c.key, on-cons_same c.key c.after)

    pub before_winner : keys_before c.key (in_order r) ≡ c.before
    before_winner = rw split (before_is c.before c.key c.after none_before)

    pub from_winner : keys_from c.key (in_order r) ≡ c.key ∷ c.after
    from_winner = rw split (from_is c.before c.key c.after none_before)
