-- The root of a tournament holds the best leaf, by induction on the nodes; a node is played again after a
-- leaf is set.
use Rattle.std.proofs.Common.{◌≡◌, ◌≢◌, ℕ, zero, suc, ◌+◌, ◌-◌, ◌*◌, ◌/◌, ◌%◌, ◌^◌, ◌<◌, ◌≤◌, Bool, true, false, cond, ◌⊎◌, inl, inr, List, ◌∷◌, length, map, drop, replicate, set, get_or, refl, sym, ap, ◌∙◌, arith, get_or-set_other, get_or-set_same}
use Rattle.std.proofs.Math.ListN.{length-set, get_or-map}
use Rattle.std.proofs.lemmas.List.{get_or_past, get_or_read, length-map, length-drop, get_or-drop, drop-set-lt, drop-set-add, map-set, set-get_or, get_or-replicate, length-replicate, drop-replicate}
use Rattle.std.proofs.lemmas.Bool.Decides.{nat_tests}
use Rattle.std.proofs.lemmas.Bool.{cases_lt}
use Rattle.std.proofs.lemmas.Nat.{xor_block}
use Rattle.std.proofs.Math.Nat.{eq-or-lt_of_le}
use Rattle.std.specs.Prelude.{slice_index, slice_set, bit_xor}
use Rattle.wf_queue_parts.specs.declared.peak.Candidate.{Candidate}
use Rattle.wf_queue_parts.specs.Best.{IsBest}
use Rattle.wf_queue_parts.specs.Tree.{no_candidate, node_at, is_ahead, winner_of, values_of, IsPlayedBut, IsFilledFrom}

pub eq_or_ne : (a b : ℕ) → (a ≡ b) ⊎ (a ≢ b)
eq_or_ne a b = elim (cases_lt a b) [
  | inl less ↦ inr (λ e. omega arith)
  | inr more ↦ elim (eq-or-lt_of_le more) [ inl e ↦ inl (sym e) | inr above ↦ inr (λ e. omega arith) ]
]

-- the first of two is no worse
record IsNoWorse (a b : Candidate) : Type 0 where
  value : b.value ≤ a.value
  tie : b.value ≡ a.value → a.leaf ≤ b.leaf

IsNoWorse-self : (a : Candidate) → IsNoWorse a a
IsNoWorse-self a = record { value = omega arith; tie = λ e. omega arith }

IsNoWorse-trans : (a b c : Candidate) → IsNoWorse a b → IsNoWorse b c → IsNoWorse a c
IsNoWorse-trans a b c h k = record {
  value = omega (arith, h.value, k.value);
  tie =
      λ e. omega (
        arith,
        h.value,
        k.value,
        h.tie (omega (arith, h.value, k.value)),
        k.tie (omega (arith, h.value, k.value)),
      );
}

record Wins (a b w : Candidate) : Type 0 where
  first : IsNoWorse w a
  second : IsNoWorse w b
  one : (w ≡ a) ⊎ (w ≡ b)

either : (t : Bool) (x y : Candidate) → (cond t x y ≡ x) ⊎ (cond t x y ≡ y)
either true x y = inl refl
either false x y = inr refl

wins : (a b : Candidate) → Wins a b (winner_of a b)
wins a b = record {
  first = record { value = grind (arith, nat_tests); tie = grind (arith, nat_tests) };
  second = record { value = grind (arith, nat_tests); tie = grind (arith, nat_tests) };
  one = elim (either (is_ahead b a) b a) [ inl h ↦ inr h | inr h ↦ inl h ];
}

pub same_candidate : (a b : Candidate) → a.value ≡ b.value → a.leaf ≡ b.leaf → a ≡ b
same_candidate a b value leaf =
    ap (λ (v : ℕ). let c : Candidate = record { value = v; leaf = a.leaf } in c) value
    ∙ ap (λ (l : ℕ). let c : Candidate = record { value = b.value; leaf = l } in c) leaf

-- neither of two comes first
winner_turned : (a b : Candidate) → winner_of a b ≡ winner_of b a
winner_turned a b =
    let here : Wins a b (winner_of a b) = wins a b in
    let there : Wins b a (winner_of b a) = wins b a in
    let one : IsNoWorse (winner_of a b) (winner_of b a) = elim there.one [
      | inl e ↦ rw e here.second
      | inr e ↦ rw e here.first
    ] in
    let two : IsNoWorse (winner_of b a) (winner_of a b) = elim here.one [
      | inl e ↦ rw e there.second
      | inr e ↦ rw e there.first
    ] in
    let value : (winner_of a b).value ≡ (winner_of b a).value = omega (arith, one.value, two.value) in
    same_candidate (winner_of a b) (winner_of b a) value
    (omega (arith, one.tie (sym value), two.tie value))

xor_none-bit : (r : ℕ) → r < 2 → bit_xor r 0 ≡ r
xor_none-bit zero low = refl
xor_none-bit (suc zero) low = refl
xor_none-bit (suc (suc r)) low = absurd (omega arith)

xor_one-bit : (r : ℕ) → r < 2 → bit_xor r 1 ≡ 1 - r
xor_one-bit zero low = refl
xor_one-bit (suc zero) low = refl
xor_one-bit (suc (suc r)) low = absurd (omega arith)

-- by halves, of which there are fewer than m
xor_none : (m n : ℕ) → n ≤ m → bit_xor n 0 ≡ n
xor_none zero n few = (let e : n ≡ 0 = omega arith in rw e refl)
xor_none (suc m) n few =
    let split : n / 2 * 2 ^ 1 + n % 2 ≡ n = omega arith in
    let low : n % 2 < 2 = omega arith in
    let less : n / 2 ≤ m = omega arith in
    sym (ap (λ (k : ℕ). bit_xor k 0) split) ∙ xor_block 1 (n / 2) 0 (n % 2) 0 low (omega arith)
    ∙ omega (arith, xor_none m (n / 2) less, xor_none-bit (n % 2) low)

-- the other child of a node's parent
sibling_is : (n : ℕ) → ((n ≡ 2 * (n / 2)) × (bit_xor n 1 ≡ 2 * (n / 2) + 1)) ⊎
    ((n ≡ 2 * (n / 2) + 1) × (bit_xor n 1 ≡ 2 * (n / 2)))
sibling_is n =
    let split : n / 2 * 2 ^ 1 + n % 2 ≡ n = omega arith in
    let low : n % 2 < 2 = omega arith in
    let parts : bit_xor n 1 ≡ bit_xor (n / 2) 0 * 2 ^ 1 + bit_xor (n % 2) 1 =
    sym (ap (λ (k : ℕ). bit_xor k 1) split) ∙ xor_block 1 (n / 2) 0 (n % 2) 1 low (omega arith) in
    let all : bit_xor n 1 ≡ n / 2 * 2 + (1 - n % 2) =
    omega (arith, parts, xor_none (n / 2) (n / 2) (omega arith), xor_one-bit (n % 2) low) in
    elim (cases_lt 0 (n % 2)) [
      | inl odd ↦ inr (omega arith, omega (arith, all))
      | inr even ↦ inl (omega arith, omega (arith, all))
    ]

pub sibling_within : (n count : ℕ) → n < 2 * count → bit_xor n 1 < 2 * count
sibling_within n count low = elim (sibling_is n) [
  | inl e ↦ omega (arith, e.1)
  | inr e ↦ omega (arith, e.1)
]

-- the winner of a node and its sibling is the winner of their parent's children
winner_above : (nodes : List Candidate) (n : ℕ) →
    winner_of (node_at nodes n) (node_at nodes (bit_xor n 1))
    ≡ winner_of (node_at nodes (2 * (n / 2))) (node_at nodes (2 * (n / 2) + 1))
winner_above nodes n = elim (sibling_is n) [
  | inl e ↦ ap (λ (k : ℕ). winner_of (node_at nodes k) (node_at nodes (bit_xor n 1))) e.0
      ∙ ap (λ (k : ℕ). winner_of (node_at nodes (2 * (n / 2))) (node_at nodes k)) e.1
  | inr e ↦ ap (λ (k : ℕ). winner_of (node_at nodes k) (node_at nodes (bit_xor n 1))) e.0
      ∙ ap (λ (k : ℕ). winner_of (node_at nodes (2 * (n / 2) + 1)) (node_at nodes k)) e.1
      ∙ winner_turned (node_at nodes (2 * (n / 2) + 1)) (node_at nodes (2 * (n / 2)))
]

-- and so does the winner of a node and of its sibling that was read
pub winner_read : (nodes : List Candidate) (count n : ℕ) (mine beside won : Candidate) →
    length nodes ≡ 2 * count → n < 2 * count → mine ≡ node_at nodes n →
    beside ≡ get_or nodes (bit_xor n 1) beside → won ≡ winner_of mine beside →
    won ≡ winner_of (node_at nodes (2 * (n / 2))) (node_at nodes (2 * (n / 2) + 1))
winner_read nodes count n mine beside won size within mine_is read is =
    let there : beside ≡ node_at nodes (bit_xor n 1) =
    get_or_read nodes (bit_xor n 1) beside (omega (arith, size, sibling_within n count within)) read
    no_candidate
    in is ∙ ap (λ (c : Candidate). winner_of c beside) mine_is
    ∙ ap (λ (c : Candidate). winner_of (node_at nodes n) c) there ∙ winner_above nodes n

-- a fact of a node that holds the winner of its two children
winner_at : (nodes : List Candidate) (count k : ℕ) → IsPlayedBut nodes count 0 → 0 < k → k < count →
    Wins (node_at nodes (2 * k)) (node_at nodes (2 * k + 1)) (node_at nodes k)
winner_at nodes count k h some inner =
    let ne : k ≢ 0 = omega arith in
    rw (h.played k some inner ne) (wins _ _)

pub value_at : (nodes : List Candidate) (count leaf : ℕ) →
    slice_index (values_of nodes count) leaf ≡ (node_at nodes (count + leaf)).value
value_at nodes count leaf = get_or-map (λ (c : Candidate). c.value) (drop count nodes) leaf no_candidate
    ∙ ap (λ (c : Candidate). c.value) (get_or-drop count nodes leaf no_candidate)

root_over_child : (nodes : List Candidate) (count : ℕ) → IsPlayedBut nodes count 0 → (k q : ℕ) → 0 < q →
    q < count → (2 * q ≡ k) ⊎ (2 * q < k) → k ≤ 2 * q + 1 → IsNoWorse (node_at nodes 1) (node_at nodes q) →
    IsNoWorse (node_at nodes 1) (node_at nodes k)
root_over_child nodes count h k q some inner (inl e) last above =
    rw (← e) (IsNoWorse-trans _ _ _ above (winner_at nodes count q h some inner).first)
root_over_child nodes count h k q some inner (inr more) last above =
    let e : k ≡ 2 * q + 1 = omega arith in
    rw e (IsNoWorse-trans _ _ _ above (winner_at nodes count q h some inner).second)

-- the root is no worse than any node
root_over : (nodes : List Candidate) (count : ℕ) → IsPlayedBut nodes count 0 → (fuel k : ℕ) → k ≤ fuel →
    0 < k → k < 2 * count → IsNoWorse (node_at nodes 1) (node_at nodes k)
root_over nodes count h zero k low some within = absurd (omega arith)
root_over nodes count h (suc fuel) k low some within = elim (eq-or-lt_of_le {n = 1} {m = k} some) [
  | inl e ↦ rw (← e) (IsNoWorse-self _)
  | inr more ↦ root_over_child nodes count h k (k / 2) (omega arith) (omega arith)
      (eq-or-lt_of_le (omega arith)) (omega arith)
      (root_over nodes count h fuel (k / 2) (omega arith) (omega arith) (omega arith))
]

-- a node holds one of the leaves
record IsLeafOf (nodes : List Candidate) (count : ℕ) (c : Candidate) : Type 0 where
  within : c.leaf < count
  same : node_at nodes (count + c.leaf) ≡ c

one_of_two : (nodes : List Candidate) (count : ℕ) (a b c : Candidate) → (c ≡ a) ⊎ (c ≡ b) →
    IsLeafOf nodes count a → IsLeafOf nodes count b → IsLeafOf nodes count c
one_of_two nodes count a b c (inl e) first second = rw e first
one_of_two nodes count a b c (inr e) first second = rw e second

own_leaf : (nodes : List Candidate) (count k leaf : ℕ) → IsPlayedBut nodes count 0 → k ≡ count + leaf →
    leaf < count → IsLeafOf nodes count (node_at nodes k)
own_leaf nodes count k leaf h e within =
    let own : (node_at nodes k).leaf ≡ leaf = rw e (h.leaves leaf within) in
    record { within = omega arith; same = ap (node_at nodes) (omega arith) }

holds_leaf : (nodes : List Candidate) (count : ℕ) → IsPlayedBut nodes count 0 → (fuel k : ℕ) →
    2 * count ≤ k + fuel → 0 < k → k < 2 * count → IsLeafOf nodes count (node_at nodes k)
holds_leaf nodes count h zero k low some within = absurd (omega arith)
holds_leaf nodes count h (suc fuel) k low some within = elim (cases_lt k count) [
  | inl inner ↦ one_of_two nodes count _ _ _ (winner_at nodes count k h some inner).one
      (holds_leaf nodes count h fuel (2 * k) (omega arith) (omega arith) (omega arith))
      (holds_leaf nodes count h fuel (2 * k + 1) (omega arith) (omega arith) (omega arith))
  | inr outer ↦ own_leaf nodes count k (k - count) h (omega arith) (omega arith)
]

pub length_of : (nodes : List Candidate) (count : ℕ) → length nodes ≡ 2 * count →
    length (values_of nodes count) ≡ count
length_of nodes count size = simp (length-map, length-drop) (omega arith)

strictly : (a b leaf other : ℕ) → b ≤ a → (b ≡ a → leaf ≤ other) → other < leaf → b < a
strictly a b leaf other most tie less = elim (eq-or-lt_of_le most) [
  | inl e ↦
      absurd (omega (arith, tie e))
  | inr above ↦ above
]

-- the root holds the best leaf, where its value is not 0
leaf_below : (nodes : List Candidate) (count leaf : ℕ) → IsPlayedBut nodes count 0 → leaf < count →
    IsNoWorse (node_at nodes 1) (node_at nodes (count + leaf))
leaf_below nodes count leaf h within = root_over nodes count h (count + leaf) (count + leaf) (omega arith)
    (omega (arith, h.some)) (omega arith)

pub value_below : (nodes : List Candidate) (count : ℕ) → IsPlayedBut nodes count 0 → (leaf : ℕ) →
    slice_index (values_of nodes count) leaf ≤ (node_at nodes 1).value
value_below nodes count h leaf = elim (cases_lt leaf count) [
  | inl within ↦ rw value_at (leaf_below nodes count leaf h within).value
  | inr past ↦ rw (get_or_past (values_of nodes count) leaf 0 (omega (arith, length_of nodes count h.size)))
      (omega arith)
]

pub none_best : (nodes : List Candidate) (count : ℕ) → IsPlayedBut nodes count 0 →
    (node_at nodes 1).value ≡ 0 → (leaf : ℕ) → slice_index (values_of nodes count) leaf ≡ 0
none_best nodes count h empty leaf = omega (arith, value_below nodes count h leaf)

pub root_best : (nodes : List Candidate) (count : ℕ) → IsPlayedBut nodes count 0 →
    0 < (node_at nodes 1).value → IsBest (values_of nodes count) (node_at nodes 1).leaf
root_best nodes count h some =
    let held : IsLeafOf nodes count (node_at nodes 1) =
    holds_leaf nodes count h (2 * count) 1 (omega arith) (omega arith) (omega (arith, h.some)) in
    let value : slice_index (values_of nodes count) (node_at nodes 1).leaf ≡ (node_at nodes 1).value =
    value_at nodes count (node_at nodes 1).leaf ∙ ap (λ (c : Candidate). c.value) held.same in
    record {
      within = omega (arith, length_of nodes count h.size, held.within);
      some = omega (arith, value);
      greatest = λ other. omega (arith, value, value_below nodes count h other);
      least = λ other less.
          let below : IsNoWorse (node_at nodes 1) (node_at nodes (count + other)) =
          leaf_below nodes count other h (omega (arith, held.within)) in
          let own : (node_at nodes (count + other)).leaf ≡ other =
          h.leaves other (omega (arith, held.within)) in
          let tie : (node_at nodes (count + other)).value ≡ (node_at nodes 1).value →
          (node_at nodes 1).leaf ≤ (node_at nodes (count + other)).leaf = below.tie in
          let most : (node_at nodes (count + other)).value ≤ (node_at nodes 1).value = below.value in
          rw (value_at nodes count other, value) (strictly _ _ _ _ most (λ e. rw (own) at (tie e)) less);
    }

-- a leaf is set: its parent has to be played again
pub leaf_set : (nodes : List Candidate) (count leaf value : ℕ) → IsPlayedBut nodes count 0 → leaf < count →
    IsPlayedBut (set nodes (count + leaf) (record { value = value; leaf = leaf })) count ((count + leaf) / 2)
leaf_set nodes count leaf value h within = record {
  some = h.some;
  size = length-set nodes (count + leaf) _ ∙ h.size;
  leaves = λ other low. elim (eq_or_ne other leaf) [
    | inl e ↦ rw (
      e,
      get_or-set_same nodes (count + leaf) (record { value = value; leaf = leaf }) no_candidate
          (omega (arith, h.size)),
    ) refl
    | inr ne ↦ rw (get_or-set_other nodes (count + leaf) (count + other)
        (record { value = value; leaf = leaf }) no_candidate (omega arith)) (h.leaves other low)
  ];
  played = λ k some low ne.
      let e0 = get_or-set_other nodes (count + leaf) k (record { value = value; leaf = leaf }) no_candidate
      (omega arith) in
      let e1 = get_or-set_other nodes (count + leaf) (2 * k)
      (record { value = value; leaf = leaf }) no_candidate (omega arith) in
      let e2 = get_or-set_other nodes (count + leaf) (2 * k + 1)
      (record { value = value; leaf = leaf }) no_candidate (omega arith) in
      rw (e0, e1, e2) (h.played k some low (omega arith));
}

pub values_set : (nodes : List Candidate) (count leaf : ℕ) (c : Candidate) →
    values_of (set nodes (count + leaf) c) count ≡ slice_set (values_of nodes count) leaf c.value
values_set nodes count leaf c = rw drop-set-add
    (map-set (λ (x : Candidate). x.value) (drop count nodes) leaf c)

-- an inner node is played again: its parent is then to be played again
pub node_played : (nodes : List Candidate) (count k : ℕ) (c : Candidate) → IsPlayedBut nodes count k → 0 < k →
    k < count → c ≡ winner_of (node_at nodes (2 * k)) (node_at nodes (2 * k + 1)) →
    IsPlayedBut (set nodes k c) count (k / 2)
node_played nodes count k c h some low won = record {
  some = h.some;
  size = length-set nodes k c ∙ h.size;
  leaves = λ leaf within. rw (get_or-set_other nodes k (count + leaf) c no_candidate (omega arith))
      (h.leaves leaf within);
  played = λ j positive inner ne.
      let e1 = get_or-set_other nodes k (2 * j) c no_candidate (omega arith) in
      let e2 = get_or-set_other nodes k (2 * j + 1) c no_candidate (omega arith) in
      rw (e1, e2) (elim (eq_or_ne j k) [
        | inl e ↦ rw (e, get_or-set_same nodes k c no_candidate (omega (arith, h.size))) won
        | inr other ↦ rw (get_or-set_other nodes k j c no_candidate other) (h.played j positive inner other)
      ]);
}

-- an inner node has its winner already: all nodes are played
pub node_kept : (nodes : List Candidate) (count k : ℕ) → IsPlayedBut nodes count k →
    node_at nodes k ≡ winner_of (node_at nodes (2 * k)) (node_at nodes (2 * k + 1)) →
    IsPlayedBut nodes count 0
node_kept nodes count k h won = record {
  some = h.some;
  size = h.size;
  leaves = h.leaves;
  played = λ j positive inner ne. elim (eq_or_ne j k) [
    | inl e ↦ rw e won
    | inr other ↦ h.played j positive inner other
  ];
}

pub values_kept : (nodes : List Candidate) (count k : ℕ) (c : Candidate) → k < count →
    values_of (set nodes k c) count ≡ values_of nodes count
values_kept nodes count k c low = rw (drop-set-lt count nodes k c low) refl

-- ---- how far the value of a leaf has come

-- A leaf got another value, and the nodes above it up to this one hold their new winners.
pub record HasClimbed (values : List ℕ) (leaf value : ℕ) (nodes : List Candidate) (count node : ℕ)
    (winner : Candidate) : Type 0 where
  pub played : IsPlayedBut nodes count (node / 2)
  pub stands : winner ≡ node_at nodes node
  pub some : 0 < node
  pub within : node < 2 * count
  pub are : values_of nodes count ≡ slice_set values leaf value

pub leaf_begins : (values : List ℕ) (leaf value : ℕ) (nodes : List Candidate) (count : ℕ) →
    IsPlayedBut nodes count 0 → values_of nodes count ≡ values → leaf < length values →
    (count ≡ length values) ×
    HasClimbed values leaf value (set nodes (count + leaf) (record { value = value; leaf = leaf })) count
    (count + leaf) (record { value = value; leaf = leaf })
leaf_begins values leaf value nodes count h is low =
    let size : length values ≡ count = ap length (sym is) ∙ length_of nodes count h.size in (
      sym size,
      record {
        played = leaf_set nodes count leaf value h (omega (arith, size, low));
        stands = sym (get_or-set_same nodes (count + leaf) _ no_candidate (omega (arith, h.size, size, low)));
        some = omega (arith, h.some);
        within = omega (arith, size, low);
        are = values_set nodes count leaf _ ∙ ap (λ (xs : List ℕ). slice_set xs leaf value) is;
      },
    )

pub climbs : (values : List ℕ) (leaf value : ℕ) (nodes : List Candidate) (count node : ℕ)
    (winner beside won : Candidate) → HasClimbed values leaf value nodes count node winner → 1 < node →
    beside ≡ get_or nodes (bit_xor node 1) beside → won ≡ winner_of winner beside →
    HasClimbed values leaf value (set nodes (node / 2) won) count (node / 2) won
climbs values leaf value nodes count node winner beside won h more read is =
    let inner : node / 2 < count = omega (arith, h.within) in
    record {
      played = node_played nodes count (node / 2) won h.played (omega (arith, more)) inner
          (winner_read nodes count node winner beside won h.played.size h.within h.stands read is);
      stands = sym (get_or-set_same nodes (node / 2) won no_candidate (omega (arith, h.played.size, inner)));
      some = omega (arith, more);
      within = omega (arith, inner);
      are = values_kept nodes count (node / 2) won inner ∙ h.are;
    }

map-replicate : (c : Candidate) (n : ℕ) → map (λ (x : Candidate). x.value) (replicate n c)
    ≡ replicate n c.value
map-replicate c zero = refl
map-replicate c (suc n) = ap (λ t. c.value ∷ t) (map-replicate c n)

map_of_replicate : (n m : ℕ) (c : Candidate) → n ≡ m →
    map (λ (x : Candidate). x.value) (replicate n c) ≡ replicate m c.value
map_of_replicate n m c e = map-replicate c n ∙ ap (λ k. replicate k c.value) e

get_zero : (n i : ℕ) → get_or {A = ℕ} (replicate {A = ℕ} n 0) i 0 ≡ zero
get_zero n i = elim (cases_lt i n) [
  | inl low ↦ get_or-replicate n i 0 0 low
  | inr past ↦
      get_or_past (replicate n 0) i 0 (omega (arith, length-replicate {A = ℕ} n 0))
]

leaf_zero : (nodes : List Candidate) (count k leaf : ℕ) (c : Candidate) → k ≡ count + leaf → c.value ≡ 0 →
    values_of nodes count ≡ replicate count 0 → values_of (set nodes k c) count ≡ replicate count 0
leaf_zero nodes count k leaf c e own zeros =
    let step : set (values_of nodes count) leaf c.value ≡ replicate {A = ℕ} count 0 =
    rw (own, zeros) (ap (set (replicate {A = ℕ} count 0) leaf) (sym (get_zero count leaf))
    ∙ set-get_or {A = ℕ} (replicate {A = ℕ} count 0) leaf 0) in
    rw e (values_set nodes count leaf c ∙ step)

-- the tree before any leaf is set, filled from its last node on
pub none_filled : (count : ℕ) → IsFilledFrom (replicate (2 * count) no_candidate) count (2 * count)
none_filled count = record {
  size = length-replicate (2 * count) no_candidate;
  leaves = λ leaf within from. absurd (omega arith);
  played = λ k from inner. absurd (omega arith);
  zero = rw (drop-replicate count (2 * count) no_candidate) (map_of_replicate _ _ _ (omega arith));
}

pub one_filled : (nodes : List Candidate) (count k from : ℕ) (c : Candidate) → IsFilledFrom nodes count from →
    k + 1 ≡ from → 0 < k → k < 2 * count
    → (k < count → c ≡ winner_of (node_at nodes (2 * k)) (node_at nodes (2 * k + 1)))
    → (count ≤ k → c ≡ record { value = 0; leaf = k - count })
    → IsFilledFrom (set nodes k c) count k
one_filled nodes count k from c h next some within inner leaf = record {
  size = length-set nodes k c ∙ h.size;
  leaves = λ other low above. elim (eq_or_ne (count + other) k) [
    | inl e ↦ rw (e, get_or-set_same nodes k c no_candidate (omega (arith, h.size)))
        (ap (λ (x : Candidate). x.leaf) (leaf (omega arith)) ∙ omega arith)
    | inr ne ↦ rw (get_or-set_other nodes k (count + other) c no_candidate ne)
        (h.leaves other low (omega arith))
  ];
  played = λ j above low.
      let e1 = get_or-set_other nodes k (2 * j) c no_candidate (omega arith) in
      let e2 = get_or-set_other nodes k (2 * j + 1) c no_candidate (omega arith) in
      rw (e1, e2) (elim (eq_or_ne j k) [
        | inl e ↦ rw (e, get_or-set_same nodes k c no_candidate (omega (arith, h.size))) (inner (omega arith))
        | inr ne ↦ rw (get_or-set_other nodes k j c no_candidate ne) (h.played j (omega arith) low)
      ]);
  zero = elim (cases_lt k count) [
    | inl low ↦ values_kept nodes count k c low ∙ h.zero
    | inr high ↦ leaf_zero nodes count k (k - count) c (omega arith)
        (ap (λ (x : Candidate). x.value) (leaf high)) h.zero
  ];
}

pub filled_played : (nodes : List Candidate) (count : ℕ) → IsFilledFrom nodes count 1 → 0 < count →
    IsPlayedBut nodes count 0
filled_played nodes count h some = record {
  some = some;
  size = h.size;
  leaves = λ leaf within. h.leaves leaf within (omega arith);
  played = λ k positive inner ne. h.played k positive inner;
}

-- the children of a node are worth no more than it, and one of them as much
pub children_below : (nodes : List Candidate) (count k : ℕ) → IsPlayedBut nodes count 0 → 0 < k → k < count →
    ((node_at nodes (2 * k)).value ≤ (node_at nodes k).value) ×
    ((node_at nodes (2 * k + 1)).value ≤ (node_at nodes k).value)
children_below nodes count k h some inner =
    let w = winner_at nodes count k h some inner in
    (w.first.value, w.second.value)

pub one_child : (nodes : List Candidate) (count k : ℕ) → IsPlayedBut nodes count 0 → 0 < k → k < count →
    ((node_at nodes k).value ≡ (node_at nodes (2 * k)).value) ⊎
    ((node_at nodes k).value ≡ (node_at nodes (2 * k + 1)).value)
one_child nodes count k h some inner = elim ((winner_at nodes count k h some inner).one) [
  | inl e ↦ inl (ap (λ (c : Candidate). c.value) e)
  | inr e ↦ inr (ap (λ (c : Candidate). c.value) e)
]
