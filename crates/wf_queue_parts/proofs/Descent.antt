-- The way down a tournament to the first leaf from a value on: the leaves below a node follow one another.
use Rattle.std.proofs.Common.{◌≡◌, ℕ, zero, suc, ◌+◌, ◌-◌, ◌*◌, ◌^◌, ◌<◌, ◌≤◌, inl, inr, List, refl, sym, ap, ◌∙◌, subst, arith}
use Rattle.std.proofs.lemmas.Bool.{cases_lt}
use Rattle.std.proofs.Math.Nat.{mul-le-mul_left}
use Rattle.std.specs.Prelude.{slice_index}
use Rattle.wf_queue_parts.specs.declared.peak.Candidate.{Candidate}
use Rattle.wf_queue_parts.specs.Best.{IsFirstFrom}
use Rattle.wf_queue_parts.specs.Tree.{node_at, values_of, IsPlayedBut}
use Rattle.wf_queue_parts.proofs.TreeLemmas.{children_below, one_child, value_at, value_below, length_of}

pub twice : (h : ℕ) → 2 ^ suc h ≡ 2 * 2 ^ h
twice h = grind arith

pub some_power : (h : ℕ) → 1 ≤ 2 ^ h
some_power zero = omega arith
some_power (suc h) = let e = twice h in let some = some_power h in omega (arith, e, some)

-- the leaves below a node, h levels down, are worth no more than it
leaf_under : (nodes : List Candidate) (count : ℕ) → IsPlayedBut nodes count 0 → (h k q : ℕ) → 0 < k →
    k * 2 ^ h ≤ q → q < (k + 1) * 2 ^ h → q < 2 * count →
    (node_at nodes q).value ≤ (node_at nodes k).value
leaf_under nodes count t zero k q some least most within =
    let same : q ≡ k = omega (arith, least, most) in
    subst (λ n. (node_at nodes n).value ≤ (node_at nodes k).value) (sym same) (omega arith)
leaf_under nodes count t (suc h) k q some least most within =
    let e = twice h in
    let p : ℕ = 2 ^ h in
    let wide : k * 1 ≤ k * p = mul-le-mul_left k (some_power h) in
    let at : k * 2 ^ suc h ≡ 2 * (k * p) = omega (arith, ap (λ n. k * n) e) in
    let to : (k + 1) * 2 ^ suc h ≡ 2 * (k * p) + 2 * p = omega (arith, ap (λ n. (k + 1) * n) e) in
    let inner : k < count = omega (arith, at, least, within, wide) in
    let both = children_below nodes count k t some inner in
    elim (cases_lt q ((2 * k + 1) * p)) [
      | inl left ↦
          let below = leaf_under nodes count t h (2 * k) q (omega (arith, some)) (omega (arith, at, least))
          (omega (arith, left)) within in
          let over = both.0 in
          omega (arith, below, over)
      | inr right ↦
          let below = leaf_under nodes count t h (2 * k + 1) q (omega arith) (omega (arith, right))
          (omega (arith, to, most)) within in
          let over = both.1 in
          omega (arith, below, over)
    ]

-- A node on the way down: the leaves below the node are consecutive, all leaves before them are worth less,
-- and one of them is not.
pub record IsOnTheWay (nodes : List Candidate) (count low node : ℕ) : Type 0 where
  pub height : ℕ
  pub some : 0 < node
  pub first : count ≤ node * 2 ^ height
  pub last : (node + 1) * 2 ^ height ≤ 2 * count
  pub from : low ≤ (node_at nodes node).value
  pub before : (q : ℕ) → count ≤ q → q < node * 2 ^ height → (node_at nodes q).value < low

pub way_begins : (nodes : List Candidate) (count low levels : ℕ) → count ≡ 2 ^ levels →
    low ≤ (node_at nodes 1).value → IsOnTheWay nodes count low 1
way_begins nodes count low levels e from = record {
  height = levels;
  some = omega arith;
  first = omega (arith, e);
  last = omega (arith, e);
  from = from;
  before = λ q least most. absurd (omega (arith, e, least, most));
}

pub way_inside : (nodes : List Candidate) (count low node : ℕ) → IsOnTheWay nodes count low node →
    node < 2 * count
way_inside nodes count low node w =
    let wide : (node + 1) * 1 ≤ (node + 1) * 2 ^ w.height =
    mul-le-mul_left (node + 1) (some_power w.height) in
    let last = w.last in
    omega (arith, wide, last)

-- an inner node has children
height_of : (count node h : ℕ) → node < count → count ≤ node * 2 ^ h → (g : ℕ) × (h ≡ suc g)
height_of count node zero inner first = absurd (omega (arith, inner, first))
height_of count node (suc g) inner first = (g, refl)

pub way_left : (nodes : List Candidate) (count low node : ℕ) → IsOnTheWay nodes count low node →
    node < count → low ≤ (node_at nodes (node * 2)).value →
    IsOnTheWay nodes count low (node * 2)
way_left nodes count low node w inner from =
    let g = height_of count node w.height inner w.first in
    let e : 2 ^ w.height ≡ 2 * 2 ^ g.0 = ap (λ n. 2 ^ n) g.1 ∙ twice g.0 in
    let first = w.first in
    let last = w.last in
    let some = w.some in
    let same : node * 2 * 2 ^ g.0 ≡ node * 2 ^ w.height = omega (arith, ap (λ n. node * n) e) in
    let whole : (node + 1) * 2 ^ w.height ≡ 2 * (node * 2 ^ g.0) + 2 * 2 ^ g.0 =
    omega (arith, ap (λ n. (node + 1) * n) e) in
    record {
      height = g.0;
      some = omega (arith, some);
      first = omega (arith, same, first);
      last = omega (arith, whole, last);
      from = from;
      before = λ q least most. w.before q least (omega (arith, same, most));
    }

pub way_right : (nodes : List Candidate) (count low node : ℕ) → IsPlayedBut nodes count 0 →
    IsOnTheWay nodes count low node → node < count →
    (node_at nodes (node * 2)).value < low → low ≤ (node_at nodes node).value →
    IsOnTheWay nodes count low (node * 2 + 1)
way_right nodes count low node t w inner less from =
    let g = height_of count node w.height inner w.first in
    let p : ℕ = 2 ^ g.0 in
    let e : 2 ^ w.height ≡ 2 * p = ap (λ n. 2 ^ n) g.1 ∙ twice g.0 in
    let first = w.first in
    let last = w.last in
    let some = w.some in
    let same : node * 2 * p ≡ node * 2 ^ w.height = omega (arith, ap (λ n. node * n) e) in
    let whole : (node + 1) * 2 ^ w.height ≡ 2 * (node * p) + 2 * p =
    omega (arith, ap (λ n. (node + 1) * n) e) in
    record {
      height = g.0;
      some = omega arith;
      first = omega (arith, same, first);
      last = omega (arith, whole, last);
      from = right_from nodes count low node t some inner less from;
      before = λ q least most.
          elim (cases_lt q (node * 2 ^ w.height)) [
            | inl early ↦ w.before q least early
            | inr late ↦
                let under = leaf_under nodes count t g.0 (node * 2) q (omega (arith, some))
                (omega (arith, same, late)) most (omega (arith, whole, last, most, e)) in
                omega (arith, under, less)
          ];
    }
  where
    right_from : (nodes : List Candidate) (count low node : ℕ) → IsPlayedBut nodes count 0 → 0 < node →
        node < count → (node_at nodes (node * 2)).value < low →
        low ≤ (node_at nodes node).value → low ≤ (node_at nodes (node * 2 + 1)).value
    right_from nodes count low node t some inner less from =
        elim (one_child nodes count node t some inner) [
          | inl e ↦
              let same : node * 2 ≡ 2 * node = omega arith in
              let value = ap (λ n. (node_at nodes n).value) same in
              absurd (omega (arith, e, value, less, from))
          | inr e ↦
              let same : node * 2 + 1 ≡ 2 * node + 1 = omega arith in
              let value = ap (λ n. (node_at nodes n).value) same in
              omega (arith, e, value, from)
        ]

at_leaf : (count node h : ℕ) → count ≤ node → (node + 1) * 2 ^ h ≤ 2 * count → h ≡ 0
at_leaf count node zero outer last = refl
at_leaf count node (suc g) outer last =
    let e = twice g in
    let wide : (node + 1) * 1 ≤ (node + 1) * 2 ^ g = mul-le-mul_left (node + 1) (some_power g) in
    let whole : (node + 1) * 2 ^ suc g ≡ 2 * ((node + 1) * 2 ^ g) =
    omega (arith, ap (λ n. (node + 1) * n) e) in
    absurd (omega (arith, whole, wide, outer, last))

-- the way down ends at the leaf
pub way_ends : (nodes : List Candidate) (count low node : ℕ) → IsPlayedBut nodes count 0 →
    IsOnTheWay nodes count low node → count ≤ node →
    IsFirstFrom (values_of nodes count) low (node_at nodes node).leaf
way_ends nodes count low node t w outer =
    let e = at_leaf count node w.height outer w.last in
    let one : 2 ^ w.height ≡ 1 = ap (λ n. 2 ^ n) e in
    let place : node * 2 ^ w.height ≡ node = omega (arith, ap (λ n. node * n) one) in
    let after : (node + 1) * 2 ^ w.height ≡ node + 1 = omega (arith, ap (λ n. (node + 1) * n) one) in
    let last = w.last in
    let leaf : ℕ = node - count in
    let within : leaf < count = omega (arith, after, last, outer) in
    let there : count + leaf ≡ node = omega (arith, outer) in
    let its : (node_at nodes node).leaf ≡ leaf = ap (λ n. (node_at nodes n).leaf) (sym there)
    ∙ t.leaves leaf within in
    let from = w.from in
    let value = value_at nodes count leaf in
    let same = ap (λ n. (node_at nodes n).value) there in
    let size = length_of nodes count t.size in
    subst (IsFirstFrom (values_of nodes count) low) (sym its) (record {
      within = omega (arith, size, within);
      from = omega (arith, value, same, from);
      least = λ other less.
          let early = w.before (count + other) (omega arith) (omega (arith, place, less, there)) in
          let here = value_at nodes count other in
          omega (arith, here, early);
    })

pub none_from : (nodes : List Candidate) (count low : ℕ) → IsPlayedBut nodes count 0 →
    (node_at nodes 1).value < low → (leaf : ℕ) → slice_index (values_of nodes count) leaf < low
none_from nodes count low t less leaf = let below = value_below nodes count t leaf in
    omega (arith, below, less)
