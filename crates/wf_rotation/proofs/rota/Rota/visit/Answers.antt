-- The first key of new, or of old, gets a quantum, wins or moves, as in the definition of a visit.
use Rattle.std.proofs.Common.{◌≡◌, ◌∙◌, ◌-◌, ◌^◌, ◌<◌, ℕ, true, false, length, set, ap, sym, subst, arith, rules}
use Rattle.std.specs.Prelude.{ℤ, pos, negsuc, ◌+ℤ◌, ◌≤ℤ◌, ◌<ℤ◌, int_le}
use mir.Val.{to_z, of_z}
use mir.Syntax.{w64}
use Rattle.std.proofs.lemmas.Int.{ints}
use Rattle.std.proofs.lemmas.List.{get_or_default}
use Rattle.wf_rotation.specs.Lists.{lists_at}
use Rattle.wf_rotation.specs.Rotas.{Rotas, deficit_at, quantum_at}
use Rattle.wf_rotation.specs.Pass.{passed_first}
use Rattle.wf_rotation.specs.Visits.{key_paid, is_new}
use Rattle.wf_rotation.specs.declared.side.Side.{Side}
use Rattle.wf_rotation.specs.declared.side.Side.TheVariants.{New, Old}
use Rattle.wf_rotation.proofs.HomeLemmas.{kept_deficit}
use Rattle.wf_rotation.proofs.VisitLemmas.{IsNext, next_below, visit_paid, visit_won, visit_passed, not_new, owing}
use Rattle.wf_rotation.proofs.rota.Rota.visit.Goals as goal
use Rattle.wf_rotation.proofs.rota.Rota.visit.Goals.{in-Some, in-None+in-Some-first, in-New, in_default, After-index, After-index_mut}

pub index-requires : goal.index-requires
index-requires c =
    let below : c.match-first.side.1 < c.self.inside.links.keys = elim c.match-first.branch [
      | in-Some w ↦ next_below c.self.inside.links c.args.list New w.in-Some.key c.match-first.side w.side-is
          c.first.ensures.disjoint (sym c.first.ensures.key ∙ w.in-Some.is)
      | in-None+in-Some-first w ↦ next_below c.self.inside.links c.args.list Old w.in-Some-first.key
          c.match-first.side w.side-is w.first-in-None.ensures.disjoint
          (sym w.first-in-None.ensures.key ∙ w.in-Some-first.is)
    ] in
    omega (arith, below, c.self.invariant.keys)

-- the key is next, with its list
next : (c : After-index) → IsNext (lists_at c.args.self.now.lists c.args.list) c.match-first.side.0
    c.match-first.side.1
next c = subst (λ (v : Rotas). IsNext (lists_at v.lists c.args.list) c.match-first.side.0
    c.match-first.side.1) c.self.view_is (elim c.match-first.branch [
      | in-Some w ↦ subst (λ (n : Side × ℕ). IsNext (lists_at c.self.inside.links.lists c.args.list) n.0 n.1)
          (sym w.side-is) (sym c.first.ensures.key ∙ w.in-Some.is)
      | in-None+in-Some-first w ↦ subst (λ (n : Side × ℕ).
          IsNext (lists_at c.self.inside.links.lists c.args.list) n.0 n.1) (sym w.side-is)
          (sym c.first.ensures.key ∙ w.in-None.is, sym w.first-in-None.ensures.key ∙ w.in-Some-first.is)
    ])

below : (c : After-index) → c.match-first.side.1 < length c.self.inside.deficits.items
below c = elim c.match-first.branch [
  | in-Some w ↦ omega (
    arith,
    c.self.invariant.keys,
    next_below c.self.inside.links c.args.list New w.in-Some.key c.match-first.side w.side-is
        c.first.ensures.disjoint (sym c.first.ensures.key ∙ w.in-Some.is),
  )
  | in-None+in-Some-first w ↦ omega (
    arith,
    c.self.invariant.keys,
    next_below c.self.inside.links c.args.list Old w.in-Some-first.key c.match-first.side w.side-is
        w.first-in-None.ensures.disjoint (sym w.first-in-None.ensures.key ∙ w.in-Some-first.is),
  )
]

in_keys : (c : After-index) → c.match-first.side.1 < length c.args.self.now.deficits
in_keys c = subst (λ (v : Rotas). c.match-first.side.1 < length v.deficits) c.self.view_is (below c)

pub index-requires-then-index-le0 : goal.index-requires-then-index-le0
index-requires-then-index-le0 c = omega (
  arith,
  below (goal.at.index-requires-then-index-le0 c).After-index,
  c.self.invariant.quanta_keys,
)

pub index_mut-requires : goal.index_mut-requires
index_mut-requires c = omega (arith, below (goal.at.index_mut-requires c).After-index)

pub bounds-ready-at : goal.bounds-ready-at
bounds-ready-at c = omega (arith, in_keys (goal.at.bounds-ready-at c).After-index, c.requires.ready)

-- the deficit that is read is the key's
read : (c : After-index) → to_z w64 (of_z w64 c.index.result.now)
    ≡ deficit_at c.args.self.now.deficits c.match-first.side.1
read c =
    let same : c.index.result.now ≡ deficit_at c.self.inside.deficits.items c.match-first.side.1 =
    c.index.ensures ∙ get_or_default c.self.inside.deficits.items c.match-first.side.1 _ (pos 0) (below c) in
    let low : negsuc (2 ^ 62 - 1) ≤ℤ deficit_at c.self.inside.deficits.items c.match-first.side.1 =
    c.self.invariant.low c.match-first.side.1 in
    let high : deficit_at c.self.inside.deficits.items c.match-first.side.1 <ℤ pos (2 ^ 32) =
    c.self.invariant.high c.match-first.side.1 in
    let plain : to_z w64 (of_z w64 c.index.result.now)
    ≡ deficit_at c.self.inside.deficits.items c.match-first.side.1 =
    rw same (omega (arith, ints)) in
    plain ∙ ap (λ (v : Rotas). deficit_at v.deficits c.match-first.side.1) c.self.view_is

-- the deficit that is written and the quantum that is added are the key's
was : (c : After-index_mut) → c.match-first.side.1 < length c.self.inside.deficits.items →
    c.index_mut.result.now ≡ deficit_at c.self.inside.deficits.items c.match-first.side.1
was c low = c.index_mut.ensures.value
    ∙ get_or_default c.self.inside.deficits.items c.match-first.side.1 _ (pos 0) low

gets : (c : After-index_mut) → c.match-first.side.1 < length c.self.inside.deficits.items →
    c.from.result ≡ pos (quantum_at c.self.inside.quanta.items c.match-first.side.1)
gets c low = c.from.ensures ∙ ap pos (c.index-then-index-le0.ensures
    ∙ get_or_default c.self.inside.quanta.items c.match-first.side.1 _ 1
    (omega (arith, low, c.self.invariant.quanta_keys)))

pub overflow_add-index_mut : goal.overflow_add-index_mut
overflow_add-index_mut c =
    let at = goal.at.overflow_add-index_mut c in
    let fits : quantum_at c.self.inside.quanta.items c.match-first.side.1 < 2 ^ 32 =
    c.self.invariant.fits c.match-first.side.1 in
    let low : negsuc (2 ^ 62 - 1) ≤ℤ deficit_at c.self.inside.deficits.items c.match-first.side.1 =
    c.self.invariant.low c.match-first.side.1 in
    let high : deficit_at c.self.inside.deficits.items c.match-first.side.1 <ℤ pos (2 ^ 32) =
    c.self.invariant.high c.match-first.side.1 in
    rw (was at.After-index_mut (below at.After-index), gets at.After-index_mut (below at.After-index))
    (omega (arith, ints))

-- the deficit of the key after it got its quantum
paid : (c : After-index_mut) → c.match-first.side.1 < length c.self.inside.deficits.items →
    to_z w64 (of_z w64 (to_z w64 (of_z w64 c.index_mut.result.now) +ℤ to_z w64 (of_z w64 c.from.result)))
    ≡ deficit_at c.self.inside.deficits.items c.match-first.side.1
    +ℤ pos (quantum_at c.self.inside.quanta.items c.match-first.side.1)
paid c in_deficits =
    let fits : quantum_at c.self.inside.quanta.items c.match-first.side.1 < 2 ^ 32 =
    c.self.invariant.fits c.match-first.side.1 in
    let low : negsuc (2 ^ 62 - 1) ≤ℤ deficit_at c.self.inside.deficits.items c.match-first.side.1 =
    c.self.invariant.low c.match-first.side.1 in
    let high : deficit_at c.self.inside.deficits.items c.match-first.side.1 <ℤ pos (2 ^ 32) =
    c.self.invariant.high c.match-first.side.1 in
    rw (was c in_deficits, gets c in_deficits) (omega (arith, ints))

pub invariant_of-self : goal.invariant_of-self
invariant_of-self c =
    let at = goal.at.invariant_of-self c in
    let read_is : to_z w64 (of_z w64 c.index.result.now)
    ≡ deficit_at c.self.inside.deficits.items c.match-first.side.1 =
    read at.After-index
    ∙ sym (ap (λ (v : Rotas). deficit_at v.deficits c.match-first.side.1) c.self.view_is) in
    let fits : quantum_at c.self.inside.quanta.items c.match-first.side.1 < 2 ^ 32 =
    c.self.invariant.fits c.match-first.side.1 in
    let low : negsuc (2 ^ 62 - 1) ≤ℤ deficit_at c.self.inside.deficits.items c.match-first.side.1 =
    c.self.invariant.low c.match-first.side.1 in
    let owes : deficit_at c.self.inside.deficits.items c.match-first.side.1 ≤ℤ pos 0 =
    owing _ (subst (λ (d : ℤ). int_le d (pos 0) ≡ true) read_is c.if-index-le0.true) in
    kept_deficit _ _ _ _ c.self.invariant c.match-first.side.1 _
    (rw (paid at.After-index_mut (below at.After-index)) (omega (arith, ints)))
    (rw (paid at.After-index_mut (below at.After-index)) (omega (arith, ints)))

pub returns-then-index-le0-clause-visited : goal.returns-then-index-le0-clause-visited
returns-then-index-le0-clause-visited c =
    let at = goal.at.returns-then-index-le0-clause-visited c in
    visit_paid c.args.self.now c.args.ready.now c.args.list c.match-first.side.1 c.requires.in_lists
    (in_keys at.After-index) c.match-first.side.0 c.move_first.new.self (next at.After-index)
    (subst (λ (d : ℤ). int_le d (pos 0) ≡ true) (read at.After-index) c.if-index-le0.true)
    (c.move_first.ensures.moved
    ∙ ap (λ (d : ℤ). let w : Rotas = record {
      lists = passed_first c.self.inside.links.lists c.args.list c.match-first.side.0
          c.match-first.side.1 true;
      deficits = set c.self.inside.deficits.items c.match-first.side.1 d;
      quanta = c.self.inside.quanta.items;
    } in w) (paid at.After-index_mut (below at.After-index))
    ∙ ap (λ (v : Rotas). let w : Rotas = record v {
      lists = passed_first v.lists c.args.list c.match-first.side.0 c.match-first.side.1 true;
      deficits = key_paid v c.match-first.side.1;
    } in w) c.self.view_is)

pub returns-then-ready-at-clause-visited : goal.returns-then-ready-at-clause-visited
returns-then-ready-at-clause-visited c =
    let at = (goal.at.returns-then-ready-at-clause-visited c).After-index in
    visit_won c.args.self.now c.args.ready.now c.args.list c.match-first.side.1 c.requires.in_lists
    (in_keys at) c.match-first.side.0 (next at)
    (subst (λ (d : ℤ). int_le d (pos 0) ≡ false) (read at) c.if-index-le0.false) (search rules)

pub returns-after-matches-clause-visited : goal.returns-after-matches-clause-visited
returns-after-matches-clause-visited c =
    let at = (goal.at.returns-after-matches-clause-visited c).After-index in
    visit_passed c.args.self.now c.args.ready.now c.args.list c.match-first.side.1 c.requires.in_lists
    (in_keys at) c.match-first.side.0 c.move_first-else-ready-at.new.self c.match-matches.matches
    (next at)
    (subst (λ (d : ℤ). int_le d (pos 0) ≡ false) (read at) c.if-index-le0.false) (search rules)
    (elim c.match-matches.branch [
      | in-New w ↦ w.matches-is ∙ sym (ap is_new w.in-New.is)
      | in_default w ↦ w.matches-is ∙ not_new c.match-first.side.0 w.in_default.not-New
    ]) c.move_first-else-ready-at.ensures.moved
