-- The way down goes left if a leaf of the left half has the value, and else right.
use Rattle.std.proofs.Common.{◌≡◌, ℕ, List, ◌*◌, ◌<◌, ◌∙◌, length, ap, sym, subst, arith}
use Rattle.std.proofs.lemmas.List.{get_or_default}
use Rattle.std.specs.Prelude.{slice_index}
use Rattle.wf_queue_parts.specs.declared.peak.Candidate.{Candidate}
use Rattle.wf_queue_parts.specs.Best.{IsFirstFrom}
use Rattle.wf_queue_parts.specs.Tree.{no_candidate, node_at, values_of}
use Rattle.wf_queue_parts.proofs.TreeLemmas.{length_of}
use Rattle.wf_queue_parts.proofs.Descent.{way_begins, way_left, way_right, way_ends, way_inside, none_from}
use Rattle.wf_queue_parts.proofs.peak.Peak.first_from.Goals as goal

pub returns-then-index-least-clause-none : goal.returns-then-index-least-clause-none
returns-then-index-least-clause-none c =
    let top : node_at c.self.inside.nodes.items 1 ≡ c.index.result.now =
    get_or_default c.self.inside.nodes.items 1 no_candidate c.index.result.now
    (omega (arith, c.self.invariant.size, c.self.invariant.some)) ∙ sym c.index.ensures in
    let value = ap (λ (x : Candidate). x.value) top in
    λ leaf within. subst (λ (values : List ℕ). slice_index values leaf < c.args.least) c.self.view_is
    (none_from c.self.inside.nodes.items c.self.inside.count c.args.least c.self.invariant
    (omega (arith, value, c.if-index-least.true)) leaf)

pub loop-node-init : goal.loop-node-init
loop-node-init c =
    let top : node_at c.self.inside.nodes.items 1 ≡ c.index.result.now =
    get_or_default c.self.inside.nodes.items 1 no_candidate c.index.result.now
    (omega (arith, c.self.invariant.size, c.self.invariant.some)) ∙ sym c.index.ensures in
    let value = ap (λ (x : Candidate). x.value) top in
    let count = sym (length_of c.self.inside.nodes.items c.self.inside.count c.self.invariant.size)
    ∙ ap (λ (values : List ℕ). length values) c.self.view_is ∙ c.requires.1 in
    way_begins c.self.inside.nodes.items c.self.inside.count c.args.least c.requires.0 count
    (omega (arith, value, c.if-index-least.false))

pub loop-node-preserved-then-index-least-2 : goal.loop-node-preserved-then-index-least-2
loop-node-preserved-then-index-least-2 c =
    let w = c.loop-node.invariant in
    let here : node_at c.self.inside.nodes.items (c.loop-node.node * 2) ≡ c.index-in-loop-node.result.now =
    get_or_default c.self.inside.nodes.items (c.loop-node.node * 2) no_candidate
    c.index-in-loop-node.result.now (omega (arith, c.self.invariant.size, c.loop-node-test.true))
    ∙ sym c.index-in-loop-node.ensures in
    let value = ap (λ (x : Candidate). x.value) here in
    way_right c.self.inside.nodes.items c.self.inside.count c.args.least c.loop-node.node c.self.invariant w
    c.loop-node-test.true (omega (arith, value, c.if-index-least-2.true)) w.from

pub loop-node-preserved : goal.loop-node-preserved
loop-node-preserved c =
    let w = c.loop-node.invariant in
    let here : node_at c.self.inside.nodes.items (c.loop-node.node * 2) ≡ c.index-in-loop-node.result.now =
    get_or_default c.self.inside.nodes.items (c.loop-node.node * 2) no_candidate
    c.index-in-loop-node.result.now (omega (arith, c.self.invariant.size, c.loop-node-test.true))
    ∙ sym c.index-in-loop-node.ensures in
    let value = ap (λ (x : Candidate). x.value) here in
    way_left c.self.inside.nodes.items c.self.inside.count c.args.least c.loop-node.node w
    c.loop-node-test.true (omega (arith, value, c.if-index-least-2.false))

pub returns-clause-some : goal.returns-clause-some
returns-clause-some c =
    let w = c.loop-node.invariant in
    let here : node_at c.self.inside.nodes.items c.loop-node.node ≡ c.index-2.result.now =
    get_or_default c.self.inside.nodes.items c.loop-node.node no_candidate c.index-2.result.now
    (omega (
      arith,
      c.self.invariant.size,
      way_inside c.self.inside.nodes.items c.self.inside.count
          c.args.least c.loop-node.node w,
    )) ∙ sym c.index-2.ensures in
    subst (λ (values : List ℕ). IsFirstFrom values c.args.least c.index-2.result.now.leaf) c.self.view_is
    (subst (λ (x : Candidate). IsFirstFrom (values_of c.self.inside.nodes.items c.self.inside.count)
    c.args.least x.leaf) here
    (way_ends c.self.inside.nodes.items c.self.inside.count c.args.least c.loop-node.node c.self.invariant w
    c.loop-node-test.false))
