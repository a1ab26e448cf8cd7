-- The winner climbs one level in each iteration, so every node holds the winner of its children again.
use Rattle.std.proofs.Common.{◌≡◌, ◌∙◌, ap, sym, arith, length}
use Rattle.wf_queue_parts.proofs.CostLemmas.{power, few_levels, cost_halved, levels_halved}
use Rattle.wf_queue_parts.proofs.TreeLemmas.{length_of, leaf_begins, climbs, sibling_within}
use Rattle.wf_queue_parts.proofs.peak.Peak.set.Goals as goal

pub loop-node-init : goal.loop-node-init
loop-node-init c =
    let begun = leaf_begins c.args.self.now c.args.leaf c.args.value c.self.inside.nodes.items
    c.self.inside.count c.self.invariant c.self.view_is c.requires in
    record {
      climbed = begun.1;
      count = begun.0;
      cost = omega arith;
      levels = omega arith;
    }

pub index-sibling-requires : goal.index-sibling-requires
index-sibling-requires c = omega (
  arith,
  c.loop-node.invariant.climbed.played.size,
  sibling_within c.loop-node.node c.loop-node.self-inside.count c.loop-node.invariant.climbed.within,
)

pub overflow_add-levels : goal.overflow_add-levels
overflow_add-levels c = omega (
  arith,
  few_levels _ _ _ c.loop-node.invariant.cost (omega arith) (omega arith),
)

pub loop-node-preserved : goal.loop-node-preserved
loop-node-preserved c = record {
  climbed = climbs _ _ _ _ _ _ _ _ _ c.loop-node.invariant.climbed (omega arith) c.index-sibling.ensures
      c.winner_of-winner.ensures;
  count = c.loop-node.invariant.count;
  cost = rw power (cost_halved _ _ _ c.loop-node.invariant.cost);
  levels = rw power (levels_halved _ _ _ c.loop-node.invariant.levels);
}

pub returns-clause-cost : goal.returns-clause-cost
returns-clause-cost c =
    let size : length c.args.self.now ≡ c.self.inside.count =
    ap length (sym c.self.view_is) ∙ length_of c.self.inside.nodes.items c.self.inside.count
    c.self.invariant.size in
    let at_root : c.loop-node.node ≡ 1 = omega (arith, c.loop-node.invariant.climbed.some) in
    let cost = rw at_root at c.loop-node.invariant.cost in
    omega (arith, cost)

pub returns-clause-levels : goal.returns-clause-levels
returns-clause-levels c =
    let size : length c.args.self.now ≡ c.self.inside.count =
    ap length (sym c.self.view_is) ∙ length_of c.self.inside.nodes.items c.self.inside.count
    c.self.invariant.size in
    let at_root : c.loop-node.node ≡ 1 = omega (arith, c.loop-node.invariant.climbed.some) in
    let levels = rw at_root at c.loop-node.invariant.levels in
    omega (arith, levels)
