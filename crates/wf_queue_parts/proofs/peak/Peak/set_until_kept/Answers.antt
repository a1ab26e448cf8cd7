-- If a node keeps its winner, the nodes above it keep theirs.
use Rattle.std.proofs.Common.{◌≡◌, ◌/◌, ◌∙◌, sym, arith}
use Rattle.std.proofs.lemmas.List.{get_or_read}
use Rattle.wf_queue_parts.specs.Tree.{no_candidate, node_at}
use Rattle.wf_queue_parts.proofs.CostLemmas.{power, few_levels, cost_halved}
use Rattle.wf_queue_parts.proofs.TreeLemmas.{leaf_begins, climbs, node_kept, same_candidate, sibling_within, winner_read}
use Rattle.wf_queue_parts.proofs.peak.Peak.set_until_kept.Goals as goal

pub loop-node-init : goal.loop-node-init
loop-node-init c =
    let begun = leaf_begins c.args.self.now c.args.leaf c.args.value c.self.inside.nodes.items
    c.self.inside.count c.self.invariant c.self.view_is c.requires in
    record {
      climbed = begun.1;
      count = begun.0;
      cost = omega arith;
    }

pub index-sibling-requires : goal.index-sibling-requires
index-sibling-requires c = omega (
  arith,
  c.loop-node.invariant.climbed.played.size,
  sibling_within c.loop-node.node c.loop-node.self-inside.count c.loop-node.invariant.climbed.within,
)

pub overflow_add-climbed : goal.overflow_add-climbed
overflow_add-climbed c = omega (
  arith,
  few_levels _ _ _ c.loop-node.invariant.cost (omega arith) (omega arith),
)

pub loop-node-preserved : goal.loop-node-preserved
loop-node-preserved c = record {
  climbed = climbs _ _ _ _ _ _ _ _ _ c.loop-node.invariant.climbed (omega arith) c.index-sibling.ensures
      c.winner_of-won.ensures;
  count = c.loop-node.invariant.count;
  cost = rw power (cost_halved _ _ _ c.loop-node.invariant.cost);
}

pub invariant_of-self-then-before-won-2 : goal.invariant_of-self-then-before-won-2
invariant_of-self-then-before-won-2 c =
    let climbed = c.loop-node.invariant.climbed in
    let before : node_at c.loop-node.self-inside.nodes.items (c.loop-node.node / 2)
    ≡ c.index-before.result.now = sym (get_or_read c.loop-node.self-inside.nodes.items
    (c.loop-node.node / 2) c.index-before.result.now (omega (arith, climbed.played.size))
    c.index-before.ensures no_candidate) in
    node_kept _ _ _ climbed.played
    (before ∙ same_candidate c.index-before.result.now c.winner_of-won.result (omega arith) (omega arith)
    ∙ winner_read _ _ _ _ _ _ climbed.played.size climbed.within climbed.stands c.index-sibling.ensures
    c.winner_of-won.ensures)
