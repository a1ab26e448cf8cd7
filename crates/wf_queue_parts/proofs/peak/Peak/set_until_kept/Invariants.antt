-- Every node but the one above holds the winner of its children; a level halves the node's number.
use Rattle.std.proofs.Common.{◌≡◌, ◌+◌, ◌*◌, ◌^◌, ◌≤◌, length}
use Rattle.wf_queue_parts.proofs.TreeLemmas.{HasClimbed}
use Rattle.wf_queue_parts.proofs.peak.Peak.set_until_kept.Given as goal

abbrev pub invariant-loop-node : goal.invariant-loop-node
invariant-loop-node l = record {
  climbed : HasClimbed l.fn.self l.leaf l.value l.self-inside.nodes.items l.self-inside.count l.node l.won;
  count : l.self-inside.count ≡ length l.fn.self;
  cost : l.node * 2 ^ l.climbed ≤ l.self-inside.count + l.leaf;
}

abbrev pub decreases-loop-node : goal.decreases-loop-node
decreases-loop-node l = l.node
