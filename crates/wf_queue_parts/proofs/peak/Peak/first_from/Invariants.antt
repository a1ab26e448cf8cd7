-- The leaves before those below the node have lesser values, and one below the node has the value.
use Rattle.std.proofs.Common.{◌-◌, ◌*◌}
use Rattle.wf_queue_parts.proofs.Descent.{IsOnTheWay}
use Rattle.wf_queue_parts.proofs.peak.Peak.first_from.Given as goal

abbrev pub invariant-loop-node : goal.invariant-loop-node
invariant-loop-node l = IsOnTheWay l.self-inside.nodes.items l.self-inside.count l.least l.node

abbrev pub decreases-loop-node : goal.decreases-loop-node
decreases-loop-node l = 2 * l.self-inside.count - l.node
