-- The nodes from this one on are filled, and all leaves are 0.
use Rattle.std.proofs.Common.{◌≡◌, ◌-◌, ◌*◌, ◌≤◌, ◌<◌}
use Rattle.wf_queue_parts.specs.Tree.{IsFilledFrom}
use Rattle.wf_queue_parts.proofs.peak.Peak.new.Given as goal

abbrev pub invariant-loop-node : goal.invariant-loop-node
invariant-loop-node l = IsFilledFrom l.nodes.items l.count l.node × (0 < l.node) × (l.node ≤ 2 * l.count) ×
    (l.count ≡ l.leaves)

abbrev pub decreases-loop-node : goal.decreases-loop-node
decreases-loop-node l = l.node - 1
