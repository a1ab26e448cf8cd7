-- Each node that is filled holds the winner of its two children, from the last node up.
use Rattle.std.proofs.Common.{◌-◌, refl, arith}
use Rattle.wf_queue_parts.proofs.TreeLemmas.{none_filled, one_filled}
use Rattle.wf_queue_parts.proofs.peak.Peak.new.Goals as goal

pub loop-node-init : goal.loop-node-init
loop-node-init c = (
  rw c.in_ok-nodes.ensures.items_if_clones_equal (none_filled c.args.leaves),
  omega arith,
  omega arith,
  refl,
)

pub loop-node-preserved : goal.loop-node-preserved
loop-node-preserved c = (
  one_filled _ _ (c.loop-node.node - 1) c.loop-node.node _ c.loop-node.invariant.0
      (omega arith) (omega arith) (omega arith)
      (rw c.deref.ensures.value at c.opening_of.ensures.inner) c.opening_of.ensures.leaf,
  omega arith,
  omega arith,
  c.loop-node.invariant.3,
)
