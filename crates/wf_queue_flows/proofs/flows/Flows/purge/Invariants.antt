-- The queues below some number have left.
use Rattle.std.proofs.Common.{◌≡◌, ◌≤◌, ℕ, length}
use Rattle.wf_def_rotation.specs.Rotation.{in_order}
use Rattle.wf_queue_flows.specs.Backlog.{held_in_backlog}
use Rattle.wf_queue_flows.specs.Flows.{queues, tid_rotation}
use Rattle.wf_queue_flows.specs.Kept.{purged_below}
use Rattle.wf_queue_flows.proofs.flows.Flows.purge.Given as goal

abbrev pub invariant-loop-q : goal.invariant-loop-q
invariant-loop-q l = record {
  purged : (k : ℕ) × (k ≤ queues l.fn.self) × (l.self ≡ purged_below l.fn.self l.list k);
  held : held_in_backlog l.self.backlog ≡ held_in_backlog l.fn.self.backlog;
}

abbrev pub decreases-loop-q : goal.decreases-loop-q
decreases-loop-q l = length (in_order (tid_rotation l.self l.list))
