-- The TID's queues below the next queue number are flushed.
use Rattle.std.proofs.Common.{◌≡◌}
use Rattle.wf_queue_flows.specs.Backlog.{held_in_backlog}
use Rattle.wf_queue_flows.specs.Kept.{flushed_below}
use Rattle.wf_queue_flows.proofs.flows.Flows.flush.Given as goal

abbrev pub invariant-loop-q : goal.invariant-loop-q
invariant-loop-q l = record {
  flushed : l.self ≡ flushed_below l.fn.self l.list l.q;
  held : held_in_backlog l.self.backlog ≡ held_in_backlog l.fn.self.backlog;
}
