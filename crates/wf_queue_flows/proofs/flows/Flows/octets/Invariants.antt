-- The octets of the TID's queues below the next queue number, of which each has fewer than 2^44.
use Rattle.std.proofs.Common.{◌≡◌, ◌*◌, ◌^◌, ◌≤◌}
use Rattle.wf_queue_flows.proofs.Weights.{octets_below}
use Rattle.wf_queue_flows.proofs.flows.Flows.octets.Given as goal

abbrev pub invariant-loop-q : goal.invariant-loop-q
invariant-loop-q l = record {
  weighed : l.octets ≡ octets_below l.fn.self l.list l.q;
  few : l.octets ≤ l.q * 2 ^ 44;
}
