-- The chains so far are empty.
use Rattle.std.proofs.Common.{◌≡◌, [], replicate, vec_len, vec_capacity}
use Rattle.wf_queue_flows.proofs.backlog.empty_queues.Given as goal

abbrev pub invariant-loop : goal.invariant-loop
invariant-loop l = (l.made.items ≡ replicate l.counter []) × (vec_len l.made ≡ l.counter) ×
    (vec_capacity l.made ≡ l.fn.queues)
