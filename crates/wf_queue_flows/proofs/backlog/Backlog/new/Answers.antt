-- An empty backlog satisfies its invariant, since all octets are 0.
use Rattle.std.proofs.Common.{rules, ◌≡◌, Bool, false, replicate}
use Rattle.wf_queue_flows.proofs.Holding.{kept_new}
use Rattle.wf_queue_flows.proofs.backlog.Backlog.new.Goals as goal

pub invariant_of-result : goal.invariant_of-result
invariant_of-result c =
    let ready : c.in_ok-ready.ready.items ≡ replicate {A = Bool} c.args.queues false =
    c.in_ok-ready.ensures.items_if_clones_equal (λ y e. e) in
    kept_new _ _ _ c.args.queues c.ranges.room.fits c.in_ok-queues.ensures (search rules)
    c.new-3.ensures c.in_ok-octets.ensures ready
