-- A listed queue is listed by the TID of its place alone.
use Rattle.wf_queue_flows.proofs.Leaves.{lists_same}
use Rattle.wf_queue_flows.proofs.flows.Flows.lists.Goals as goal

pub returns-in-Some : goal.returns-in-Some
returns-in-Some c = lists_same _ _ _ c.self.view_is c.self.invariant c.args.list c.args.q c.in-Some.other _
    c.in-Some.ensures.some.1
