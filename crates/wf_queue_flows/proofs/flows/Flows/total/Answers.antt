-- The total is the backlog's, and the invariant says who lists a queue.
use Rattle.wf_queue_flows.proofs.Whole.{listed_once}
use Rattle.wf_queue_flows.proofs.flows.Flows.total.Goals as goal

pub returns-clause-listed : goal.returns-clause-listed
returns-clause-listed c = listed_once _ _ c.self.view_is _ c.self.invariant
