-- All queues are empty, and no TID lists any.
use Rattle.wf_queue_flows_refines.proofs.Opening.{stands_opening}
use Rattle.wf_queue_flows_refines.proofs.the_flow_queues_open.Goals as goal

pub returns : goal.returns
returns c = stands_opening
