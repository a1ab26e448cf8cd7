-- Each clause is a law of Takes.
use Rattle.wf_queue_flows_refines.proofs.Takes.{stands_take, item_take}
use Rattle.wf_queue_flows_refines.proofs.a_frame_is_taken_out.Goals as goal

pub returns-clause-stands : goal.returns-clause-stands
returns-clause-stands c = stands_take

pub returns-clause-frame : goal.returns-clause-frame
returns-clause-frame c = item_take
