-- Each clause is a law of Ends.
use Rattle.wf_queue_flows_refines.proofs.Ends.{stands_reaped, reply_reaped, none_reaped}
use Rattle.wf_queue_flows_refines.proofs.a_frame_is_reaped.Goals as goal

pub returns-clause-stands : goal.returns-clause-stands
returns-clause-stands c = stands_reaped

pub returns-clause-answer : goal.returns-clause-answer
returns-clause-answer c = reply_reaped

pub returns-clause-none : goal.returns-clause-none
returns-clause-none c = none_reaped
