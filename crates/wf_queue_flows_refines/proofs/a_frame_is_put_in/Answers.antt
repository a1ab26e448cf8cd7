-- Each clause is a law of Puts.
use Rattle.wf_queue_flows_refines.proofs.Puts.{stands_put, reply_put}
use Rattle.wf_queue_flows_refines.proofs.a_frame_is_put_in.Goals as goal

pub returns-clause-stands : goal.returns-clause-stands
returns-clause-stands c = stands_put

pub returns-clause-answer : goal.returns-clause-answer
returns-clause-answer c = reply_put
