-- Each clause is a law of Ends.
use Rattle.wf_queue_flows_refines.proofs.Ends.{stands_finished, finish_all-append}
use Rattle.wf_queue_flows_refines.proofs.a_frame_is_finished.Goals as goal

pub returns-clause-stands : goal.returns-clause-stands
returns-clause-stands c = stands_finished

pub returns-clause-one_more : goal.returns-clause-one_more
returns-clause-one_more c = λ w fate ids id. finish_all-append ids w fate id
