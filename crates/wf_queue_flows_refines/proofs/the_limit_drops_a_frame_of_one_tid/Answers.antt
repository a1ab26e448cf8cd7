-- The longest queue is the same on both sides, and the limit changes no other queue.
use Rattle.wf_queue_flows_refines.proofs.Heads.{same_loses, others_keep, others_keep_in}
use Rattle.wf_queue_flows_refines.proofs.the_limit_drops_a_frame_of_one_tid.Goals as goal

pub returns-clause-loses : goal.returns-clause-loses
returns-clause-loses c = same_loses

pub returns-clause-others : goal.returns-clause-others
returns-clause-others c = others_keep

pub returns-clause-others_in : goal.returns-clause-others_in
returns-clause-others_in c = others_keep_in
