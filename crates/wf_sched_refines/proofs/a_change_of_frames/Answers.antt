-- Each clause is a law of Unchanged.
use Rattle.wf_sched_refines.proofs.Unchanged.{queue_leaves, accept_leaves, fate_leaves, finish_leaves, finish_all_leaves, take_leaves, left_tids_leave}
use Rattle.wf_sched_refines.proofs.a_change_of_frames.Goals as goal

pub returns-clause-queue : goal.returns-clause-queue
returns-clause-queue c = queue_leaves

pub returns-clause-accepted : goal.returns-clause-accepted
returns-clause-accepted c = accept_leaves

pub returns-clause-fate : goal.returns-clause-fate
returns-clause-fate c = fate_leaves

pub returns-clause-finished : goal.returns-clause-finished
returns-clause-finished c = finish_leaves

pub returns-clause-all_finished : goal.returns-clause-all_finished
returns-clause-all_finished c = finish_all_leaves

pub returns-clause-taken : goal.returns-clause-taken
returns-clause-taken c = take_leaves

pub returns-clause-left : goal.returns-clause-left
returns-clause-left c = left_tids_leave
