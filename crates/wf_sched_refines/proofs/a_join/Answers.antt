-- Each clause is a law of Members.
use Rattle.wf_sched_refines.proofs.Members.{join_stands, offload_stands, plain_stands}
use Rattle.wf_sched_refines.proofs.a_join.Goals as goal

pub returns-clause-joined : goal.returns-clause-joined
returns-clause-joined c = join_stands

pub returns-clause-offloaded : goal.returns-clause-offloaded
returns-clause-offloaded c = offload_stands

pub returns-clause-joined_plain : goal.returns-clause-joined_plain
returns-clause-joined_plain c = plain_stands
