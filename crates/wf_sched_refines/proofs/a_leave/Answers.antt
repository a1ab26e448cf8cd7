-- Each clause is a law of Members.
use Rattle.wf_sched_refines.proofs.Members.{leave_stands, gone_stands}
use Rattle.wf_sched_refines.proofs.a_leave.Goals as goal

pub returns-clause-off : goal.returns-clause-off
returns-clause-off c = leave_stands

pub returns-clause-gone : goal.returns-clause-gone
returns-clause-gone c = gone_stands
