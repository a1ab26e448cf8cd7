-- Each clause is a law of Calls.
use Rattle.wf_sched_refines.proofs.Calls.{call_stands, refusal_stands}
use Rattle.wf_sched_refines.proofs.a_call.Goals as goal

pub returns-clause-done : goal.returns-clause-done
returns-clause-done c = call_stands

pub returns-clause-refused : goal.returns-clause-refused
returns-clause-refused c = refusal_stands
