-- Each clause is a law of Modes.
use Rattle.wf_queue_flows_refines.proofs.Modes.{stands_held, stands_begun, stands_freed, stands_ceased, accepted_ceased}
use Rattle.wf_queue_flows_refines.proofs.agreements_begin_and_end.Goals as goal

pub returns-clause-held : goal.returns-clause-held
returns-clause-held c = stands_held

pub returns-clause-begun : goal.returns-clause-begun
returns-clause-begun c = stands_begun

pub returns-clause-freed : goal.returns-clause-freed
returns-clause-freed c = stands_freed

pub returns-clause-ceased : goal.returns-clause-ceased
returns-clause-ceased c = stands_ceased

pub returns-clause-accepted : goal.returns-clause-accepted
returns-clause-accepted c = accepted_ceased
