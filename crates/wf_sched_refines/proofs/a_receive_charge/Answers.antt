-- Each clause is a law of Charges.
use Rattle.wf_sched_refines.proofs.Charges.{receive_stands, receive_reply, debt_same}
use Rattle.wf_sched_refines.proofs.a_receive_charge.Goals as goal

pub returns-clause-received : goal.returns-clause-received
returns-clause-received c = receive_stands

pub returns-clause-reply : goal.returns-clause-reply
returns-clause-reply c = receive_reply

pub returns-clause-refused : goal.returns-clause-refused
returns-clause-refused c = debt_same
