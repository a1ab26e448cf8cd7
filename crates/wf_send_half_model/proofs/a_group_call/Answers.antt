-- Proves the law `a_group_call` by the lemmas of Groups.
use Rattle.wf_send_half_model.proofs.Groups.{group_fault_same, group_refused, group_meets}
use Rattle.wf_send_half_model.proofs.a_group_call.Goals as goal

pub returns-clause-fault : goal.returns-clause-fault
returns-clause-fault c = group_fault_same

pub returns-clause-meets : goal.returns-clause-meets
returns-clause-meets c = group_meets

pub returns-clause-refused : goal.returns-clause-refused
returns-clause-refused c = group_refused
