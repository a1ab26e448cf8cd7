-- Proves the law `a_pull` by the lemmas of Sends and Asked.
use Rattle.wf_send_half_model.proofs.Sends.{turn_tid, turned, request_meets, filled_charge, data_meets}
use Rattle.wf_send_half_model.proofs.Asked.{turn_sends}
use Rattle.wf_send_half_model.proofs.a_pull.Goals as goal

pub returns-clause-tid : goal.returns-clause-tid
returns-clause-tid c = turn_tid

pub returns-clause-sends : goal.returns-clause-sends
returns-clause-sends c = turn_sends

pub returns-clause-turned : goal.returns-clause-turned
returns-clause-turned c = turned

pub returns-clause-request : goal.returns-clause-request
returns-clause-request c = request_meets

pub returns-clause-charge : goal.returns-clause-charge
returns-clause-charge c = filled_charge

pub returns-clause-data : goal.returns-clause-data
returns-clause-data c = data_meets
