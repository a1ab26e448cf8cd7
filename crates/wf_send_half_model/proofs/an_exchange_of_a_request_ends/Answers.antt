-- Proves the law `an_exchange_of_a_request_ends` by the lemmas of Dones.
use Rattle.wf_send_half_model.proofs.Dones.{pending, request_tid, unheard_parts, heard_parts}
use Rattle.wf_send_half_model.proofs.an_exchange_of_a_request_ends.Goals as goal

pub returns-clause-pending : goal.returns-clause-pending
returns-clause-pending c = pending

pub returns-clause-tid : goal.returns-clause-tid
returns-clause-tid c = request_tid

pub returns-clause-unheard : goal.returns-clause-unheard
returns-clause-unheard c = unheard_parts

pub returns-clause-heard : goal.returns-clause-heard
returns-clause-heard c = heard_parts
