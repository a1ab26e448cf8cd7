-- Proves the law `a_join` by the lemmas of Whole.
use Rattle.wf_send_half_model.proofs.Whole.{join_meets, plain_meets, offload_meets}
use Rattle.wf_send_half_model.proofs.a_join.Goals as goal

pub returns-clause-joined : goal.returns-clause-joined
returns-clause-joined c = join_meets

pub returns-clause-plain : goal.returns-clause-plain
returns-clause-plain c = plain_meets

pub returns-clause-offloaded : goal.returns-clause-offloaded
returns-clause-offloaded c = offload_meets
