-- Proves the law `a_service_call` by the lemma of Whole.
use Rattle.wf_send_half_model.proofs.Whole.{service_meets}
use Rattle.wf_send_half_model.proofs.a_service_call.Goals as goal

pub returns : goal.returns
returns c = service_meets
