-- Proves the law `a_weight` by a lemma of Weights.
use Rattle.wf_send_half_model.proofs.Weights.{weight_meets}
use Rattle.wf_send_half_model.proofs.a_weight.Goals as goal

pub returns : goal.returns
returns c = weight_meets
