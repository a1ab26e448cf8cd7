-- Proves the law `a_refusal` by the lemmas of Meets.
use Rattle.wf_send_half_model.proofs.Meets.{refused_meets}
use Rattle.wf_send_half_model.proofs.a_refusal.Goals as goal

pub returns : goal.returns
returns c = refused_meets
