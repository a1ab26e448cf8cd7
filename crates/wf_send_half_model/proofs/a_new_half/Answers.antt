-- Proves the law `a_new_half` by the lemmas of Opening.
use Rattle.wf_send_half_model.proofs.Opening.{new_stands}
use Rattle.wf_send_half_model.proofs.a_new_half.Goals as goal

pub returns : goal.returns
returns c = new_stands
