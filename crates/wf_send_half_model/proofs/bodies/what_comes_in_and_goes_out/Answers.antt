-- Proves the law `what_comes_in_and_goes_out` by the lemmas of Inside.
use Rattle.wf_send_half_model.proofs.Inside.{inside_then}
use Rattle.wf_send_half_model.proofs.bodies.what_comes_in_and_goes_out.Goals as goal

pub returns : goal.returns
returns c = inside_then
