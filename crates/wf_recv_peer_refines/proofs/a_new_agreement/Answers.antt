-- Proves the law `a_new_agreement` by the lemmas of Halves.
use Rattle.wf_recv_peer_refines.proofs.Halves.{stands_first}
use Rattle.wf_recv_peer_refines.proofs.a_new_agreement.Goals as goal

pub returns : goal.returns
returns c = stands_first
