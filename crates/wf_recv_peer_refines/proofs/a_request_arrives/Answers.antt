-- Proves the law `a_request_arrives` by the lemmas of Halves.
use Rattle.wf_recv_peer_refines.proofs.Halves.{stands_request, up_request, back_request}
use Rattle.wf_recv_peer_refines.proofs.a_request_arrives.Goals as goal

pub returns-clause-stands : goal.returns-clause-stands
returns-clause-stands c = stands_request

pub returns-clause-up : goal.returns-clause-up
returns-clause-up c = up_request

pub returns-clause-back : goal.returns-clause-back
returns-clause-back c = back_request
