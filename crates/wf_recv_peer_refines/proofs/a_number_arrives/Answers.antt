-- Proves the law `a_number_arrives` by the lemmas of Halves.
use Rattle.wf_recv_peer_refines.proofs.Halves.{stands_data, up_data, back_data}
use Rattle.wf_recv_peer_refines.proofs.a_number_arrives.Goals as goal

pub returns-clause-stands : goal.returns-clause-stands
returns-clause-stands c = stands_data

pub returns-clause-up : goal.returns-clause-up
returns-clause-up c = up_data

pub returns-clause-back : goal.returns-clause-back
returns-clause-back c = back_data
