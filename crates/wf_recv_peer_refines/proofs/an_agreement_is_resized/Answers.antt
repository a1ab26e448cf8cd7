-- Proves the law `an_agreement_is_resized` by the lemmas of Resized.
use Rattle.wf_recv_peer_refines.proofs.Resized.{stands_resized, nothing_resized}
use Rattle.wf_recv_peer_refines.proofs.an_agreement_is_resized.Goals as goal

pub returns-clause-stands : goal.returns-clause-stands
returns-clause-stands c = stands_resized

pub returns-clause-nothing : goal.returns-clause-nothing
returns-clause-nothing c = nothing_resized
