-- Proves the law `comparisons_are_whole` by the lemmas of Comparisons and Halves.
use Rattle.wf_recv_peer_refines.proofs.Comparisons.{compares}
use Rattle.wf_recv_peer_refines.proofs.Halves.{compares_data, compares_request}
use Rattle.wf_recv_peer_refines.proofs.comparisons_are_whole.Goals as goal

pub returns-clause-near : goal.returns-clause-near
returns-clause-near c = compares

pub returns-clause-data : goal.returns-clause-data
returns-clause-data c = compares_data

pub returns-clause-request : goal.returns-clause-request
returns-clause-request c = compares_request
