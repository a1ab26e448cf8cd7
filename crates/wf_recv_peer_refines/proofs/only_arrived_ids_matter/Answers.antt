-- Proves the law `only_arrived_ids_matter` by the lemmas of Halves.
use Rattle.wf_recv_peer_refines.proofs.Halves.{other_ids}
use Rattle.wf_recv_peer_refines.proofs.only_arrived_ids_matter.Goals as goal

pub returns : goal.returns
returns c = other_ids
