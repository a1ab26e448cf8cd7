-- A purge or a flush moves all queued frames of the TID to the finished list.
use Rattle.wf_queue_flows_refines.specs.Standing.{flows_part}
use Rattle.wf_queue_flows_refines.proofs.Lefts.{purge_grows, flush_grows}
use Rattle.wf_queue_flows_refines.proofs.a_purge_drops_all_that_is_queued.Goals as goal

pub returns-clause-purge : goal.returns-clause-purge
returns-clause-purge c = λ v w i st. purge_grows v (flows_part w) st i

pub returns-clause-flush : goal.returns-clause-flush
returns-clause-flush c = λ v w i st. flush_grows v (flows_part w) st i
