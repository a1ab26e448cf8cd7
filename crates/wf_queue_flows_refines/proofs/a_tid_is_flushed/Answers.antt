-- Each clause is a law of Flushes.
use Rattle.wf_queue_flows_refines.proofs.Flushes.{stands_flushed, stands_tid_flushed, flushed_lists}
use Rattle.wf_queue_flows_refines.proofs.a_tid_is_flushed.Goals as goal

pub returns-clause-stands : goal.returns-clause-stands
returns-clause-stands c = stands_flushed

pub returns-clause-flushed : goal.returns-clause-flushed
returns-clause-flushed c = stands_tid_flushed

pub returns-clause-lists : goal.returns-clause-lists
returns-clause-lists c = flushed_lists
