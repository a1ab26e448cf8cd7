-- Each clause is a law of Purges.
use Rattle.wf_queue_flows_refines.proofs.Purges.{stands_purged, stands_left, purged_lists, purged_others}
use Rattle.wf_queue_flows_refines.proofs.a_tid_is_purged.Goals as goal

pub returns-clause-stands : goal.returns-clause-stands
returns-clause-stands c = stands_purged

pub returns-clause-left : goal.returns-clause-left
returns-clause-left c = stands_left

pub returns-clause-empty : goal.returns-clause-empty
returns-clause-empty c = purged_lists

pub returns-clause-others : goal.returns-clause-others
returns-clause-others c = purged_others
