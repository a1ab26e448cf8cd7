-- Each clause is a law of Fates or Lefts.
use Rattle.wf_queue_flows_refines.proofs.Lefts.{settled_left, settled_flushed}
use Rattle.wf_queue_flows_refines.proofs.Fates.{settled_one, settled_all, settled_limit, counted_put, settled_take}
use Rattle.wf_queue_flows_refines.proofs.the_fates_are_counted.Goals as goal

pub returns-clause-finish : goal.returns-clause-finish
returns-clause-finish c = settled_one

pub returns-clause-finish_all : goal.returns-clause-finish_all
returns-clause-finish_all c = λ w fate ids. settled_all ids w fate

pub returns-clause-limit : goal.returns-clause-limit
returns-clause-limit c = settled_limit

pub returns-clause-put : goal.returns-clause-put
returns-clause-put c = counted_put

pub returns-clause-take : goal.returns-clause-take
returns-clause-take c = settled_take

pub returns-clause-left : goal.returns-clause-left
returns-clause-left c = settled_left

pub returns-clause-flushed : goal.returns-clause-flushed
returns-clause-flushed c = settled_flushed
