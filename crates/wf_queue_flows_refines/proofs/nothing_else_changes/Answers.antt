-- Each clause is a law of Elsewhere.
use Rattle.wf_queue_flows_refines.proofs.Elsewhere.{rest_enqueued, rest_take, rest_finish, rest_finish_all, rest_reaped, rest_left, rest_flushed, rest_live, rest_params}
use Rattle.wf_queue_flows_refines.proofs.Modes.{rest_ended}
use Rattle.wf_queue_flows_refines.proofs.nothing_else_changes.Goals as goal

pub returns-clause-put : goal.returns-clause-put
returns-clause-put c = rest_enqueued

pub returns-clause-take : goal.returns-clause-take
returns-clause-take c = rest_take

pub returns-clause-finish : goal.returns-clause-finish
returns-clause-finish c = rest_finish

pub returns-clause-finish_all : goal.returns-clause-finish_all
returns-clause-finish_all c = λ w fate ids. rest_finish_all ids w fate

pub returns-clause-reap : goal.returns-clause-reap
returns-clause-reap c = λ w. rest_reaped w w.finished

pub returns-clause-left : goal.returns-clause-left
returns-clause-left c = rest_left

pub returns-clause-live : goal.returns-clause-live
returns-clause-live c = rest_live

pub returns-clause-params : goal.returns-clause-params
returns-clause-params c = rest_params

pub returns-clause-flushed : goal.returns-clause-flushed
returns-clause-flushed c = rest_flushed

pub returns-clause-ended : goal.returns-clause-ended
returns-clause-ended c = rest_ended
