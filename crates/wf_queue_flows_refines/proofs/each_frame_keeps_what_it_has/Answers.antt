-- Each clause is a law of Each, for the two tests.
use Rattle.wf_queue_flows_refines.specs.Frames.{Passes}
use Rattle.wf_queue_flows_refines.proofs.Each.{each_put, each_take, each_purge, each_flush, each_finish, each_reap}
use Rattle.wf_queue_flows_refines.proofs.each_frame_keeps_what_it_has.Goals as goal

pub returns-clause-put : goal.returns-clause-put
returns-clause-put c = λ p r v i f drops. each_put (Passes p) (Passes r) drops v i f

pub returns-clause-take : goal.returns-clause-take
returns-clause-take c = λ p r v i now params drops h.
    (each_take (Passes p) (Passes r) drops v i now params h).0

pub returns-clause-given : goal.returns-clause-given
returns-clause-given c = λ p r v i now params drops h.
    (each_take (Passes p) (Passes r) drops v i now params h).1

pub returns-clause-purge : goal.returns-clause-purge
returns-clause-purge c = λ p r v i drops. each_purge (Passes p) (Passes r) drops v i

pub returns-clause-finish : goal.returns-clause-finish
returns-clause-finish c = λ p r. each_finish (Passes p) (Passes r)

pub returns-clause-reap : goal.returns-clause-reap
returns-clause-reap c = λ p r v f behind h e. (each_reap (Passes p) (Passes r) v f behind h e).0

pub returns-clause-reaped : goal.returns-clause-reaped
returns-clause-reaped c = λ p r v f behind h e. (each_reap (Passes p) (Passes r) v f behind h e).1

pub returns-clause-flush : goal.returns-clause-flush
returns-clause-flush c = λ p r v i drops. each_flush (Passes p) (Passes r) drops v i
