-- Each clause is a law of Bodies or Each, for the tests of being the accepted frame.
use Rattle.wf_queue_flows_refines.specs.Frames.{IsBody, IsBodySettled}
use Rattle.wf_queue_flows_refines.proofs.Each.{each_finish, each_reap}
use Rattle.wf_queue_flows_refines.proofs.Bodies.{frames_opening, frames_same, frames_put, frames_take, frame_given, frames_purged, frames_flushed}
use Rattle.wf_queue_flows_refines.proofs.the_frames_are_the_accepted_ones.Goals as goal

pub returns-clause-open : goal.returns-clause-open
returns-clause-open c = frames_opening

pub returns-clause-same : goal.returns-clause-same
returns-clause-same c = frames_same

pub returns-clause-put : goal.returns-clause-put
returns-clause-put c = frames_put

pub returns-clause-take : goal.returns-clause-take
returns-clause-take c = λ v w bodies i now params st ok h. frames_take v w bodies st ok h i now params

pub returns-clause-given : goal.returns-clause-given
returns-clause-given c = λ v w bodies i now params st ok h. frame_given v w bodies st ok h i now params

pub returns-clause-purge : goal.returns-clause-purge
returns-clause-purge c = λ v w bodies i st ok h. frames_purged v w bodies st ok h i

pub returns-clause-finish : goal.returns-clause-finish
returns-clause-finish c = λ v bodies f. each_finish (IsBody bodies) (IsBodySettled bodies) v f

pub returns-clause-reap : goal.returns-clause-reap
returns-clause-reap c = λ v bodies f behind h e.
    (each_reap (IsBody bodies) (IsBodySettled bodies) v f behind h e).0

pub returns-clause-reaped : goal.returns-clause-reaped
returns-clause-reaped c = λ v bodies f behind h e.
    (each_reap (IsBody bodies) (IsBodySettled bodies) v f behind h e).1

pub returns-clause-flush : goal.returns-clause-flush
returns-clause-flush c = λ v w bodies i st ok h. frames_flushed v w bodies st ok h i
