-- Each clause is a law of Notes.
use Rattle.wf_queue_flows_refines.proofs.Notes.{accepted_same, accepted_more, notes_take, notes_finish, notes_finish_all, notes_left, notes_flushed, notes_reaped}
use Rattle.wf_queue_flows_refines.proofs.Modes.{notes_ended}
use Rattle.wf_queue_flows_refines.proofs.the_accepted_frames_are_kept.Goals as goal

pub returns-clause-same : goal.returns-clause-same
returns-clause-same c = accepted_same

pub returns-clause-put : goal.returns-clause-put
returns-clause-put c = accepted_more

pub returns-clause-take : goal.returns-clause-take
returns-clause-take c = notes_take

pub returns-clause-finish : goal.returns-clause-finish
returns-clause-finish c = notes_finish

pub returns-clause-finish_all : goal.returns-clause-finish_all
returns-clause-finish_all c = λ w fate ids. notes_finish_all ids w fate

pub returns-clause-left : goal.returns-clause-left
returns-clause-left c = notes_left

pub returns-clause-reap : goal.returns-clause-reap
returns-clause-reap c = λ w. notes_reaped w w.finished

pub returns-clause-flushed : goal.returns-clause-flushed
returns-clause-flushed c = notes_flushed

pub returns-clause-ended : goal.returns-clause-ended
returns-clause-ended c = notes_ended
