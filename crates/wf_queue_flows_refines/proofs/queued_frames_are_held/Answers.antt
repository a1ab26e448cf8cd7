-- A frame has one place in a run; the other clauses are laws of Held.
use Rattle.wf_queue_flows_refines.proofs.Heads.{queued_is_held}
use Rattle.wf_queue_flows_refines.proofs.Held.{held_put, held_take, held_finish, held_reap, held_left, held_flushed}
use Rattle.wf_queue_flows_refines.proofs.queued_frames_are_held.Goals as goal

pub returns-clause-places : goal.returns-clause-places
returns-clause-places c = queued_is_held

pub returns-clause-put : goal.returns-clause-put
returns-clause-put c = held_put

pub returns-clause-take : goal.returns-clause-take
returns-clause-take c = held_take

pub returns-clause-finish : goal.returns-clause-finish
returns-clause-finish c = held_finish

pub returns-clause-reap : goal.returns-clause-reap
returns-clause-reap c = held_reap

pub returns-clause-left : goal.returns-clause-left
returns-clause-left c = held_left

pub returns-clause-flushed : goal.returns-clause-flushed
returns-clause-flushed c = held_flushed
