-- Each clause is a law of Unchanged.
use Rattle.wf_sched_refines.proofs.Unchanged.{station_leaves, tid_leaves, session_leaves, receiver_leaves, mode_leaves, queues_leave, turn_leaves, spent_leaves}
use Rattle.wf_sched_refines.proofs.a_change_of_a_station.Goals as goal

pub returns-clause-station : goal.returns-clause-station
returns-clause-station c = station_leaves

pub returns-clause-tid : goal.returns-clause-tid
returns-clause-tid c = tid_leaves

pub returns-clause-session : goal.returns-clause-session
returns-clause-session c = session_leaves

pub returns-clause-receiver : goal.returns-clause-receiver
returns-clause-receiver c = receiver_leaves

pub returns-clause-queues : goal.returns-clause-queues
returns-clause-queues c = queues_leave

pub returns-clause-turn : goal.returns-clause-turn
returns-clause-turn c = turn_leaves

pub returns-clause-spent : goal.returns-clause-spent
returns-clause-spent c = spent_leaves

pub returns-clause-mode : goal.returns-clause-mode
returns-clause-mode c = mode_leaves
