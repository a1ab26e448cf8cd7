-- Each clause is a law of Unchanged or Exchanges.
use Rattle.wf_sched_refines.proofs.Unchanged.{enqueued_leaves, rate_leaves, tick_leaves, arrived_leaves, answered_leaves, slept_leaves, woken_leaves, credited_leaves, reaped_leaves, bounded_leaves, stated_leaves, stopped_leaves, started_leaves, unsent_leaves, given_up_leaves, flushed_leaves, held_leaves, begun_leaves, freed_leaves, ceased_leaves, grouped_leaves, served_leaves, moved_leaves}
use Rattle.wf_sched_refines.proofs.Exchanges.{winner_stands}
use Rattle.wf_sched_refines.proofs.a_call_that_leaves_the_turns.Goals as goal

pub returns-clause-enqueued : goal.returns-clause-enqueued
returns-clause-enqueued c = enqueued_leaves

pub returns-clause-rate : goal.returns-clause-rate
returns-clause-rate c = rate_leaves

pub returns-clause-ticked : goal.returns-clause-ticked
returns-clause-ticked c = tick_leaves

pub returns-clause-pulled : goal.returns-clause-pulled
returns-clause-pulled c = winner_stands

pub returns-clause-arrived : goal.returns-clause-arrived
returns-clause-arrived c = arrived_leaves

pub returns-clause-answered : goal.returns-clause-answered
returns-clause-answered c = answered_leaves

pub returns-clause-slept : goal.returns-clause-slept
returns-clause-slept c = slept_leaves

pub returns-clause-woken : goal.returns-clause-woken
returns-clause-woken c = woken_leaves

pub returns-clause-credited : goal.returns-clause-credited
returns-clause-credited c = credited_leaves

pub returns-clause-reaped : goal.returns-clause-reaped
returns-clause-reaped c = reaped_leaves

pub returns-clause-bounded : goal.returns-clause-bounded
returns-clause-bounded c = bounded_leaves

pub returns-clause-stated : goal.returns-clause-stated
returns-clause-stated c = stated_leaves

pub returns-clause-stopped : goal.returns-clause-stopped
returns-clause-stopped c = stopped_leaves

pub returns-clause-started : goal.returns-clause-started
returns-clause-started c = started_leaves

pub returns-clause-unsent : goal.returns-clause-unsent
returns-clause-unsent c = unsent_leaves

pub returns-clause-given_up : goal.returns-clause-given_up
returns-clause-given_up c = given_up_leaves

pub returns-clause-flushed : goal.returns-clause-flushed
returns-clause-flushed c = flushed_leaves

pub returns-clause-held : goal.returns-clause-held
returns-clause-held c = held_leaves

pub returns-clause-begun : goal.returns-clause-begun
returns-clause-begun c = begun_leaves

pub returns-clause-freed : goal.returns-clause-freed
returns-clause-freed c = freed_leaves

pub returns-clause-ceased : goal.returns-clause-ceased
returns-clause-ceased c = ceased_leaves

pub returns-clause-grouped : goal.returns-clause-grouped
returns-clause-grouped c = grouped_leaves

pub returns-clause-served : goal.returns-clause-served
returns-clause-served c = served_leaves

pub returns-clause-moved : goal.returns-clause-moved
returns-clause-moved c = moved_leaves
