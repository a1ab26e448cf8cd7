-- The first two clauses are part of the agreement; the others are laws of Puts and Holdings.
use Rattle.wf_queue_flows_refines.specs.Standing.{flows_part}
use Rattle.wf_queue_flows_refines.proofs.Puts.{next_nowhere}
use Rattle.wf_queue_flows_refines.proofs.Holdings.{times_put, times_take, times_finish, times_reap, times_purge, times_flush}
use Rattle.wf_queue_flows_refines.proofs.each_frame_is_held_once.Goals as goal

pub returns-clause-once : goal.returns-clause-once
returns-clause-once c = λ v w id st. st.held_once id

pub returns-clause-accepted : goal.returns-clause-accepted
returns-clause-accepted c = λ v w id st. st.accepted id

pub returns-clause-next : goal.returns-clause-next
returns-clause-next c = λ v w st. next_nowhere v (flows_part w) st

pub returns-clause-put : goal.returns-clause-put
returns-clause-put c = λ v w id s t f st. times_put v (flows_part w) st id s t f

pub returns-clause-take : goal.returns-clause-take
returns-clause-take c = λ v w id i now params st. times_take v (flows_part w) st id i now params

pub returns-clause-finish : goal.returns-clause-finish
returns-clause-finish c = times_finish

pub returns-clause-reap : goal.returns-clause-reap
returns-clause-reap c = times_reap

pub returns-clause-purge : goal.returns-clause-purge
returns-clause-purge c = λ v w id i st. times_purge v (flows_part w) st id i

pub returns-clause-flush : goal.returns-clause-flush
returns-clause-flush c = λ v w id i st. times_flush v (flows_part w) st id i
