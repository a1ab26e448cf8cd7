-- Proves the law `the_waiting_numbers_fail` by the lemmas of Flushing.
use Rattle.wf_send_half_model.proofs.Flushing.{flush_begins, flush_within, flush_room, flush_next, flush_ends, waiting_few}
use Rattle.wf_send_half_model.proofs.the_waiting_numbers_fail.Goals as goal

pub returns-clause-begins : goal.returns-clause-begins
returns-clause-begins c = flush_begins

pub returns-clause-within : goal.returns-clause-within
returns-clause-within c = flush_within

pub returns-clause-room : goal.returns-clause-room
returns-clause-room c = flush_room

pub returns-clause-next : goal.returns-clause-next
returns-clause-next c cause before v w bodies s t frames from so_far x f next room fate one =
    flush_next cause before v w bodies s t frames from so_far x f next one room fate

pub returns-clause-ends : goal.returns-clause-ends
returns-clause-ends c = flush_ends

pub returns-clause-few : goal.returns-clause-few
returns-clause-few c = waiting_few
