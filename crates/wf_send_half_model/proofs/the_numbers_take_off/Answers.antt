-- Proves the law `the_numbers_take_off` by the lemmas of Flies.
use Rattle.wf_send_half_model.proofs.Flies.{off_begins, off_number, off_waits, off_frame, off_own, off_next, off_ends}
use Rattle.wf_send_half_model.proofs.the_numbers_take_off.Goals as goal

pub returns-clause-begins : goal.returns-clause-begins
returns-clause-begins c = off_begins

pub returns-clause-number : goal.returns-clause-number
returns-clause-number c = off_number

pub returns-clause-waits : goal.returns-clause-waits
returns-clause-waits c = off_waits

pub returns-clause-frame : goal.returns-clause-frame
returns-clause-frame c = off_frame

pub returns-clause-own : goal.returns-clause-own
returns-clause-own c = off_own

pub returns-clause-next : goal.returns-clause-next
returns-clause-next c = off_next

pub returns-clause-ends : goal.returns-clause-ends
returns-clause-ends c = off_ends
