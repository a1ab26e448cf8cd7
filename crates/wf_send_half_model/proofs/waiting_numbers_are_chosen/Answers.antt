-- Proves the law `waiting_numbers_are_chosen` by the lemmas of Fills.
use Rattle.wf_send_half_model.proofs.Fills.{choosing_begins, choosing_near, choosing_len, choosing_next, choosing_stops, choosing_ends, choosing_none}
use Rattle.wf_send_half_model.proofs.waiting_numbers_are_chosen.Goals as goal

pub returns-clause-begins : goal.returns-clause-begins
returns-clause-begins c = choosing_begins

pub returns-clause-near : goal.returns-clause-near
returns-clause-near c = choosing_near

pub returns-clause-length : goal.returns-clause-length
returns-clause-length c = choosing_len

pub returns-clause-goes_on : goal.returns-clause-goes_on
returns-clause-goes_on c = choosing_next

pub returns-clause-stops : goal.returns-clause-stops
returns-clause-stops c = choosing_stops

pub returns-clause-ends : goal.returns-clause-ends
returns-clause-ends c = choosing_ends

pub returns-clause-none : goal.returns-clause-none
returns-clause-none c = choosing_none
