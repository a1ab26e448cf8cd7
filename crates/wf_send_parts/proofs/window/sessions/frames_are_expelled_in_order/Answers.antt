-- Proves the law `frames_are_expelled_in_order` by the lemmas of Expelling.
use Rattle.wf_send_parts.proofs.Expelling.{expelling_begins, expelling_next, expelling_ends, expelling_empties}
use Rattle.wf_send_parts.proofs.window.sessions.frames_are_expelled_in_order.Goals as goal

pub returns-clause-begins : goal.returns-clause-begins
returns-clause-begins c = expelling_begins

pub returns-clause-next : goal.returns-clause-next
returns-clause-next c w v s bodies frames frame so_far some same stands =
    expelling_next w s bodies frames so_far v frame some same stands

pub returns-clause-ends : goal.returns-clause-ends
returns-clause-ends c w s bodies frames so_far done =
    (expelling_ends w s bodies frames so_far done, expelling_empties w s bodies frames so_far done)
