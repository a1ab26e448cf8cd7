-- Proves the law `numbers_are_settled_in_order` by the lemmas of Ends.
use Rattle.wf_send_parts.proofs.Ends.{ending_begins, ending_number, ending_flies, ending_next, ending_ends}
use Rattle.wf_send_parts.proofs.window.many_sessions.numbers_are_settled_in_order.Goals as goal

pub returns-clause-begins : goal.returns-clause-begins
returns-clause-begins c = ending_begins

pub returns-clause-number : goal.returns-clause-number
returns-clause-number c w bodies ending n ns after seq left on_air =
    ending_number w bodies ending n ns after left seq on_air

pub returns-clause-flies : goal.returns-clause-flies
returns-clause-flies c w bodies ending n ns after seq left on_air =
    ending_flies w bodies ending n ns after left seq on_air

pub returns-clause-next : goal.returns-clause-next
returns-clause-next c w v bodies ending n ns after left stands =
    ending_next w bodies ending n ns after left v stands

pub returns-clause-ends : goal.returns-clause-ends
returns-clause-ends c = ending_ends
