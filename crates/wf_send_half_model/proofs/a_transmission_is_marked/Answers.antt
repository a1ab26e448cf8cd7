-- Proves the law `a_transmission_is_marked` by the lemmas of Marking.
use Rattle.wf_send_half_model.proofs.Marking.{marked_tid, marked_within, marked_number, marked_flies, marked_own, data_unsent, request_unsent, given_up_meets}
use Rattle.wf_send_half_model.proofs.a_transmission_is_marked.Goals as goal

pub returns-clause-tid : goal.returns-clause-tid
returns-clause-tid c v w bodies h e x mpdus known is i low = marked_tid v w bodies h e x mpdus known is i low

pub returns-clause-within : goal.returns-clause-within
returns-clause-within c v w bodies h e x mpdus known is i low =
    marked_within v w bodies h e x mpdus known is i low

pub returns-clause-number : goal.returns-clause-number
returns-clause-number c v w bodies h e x mpdus known is i low =
    marked_number v w bodies h e x mpdus known is i low

pub returns-clause-flies : goal.returns-clause-flies
returns-clause-flies c v w bodies h e x mpdus known is i low =
    marked_flies v w bodies h e x mpdus known is i low

pub returns-clause-own : goal.returns-clause-own
returns-clause-own c v w bodies h e x mpdus known is i low = marked_own v w bodies h e x mpdus known is i low

pub returns-clause-unsent : goal.returns-clause-unsent
returns-clause-unsent c v w bodies h e x known mpdus is i low =
    data_unsent v w bodies h e x known mpdus is i low

pub returns-clause-request : goal.returns-clause-request
returns-clause-request c v w bodies h e x known start is i = request_unsent v w bodies h e x known start is i

pub returns-clause-given_up : goal.returns-clause-given_up
returns-clause-given_up c v w bodies h e x known i = given_up_meets v w bodies h e x known i
