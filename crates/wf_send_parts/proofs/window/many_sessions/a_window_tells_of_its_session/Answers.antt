-- Proves the law `a_window_tells_of_its_session` by the lemmas of Laws, Calls and Callers.
use Rattle.wf_send_parts.proofs.Laws.{places_length}
use Rattle.wf_send_parts.proofs.Calls.{can_take_is, new_law}
use Rattle.wf_send_parts.proofs.Callers.{due_shown, heard_near}
use Rattle.wf_send_parts.proofs.window.many_sessions.a_window_tells_of_its_session.Goals as goal

pub returns-clause-request : goal.returns-clause-request
returns-clause-request c = due_shown

pub returns-clause-give : goal.returns-clause-give
returns-clause-give c = can_take_is

pub returns-clause-numbers : goal.returns-clause-numbers
returns-clause-numbers c = places_length

pub returns-clause-near : goal.returns-clause-near
returns-clause-near c w s bodies f start stands on_air below near =
    heard_near w s bodies stands f start on_air below near

pub returns-clause-fresh : goal.returns-clause-fresh
returns-clause-fresh c = new_law
