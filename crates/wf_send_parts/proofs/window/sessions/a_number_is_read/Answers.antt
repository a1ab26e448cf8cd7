-- Proves the law `a_number_is_read` by the lemmas of Numbers and Callers.
use Rattle.wf_send_parts.proofs.Numbers.{open_number}
use Rattle.wf_send_parts.proofs.Callers.{state_is, attempts_is, frame_is}
use Rattle.wf_send_parts.proofs.window.sessions.a_number_is_read.Goals as goal

pub returns-clause-within : goal.returns-clause-within
returns-clause-within c = open_number

pub returns-clause-state : goal.returns-clause-state
returns-clause-state c w s bodies n seq stands number = state_is w s bodies stands n seq number

pub returns-clause-attempts : goal.returns-clause-attempts
returns-clause-attempts c w s bodies n seq stands number = attempts_is w s bodies stands n seq number

pub returns-clause-frame : goal.returns-clause-frame
returns-clause-frame c w s bodies n seq stands number = frame_is w s bodies stands n seq number
