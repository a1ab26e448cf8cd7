-- Proves the law `an_exchange_is_sent` by the lemmas of Pulls.
use Rattle.wf_send_half_model.proofs.Pulls.{send_parts, send_reply, wide_same}
use Rattle.wf_send_half_model.proofs.an_exchange_is_sent.Goals as goal

pub returns-clause-sent : goal.returns-clause-sent
returns-clause-sent c = send_parts

pub returns-clause-reply : goal.returns-clause-reply
returns-clause-reply c = send_reply

pub returns-clause-wide : goal.returns-clause-wide
returns-clause-wide c = wide_same
