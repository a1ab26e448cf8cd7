-- Proves the law `a_pull_is_refused` by the lemmas of Asked.
use Rattle.wf_send_half_model.proofs.Asked.{full_refused, ahead_refused, idle_refused, not_refused, none_ready_refused, some_ready_picked}
use Rattle.wf_send_half_model.proofs.a_pull_is_refused.Goals as goal

pub returns-clause-full : goal.returns-clause-full
returns-clause-full c = full_refused

pub returns-clause-ahead : goal.returns-clause-ahead
returns-clause-ahead c = ahead_refused

pub returns-clause-idle : goal.returns-clause-idle
returns-clause-idle c = idle_refused

pub returns-clause-none : goal.returns-clause-none
returns-clause-none c = not_refused

pub returns-clause-none_ready : goal.returns-clause-none_ready
returns-clause-none_ready c = none_ready_refused

pub returns-clause-some_ready : goal.returns-clause-some_ready
returns-clause-some_ready c = some_ready_picked
