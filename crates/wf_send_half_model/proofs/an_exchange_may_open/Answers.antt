-- Proves the law `an_exchange_may_open` by the lemmas of Openings.
use Rattle.wf_send_half_model.proofs.Openings.{opens_above, opens_small, opens_within}
use Rattle.wf_send_half_model.proofs.an_exchange_may_open.Goals as goal

pub returns-clause-above : goal.returns-clause-above
returns-clause-above c = opens_above

pub returns-clause-charges : goal.returns-clause-charges
returns-clause-charges c = opens_small

pub returns-clause-room : goal.returns-clause-room
returns-clause-room c = opens_within
