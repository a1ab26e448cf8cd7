-- Proves the law `an_exchange_ends_as_a_driver_tells` by the lemmas of Driven.
use Rattle.wf_send_half.proofs.Driven.{meets_unheard, ready_after_done, ready_as_before}
use Rattle.wf_send_half.proofs.unheard.an_exchange_ends_as_a_driver_tells.Goals as goal

pub returns-clause-meets : goal.returns-clause-meets
returns-clause-meets c = meets_unheard

pub returns-clause-ready : goal.returns-clause-ready
returns-clause-ready c = ready_after_done

pub returns-clause-flags : goal.returns-clause-flags
returns-clause-flags c = ready_as_before
