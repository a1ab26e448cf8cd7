-- Proves the law `an_exchange_of_data_ends` by the lemmas of Settles, Endings, Ended, Repeats and Dones.
use Rattle.wf_send_half_model.proofs.Settles.{ending_next_one, ending_done}
use Rattle.wf_send_half_model.proofs.Endings.{begins}
use Rattle.wf_send_half_model.proofs.Ended.{state_at_end}
use Rattle.wf_send_half_model.proofs.Dones.{data_world}
use Rattle.wf_send_half_model.proofs.Repeats.{sent_once}
use Rattle.wf_send_half_model.proofs.an_exchange_of_data_ends.Goals as goal

pub returns-clause-begins : goal.returns-clause-begins
returns-clause-begins c = begins

pub returns-clause-next : goal.returns-clause-next
returns-clause-next c = ending_next_one

pub returns-clause-state : goal.returns-clause-state
returns-clause-state c = state_at_end

pub returns-clause-done : goal.returns-clause-done
returns-clause-done c = ending_done

pub returns-clause-world : goal.returns-clause-world
returns-clause-world c = data_world

pub returns-clause-once : goal.returns-clause-once
returns-clause-once c = sent_once
