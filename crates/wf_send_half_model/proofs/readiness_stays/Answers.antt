-- Proves the law `readiness_stays` by the lemmas of Pulled, Spared, OwnClass, Beyond and Steady.
use Rattle.wf_send_half_model.proofs.Pulled.{ready_pulled}
use Rattle.wf_send_half_model.proofs.Spared.{ready_others, ready_refused}
use Rattle.wf_send_half_model.proofs.OwnClass.{ready_enqueued}
use Rattle.wf_send_half_model.proofs.Beyond.{ready_ended}
use Rattle.wf_send_half_model.proofs.Steady.{ready_left}
use Rattle.wf_send_half_model.proofs.readiness_stays.Goals as goal

pub returns-clause-others : goal.returns-clause-others
returns-clause-others c = ready_others

pub returns-clause-pull : goal.returns-clause-pull
returns-clause-pull c = ready_pulled

pub returns-clause-done : goal.returns-clause-done
returns-clause-done c = ready_ended

pub returns-clause-nobody : goal.returns-clause-nobody
returns-clause-nobody c = ready_left

pub returns-clause-enqueue : goal.returns-clause-enqueue
returns-clause-enqueue c = ready_enqueued

pub returns-clause-refused : goal.returns-clause-refused
returns-clause-refused c = ready_refused
