-- Proves the law `an_enqueue` by the lemmas of Enqueues.
use Rattle.wf_send_half_model.proofs.Enqueues.{enqueue_meets}
use Rattle.wf_send_half_model.proofs.an_enqueue.Goals as goal

pub returns : goal.returns
returns c = enqueue_meets
