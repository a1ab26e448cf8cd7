-- Proves the law `a_done` by the lemmas of Endings and Dones.
use Rattle.wf_send_half_model.proofs.Endings.{open_live}
use Rattle.wf_send_half_model.proofs.Dones.{done_meets, done_reply}
use Rattle.wf_send_half_model.proofs.a_done.Goals as goal

pub returns-clause-live : goal.returns-clause-live
returns-clause-live c = open_live

pub returns-clause-whole : goal.returns-clause-whole
returns-clause-whole c = done_meets

pub returns-clause-reply : goal.returns-clause-reply
returns-clause-reply c = done_reply
