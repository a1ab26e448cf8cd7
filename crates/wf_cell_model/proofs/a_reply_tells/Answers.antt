-- Proves that a reply is a refusal exactly if its call was refused.
use Rattle.wf_cell_model.proofs.Telling.{reply_refused, refused_reply}
use Rattle.wf_cell_model.proofs.a_reply_tells.Goals as goal

pub returns : goal.returns
returns c = record { why = reply_refused; refused = refused_reply }
