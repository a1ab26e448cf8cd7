-- Proves the effect and the reply of an Answer.
use Rattle.wf_cell_model.proofs.Answering.{answered_hears, answer_reply, answer_wide}
use Rattle.wf_cell_model.proofs.an_answer_is_made.Goals as goal

pub returns : goal.returns
returns c = record { hears = answered_hears; reply = answer_reply; wide = answer_wide }
