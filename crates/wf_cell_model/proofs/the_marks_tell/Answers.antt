-- Proves that the marks determine the refusals of an Arrive, an Unsent, an Answer and a Done.
use Rattle.wf_cell_model.proofs.Telling.{mark_told, arrive_told, unsent_told, untold_told, answer_inferred, done_inferred}
use Rattle.wf_cell_model.proofs.the_marks_tell.Goals as goal

pub returns : goal.returns
returns c = record {
  mark = mark_told;
  arrive = arrive_told;
  unsent = unsent_told;
  untold = untold_told;
  answer = answer_inferred;
  done = done_inferred;
}
