-- Proves that a kept answer shows the same numbers as the answer.
use Rattle.wf_cell_model.proofs.Shown.{kept_shown, mark_shown}
use Rattle.wf_cell_model.proofs.the_kept_answer_is_shown.Goals as goal

pub returns : goal.returns
returns c = record { shown = kept_shown; mark = mark_shown }
