-- Proves that a Pull adds a mark, and that there is room for it.
use Rattle.wf_cell_model.proofs.Opening.{opened_hears, opened_number, marks_within, marks_below}
use Rattle.wf_cell_model.proofs.an_exchange_opens.Goals as goal

pub returns : goal.returns
returns c = record { hears = opened_hears; number = opened_number; room = marks_within; above = marks_below }
