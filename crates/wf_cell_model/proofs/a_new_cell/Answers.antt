-- Proves that new receive halves without a mark represent the opening world.
use Rattle.wf_cell_model.proofs.Keeping.{new_hears}
use Rattle.wf_cell_model.proofs.a_new_cell.Goals as goal

pub returns : goal.returns
returns c = new_hears
