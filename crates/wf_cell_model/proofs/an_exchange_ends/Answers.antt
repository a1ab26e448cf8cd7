-- Proves the effect of a Done.
use Rattle.wf_cell_model.proofs.Catching.{ended_hears}
use Rattle.wf_cell_model.proofs.an_exchange_ends.Goals as goal

pub returns : goal.returns
returns c = ended_hears
