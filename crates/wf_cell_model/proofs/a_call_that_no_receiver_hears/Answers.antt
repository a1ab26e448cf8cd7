-- Proves that all other calls, and refused calls, leave the receive halves and the marks unchanged.
use Rattle.wf_cell_model.proofs.Keeping.{untold_hears, refused_hears}
use Rattle.wf_cell_model.proofs.a_call_that_no_receiver_hears.Goals as goal

pub returns : goal.returns
returns c = record { untold = untold_hears; refused = refused_hears }
