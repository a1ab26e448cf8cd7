-- Proves `delivery_law` (lib.rt) from the lemmas.
use Rattle.wf_law_runs.proofs.Frames.DeliveryLaw.{delivery_law}
use Rattle.wf_law_runs.proofs.delivery_law.Goals as goal

pub returns : goal.returns
returns c = delivery_law
