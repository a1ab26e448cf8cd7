-- Proves `opening_law`, by Silent.
use Rattle.wf_law_driver.proofs.Silent.{opening_unheard}
use Rattle.wf_law_driver.proofs.opening_law.Goals as goal

pub returns : goal.returns
returns c = record { unheard = opening_unheard }
