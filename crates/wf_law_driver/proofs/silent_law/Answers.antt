-- Proves `silent_law`, by Silent.
use Rattle.wf_law_driver.proofs.Silent.{silent_law}
use Rattle.wf_law_driver.proofs.silent_law.Goals as goal

pub returns : goal.returns
returns c = record { silent = silent_law }
