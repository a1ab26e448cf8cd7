-- Proves `inferred_law`, by Inferred.
use Rattle.wf_law_driver.proofs.Inferred.{inferred_law}
use Rattle.wf_law_driver.proofs.inferred_law.Goals as goal

pub returns : goal.returns
returns c = record { inferred = inferred_law }
