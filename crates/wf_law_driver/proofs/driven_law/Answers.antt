-- Proves `driven_law`, by Driven.
use Rattle.wf_law_driver.proofs.Driven.{driven_law}
use Rattle.wf_law_driver.proofs.driven_law.Goals as goal

pub returns : goal.returns
returns c = record { driven = driven_law }
