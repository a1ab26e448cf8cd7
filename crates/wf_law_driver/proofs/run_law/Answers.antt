-- Proves `run_law`, by Runs.
use Rattle.wf_law_driver.proofs.Runs.{run_law}
use Rattle.wf_law_driver.proofs.run_law.Goals as goal

pub returns : goal.returns
returns c = record { run = run_law }
