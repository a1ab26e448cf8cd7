-- Proves `transmit_law`, by Transmit.
use Rattle.wf_law_driver.proofs.Transmit.{transmit_law}
use Rattle.wf_law_driver.proofs.transmit_law.Goals as goal

pub returns : goal.returns
returns c = record { transmit = transmit_law }
