-- The law is proved in Calls.
use Rattle.wf_uplink.proofs.Calls.{charges}
use Rattle.wf_uplink.proofs.laws.air_law.Goals as goal

pub returns : goal.returns
returns c = charges
