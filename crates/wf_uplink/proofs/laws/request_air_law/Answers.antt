-- The law is proved in Calls.
use Rattle.wf_uplink.proofs.Calls.{request_charges}
use Rattle.wf_uplink.proofs.laws.request_air_law.Goals as goal

pub returns : goal.returns
returns c = request_charges
