-- The law is proved in Calls.
use Rattle.wf_uplink.proofs.Calls.{totals}
use Rattle.wf_uplink.proofs.laws.totals_law.Goals as goal

pub returns : goal.returns
returns c = totals
