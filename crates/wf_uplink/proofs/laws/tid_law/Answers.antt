-- The law is proved in Calls.
use Rattle.wf_uplink.proofs.Calls.{tids_told}
use Rattle.wf_uplink.proofs.laws.tid_law.Goals as goal

pub returns : goal.returns
returns c = tids_told
