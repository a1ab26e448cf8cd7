-- The law is proved in PlainCalls.
use Rattle.wf_uplink.proofs.PlainCalls.{plain_told}
use Rattle.wf_uplink.proofs.laws.plain_law.Goals as goal

pub returns : goal.returns
returns c = plain_told
