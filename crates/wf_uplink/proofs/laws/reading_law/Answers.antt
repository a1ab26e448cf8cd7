-- The law is proved in Numbers.
use Rattle.wf_uplink.proofs.Numbers.{reads}
use Rattle.wf_uplink.proofs.laws.reading_law.Goals as goal

pub returns : goal.returns
returns c = reads
