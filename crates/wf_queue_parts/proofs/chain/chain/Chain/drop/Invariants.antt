-- The loop ends, since the chain gets shorter.
use Rattle.std.proofs.Common.{length}
use Rattle.wf_queue_parts.proofs.chain.chain.Chain.drop.Given as goal

abbrev pub decreases-loop-parcel : goal.decreases-loop-parcel
decreases-loop-parcel l = length l.self
