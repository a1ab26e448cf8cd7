-- The tournament tree has 2^11 leaves.
use Rattle.wf_uplink.proofs.waits.Waits.first_due.Goals as goal

pub first_from-requires : goal.first_from-requires
first_from-requires c = (11, c.self.invariant)
