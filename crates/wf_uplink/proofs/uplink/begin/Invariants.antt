-- The reorderings of the TIDs so far are reset.
use Rattle.std.proofs.Common.{◌≡◌}
use Rattle.wf_uplink.specs.World.{begun}
use Rattle.wf_uplink.proofs.uplink.begin.Given as goal

abbrev pub invariant-loop-tid : goal.invariant-loop-tid
invariant-loop-tid l = l.sequencers ≡ begun l.tid l.station l.window l.start l.fn.sequencers
