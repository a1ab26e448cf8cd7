-- The TIDs so far are open without agreements.
use Rattle.std.proofs.Common.{◌≡◌, None}
use Rattle.wf_uplink.specs.Sides.{Plain}
use Rattle.wf_uplink.specs.World.{sided}
use Rattle.wf_uplink.proofs.uplink.begin_plain.Given as goal

abbrev pub invariant-loop-tid : goal.invariant-loop-tid
invariant-loop-tid l = l.sides ≡ sided l.tid l.station (Plain None) l.fn.sides
