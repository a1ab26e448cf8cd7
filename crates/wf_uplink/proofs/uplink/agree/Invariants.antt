-- The TIDs so far have agreements.
use Rattle.std.proofs.Common.{◌≡◌}
use Rattle.wf_recv_peer.specs.Board.{empty_board}
use Rattle.wf_uplink.specs.Sides.{Agreed}
use Rattle.wf_uplink.specs.World.{sided}
use Rattle.wf_uplink.proofs.uplink.agree.Given as goal

abbrev pub invariant-loop-tid : goal.invariant-loop-tid
invariant-loop-tid l = l.sides ≡ sided l.tid l.station (Agreed (empty_board l.start l.window)) l.fn.sides
