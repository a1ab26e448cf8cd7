-- The lines of the stations so far were written.
use Rattle.std.proofs.Common.{◌≡◌}
use Rattle.std.specs.Io.KnownBytes.{append_known}
use Rattle.wf_def_world.specs.Run.{world_of}
use Rattle.wf_report.proofs.ShareLaws.{shares_below}
use Rattle.wf_report.proofs.report.write_shares.Given as goal

abbrev pub invariant-loop-station : goal.invariant-loop-station
invariant-loop-station g l =
    (g.K.Sink.held l.sink ≡ append_known (g.K.Sink.held l.fn.sink)
    (shares_below (world_of l.cell.past) l.station))
    × (g.K.Sink.faults l.sink ≡ g.K.Sink.faults l.fn.sink)
