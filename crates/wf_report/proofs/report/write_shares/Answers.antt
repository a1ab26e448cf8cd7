-- Proves that the loop writes the lines of the live stations, one station per step.
use Rattle.std.proofs.Common.{◌∙◌, ap, arith}
use Rattle.std.specs.Io.KnownBytes.{append_known}
use Rattle.wf_def_world.specs.Run.{world_of}
use Rattle.wf_report.specs.Parts.{lines_of}
use Rattle.wf_io.proofs.FrontLaws.{append_known-append}
use Rattle.wf_report.proofs.ShareLaws.{shares_below, shares-more, front_share}
use Rattle.wf_report.proofs.report.write_shares.Goals as goal

pub returns-in-Err-clause-front : goal.returns-in-Err-clause-front
returns-in-Err-clause-front g c =
    front_share (world_of c.args.cell.now.past) c.loop-station.station _ _ _
    (omega (arith, c.loop-station-test.true, c.stations-station-end.ensures)) c.loop-station.invariant.0
    c.in-Err.ensures.front

pub loop-station-preserved : goal.loop-station-preserved
loop-station-preserved g c = (
  c.in-Ok.ensures.written
      ∙ ap (λ h. append_known h (lines_of (world_of c.args.cell.now.past) c.loop-station.station))
      c.loop-station.invariant.0
      ∙ append_known-append (g.K.Sink.held c.args.sink.now)
      (shares_below (world_of c.args.cell.now.past) c.loop-station.station)
      (lines_of (world_of c.args.cell.now.past) c.loop-station.station)
      ∙ ap (append_known (g.K.Sink.held c.args.sink.now))
      (shares-more (world_of c.args.cell.now.past) c.loop-station.station),
  c.in-Ok.ensures.cause.quiet ∙ c.loop-station.invariant.1,
)
