-- The lines of the BSSs so far were written.
use Rattle.std.proofs.Common.{◌≡◌}
use Rattle.std.specs.Io.KnownBytes.{append_known}
use Rattle.wf_def_world.specs.Run.{world_of}
use Rattle.wf_report.proofs.ShareLaws.{bsses_below}
use Rattle.wf_report.proofs.report.write_bsses.Given as goal

abbrev pub invariant-loop-bss : goal.invariant-loop-bss
invariant-loop-bss g l =
    (g.K.Sink.held l.sink ≡ append_known (g.K.Sink.held l.fn.sink) (bsses_below (world_of l.cell.past) l.bss))
    × (g.K.Sink.faults l.sink ≡ g.K.Sink.faults l.fn.sink)
