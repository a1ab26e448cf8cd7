-- The octets written and the buffer are together the line up to the items so far.
use Rattle.std.proofs.Common.{◌≡◌, ◌≤◌, length}
use Rattle.wf_run_scripts.specs.UplinkPieces.{IsBegun}
use Rattle.wf_run_scripts.proofs.UplinkWriting.{text_to}
use Rattle.wf_run_scripts.proofs.uplink.told.write_told.Given as goal

abbrev pub invariant-loop-i : goal.invariant-loop-i
invariant-loop-i g l =
    IsBegun (g.K.Sink.held l.fn.sink) (g.K.Sink.held l.sink) l.line (text_to l.has_air l.up l.i)
    × (length l.line ≤ 8000)
    × (g.K.Sink.faults l.sink ≡ g.K.Sink.faults l.fn.sink)
