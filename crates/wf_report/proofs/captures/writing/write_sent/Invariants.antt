-- The packets of the transmissions so far were written.
use Rattle.std.proofs.Common.{◌≡◌, take}
use Rattle.std.specs.Io.KnownBytes.{append_known}
use Rattle.wf_report.specs.Captures.{samples}
use Rattle.wf_report.specs.Packets.{frames_sent, packets_at, octets_of_packets}
use Rattle.wf_report.specs.Samples.{world_behind}
use Rattle.wf_report.proofs.captures.writing.write_sent.Given as goal

abbrev pub invariant-loop-index : goal.invariant-loop-index
invariant-loop-index g l =
    (g.K.Sink.held l.sink
    ≡ append_known (g.K.Sink.held l.fn.sink) (octets_of_packets
    (packets_at (world_behind l.cell).clock (take l.index
    (frames_sent (world_behind l.cell) (samples (world_behind l.cell)) l.exchange)))))
    × (g.K.Sink.faults l.sink ≡ g.K.Sink.faults l.fn.sink)
