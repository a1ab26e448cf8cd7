-- Proves that the packet of the beacon is written.
use Rattle.std.proofs.Common.{append-nil, take}
use Rattle.wf_io.specs.Capture.{packet_octets}
use Rattle.wf_report.specs.GroupFrames.{beacon_frame}
use Rattle.wf_report.specs.Samples.{world_behind}
use Rattle.wf_report.proofs.Answered.{one_written, one_front, on_ok}
use Rattle.wf_report.proofs.captures.writing.write_beacon.Goals as goal

pub returns-clause-written : goal.returns-clause-written
returns-clause-written g c =
    on_ok c.write_packet.result
    (one_written (g.K.Sink.held c.args.sink.now) (g.K.Sink.held c.write_packet.new.sink) c.clock.result
    (world_behind c.args.cell.now).clock (take c.beacon-len.result c.beacon-len.new.octets)
    (beacon_frame (world_behind c.args.cell.now) c.args.bss) _
    c.clock.ensures.value c.beacon-len.ensures.octets
    (append-nil (packet_octets (world_behind c.args.cell.now).clock
    (beacon_frame (world_behind c.args.cell.now) c.args.bss))))
    c.write_packet.ensures.written

pub returns-clause-front : goal.returns-clause-front
returns-clause-front g c =
    one_front (g.K.Sink.held c.args.sink.now) (g.K.Sink.held c.write_packet.new.sink) c.clock.result
    (world_behind c.args.cell.now).clock (take c.beacon-len.result c.beacon-len.new.octets)
    (beacon_frame (world_behind c.args.cell.now) c.args.bss) _
    c.clock.ensures.value c.beacon-len.ensures.octets
    (append-nil (packet_octets (world_behind c.args.cell.now).clock
    (beacon_frame (world_behind c.args.cell.now) c.args.bss)))
    c.write_packet.ensures.prefix
