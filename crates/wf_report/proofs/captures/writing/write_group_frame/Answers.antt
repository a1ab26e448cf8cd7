-- Proves that the packet of the group frame of the BSS that is on the air is written. By cases of whether
-- there is one.
use Rattle.std.proofs.Common.{take}
use Rattle.wf_def_world.specs.World.{World, group_of}
use Rattle.wf_send_parts.specs.Group.{world_frame}
use Rattle.wf_report.specs.GroupFrames.{group_frame}
use Rattle.wf_report.specs.Samples.{world_behind}
use Rattle.wf_report.proofs.Answered.{one_written, one_front, on_ok}
use Rattle.wf_report.proofs.GroupPackets.{group_one}
use Rattle.wf_report.proofs.captures.writing.write_group_frame.Goals as goal

pub returns-clause-written : goal.returns-clause-written
returns-clause-written g c =
    let w : World = world_behind c.args.cell.now in
    on_ok c.write_packet.result
    (one_written (g.K.Sink.held c.args.sink.now) (g.K.Sink.held c.write_packet.new.sink) c.clock.result
    w.clock (take c.group_frame-len.result c.group_frame-len.new.octets)
    (group_frame c.args.number c.args.more c.in-Some.frame.len) _ c.clock.ensures.value
    c.group_frame-len.ensures.octets
    (group_one w.clock c.args.number c.args.more (group_of w c.args.bss).flying (world_frame c.in-Some.frame)
    c.in-Some.ensures))
    c.write_packet.ensures.written

pub returns-clause-front : goal.returns-clause-front
returns-clause-front g c =
    let w : World = world_behind c.args.cell.now in
    one_front (g.K.Sink.held c.args.sink.now) (g.K.Sink.held c.write_packet.new.sink) c.clock.result
    w.clock (take c.group_frame-len.result c.group_frame-len.new.octets)
    (group_frame c.args.number c.args.more c.in-Some.frame.len) _ c.clock.ensures.value
    c.group_frame-len.ensures.octets
    (group_one w.clock c.args.number c.args.more (group_of w c.args.bss).flying (world_frame c.in-Some.frame)
    c.in-Some.ensures)
    c.write_packet.ensures.prefix
