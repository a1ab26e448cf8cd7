-- Proves that the packets of the call are written. By cases of its answer.
use Rattle.std.proofs.Common.{◌∙◌, ap, sym, subst}
use Rattle.std.specs.Io.KnownBytes.{append_known}
use Rattle.wf_frame.specs.declared.notes.GroupReply.{GroupReply}
use Rattle.wf_io.specs.Fronts.{HoldsFront}
use Rattle.wf_def_world.specs.World.{World}
use Rattle.wf_report.specs.Packets.{frames_of_group, packets_at, octets_of_packets}
use Rattle.wf_report.specs.Samples.{world_behind}
use Rattle.wf_report.proofs.Answered.{on_ok}
use Rattle.wf_report.proofs.captures.writing.write_group.Goals as goal

pub returns-in-Beacon-clause-written : goal.returns-in-Beacon-clause-written
returns-in-Beacon-clause-written g c =
    let w : World = world_behind c.args.cell.now in
    let same =
    ap (λ (a : GroupReply). octets_of_packets (packets_at w.clock (frames_of_group w c.args.bss a)))
    c.in-Beacon.is in
    on_ok c.write_beacon.result
    (λ wrote. wrote ∙ ap (append_known (g.K.Sink.held c.args.sink.now)) (sym same))
    c.write_beacon.ensures.written

pub returns-in-Beacon-clause-front : goal.returns-in-Beacon-clause-front
returns-in-Beacon-clause-front g c =
    let w : World = world_behind c.args.cell.now in
    let same =
    ap (λ (a : GroupReply). octets_of_packets (packets_at w.clock (frames_of_group w c.args.bss a)))
    c.in-Beacon.is in
    subst (HoldsFront (g.K.Sink.held c.args.sink.now) (g.K.Sink.held c.write_beacon.new.sink))
    (sym same) c.write_beacon.ensures.front

pub returns-in-Send-clause-written : goal.returns-in-Send-clause-written
returns-in-Send-clause-written g c =
    let w : World = world_behind c.args.cell.now in
    let same =
    ap (λ (a : GroupReply). octets_of_packets (packets_at w.clock (frames_of_group w c.args.bss a)))
    c.in-Send.is in
    on_ok c.write_group_frame.result
    (λ wrote. wrote ∙ ap (append_known (g.K.Sink.held c.args.sink.now)) (sym same))
    c.write_group_frame.ensures.written

pub returns-in-Send-clause-front : goal.returns-in-Send-clause-front
returns-in-Send-clause-front g c =
    let w : World = world_behind c.args.cell.now in
    let same =
    ap (λ (a : GroupReply). octets_of_packets (packets_at w.clock (frames_of_group w c.args.bss a)))
    c.in-Send.is in
    subst (HoldsFront (g.K.Sink.held c.args.sink.now) (g.K.Sink.held c.write_group_frame.new.sink))
    (sym same) c.write_group_frame.ensures.front
