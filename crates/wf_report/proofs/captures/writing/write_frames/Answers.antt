-- Proves that the packets of the call are written. By cases of its answer: a pull, a BlockAck, one about
-- group frames, or any other.
use Rattle.std.proofs.Common.{◌∙◌, ap, sym, subst, Some, None}
use Rattle.std.specs.Io.KnownBytes.{append_known}
use Rattle.wf_frame.specs.Answers.{reply_with}
use Rattle.wf_frame.specs.declared.answers.Brief.{Brief}
use Rattle.wf_io.specs.Fronts.{HoldsFront}
use Rattle.wf_def_world.specs.World.{World}
use Rattle.wf_report.specs.Captures.{samples}
use Rattle.wf_report.specs.Packets.{frames_by, packets_at, octets_of_packets}
use Rattle.wf_report.specs.Samples.{world_behind}
use Rattle.wf_report.proofs.Answered.{nothing_written, on_ok}
use Rattle.wf_report.proofs.GroupPackets.{packets_named}
use Rattle.wf_report.proofs.captures.writing.write_frames.Goals as goal

pub returns-in-Send-clause-written : goal.returns-in-Send-clause-written
returns-in-Send-clause-written g c =
    let w : World = world_behind c.args.cell.now in
    let same =
    ap (λ (b : Brief). octets_of_packets (packets_at w.clock
    (frames_by w (samples w) c.args.note.now (reply_with b c.args.answer.now.pairs
    c.args.answer.now.ids)))) c.in-Send.is in
    on_ok c.write_sent.result (λ wrote. wrote ∙ ap (append_known (g.K.Sink.held c.args.sink.now)) (sym same))
    c.write_sent.ensures.written

pub returns-in-Send-clause-front : goal.returns-in-Send-clause-front
returns-in-Send-clause-front g c =
    let w : World = world_behind c.args.cell.now in
    let same =
    ap (λ (b : Brief). octets_of_packets (packets_at w.clock
    (frames_by w (samples w) c.args.note.now (reply_with b c.args.answer.now.pairs
    c.args.answer.now.ids)))) c.in-Send.is in
    subst (HoldsFront (g.K.Sink.held c.args.sink.now) (g.K.Sink.held c.write_sent.new.sink))
    (sym same) c.write_sent.ensures.front

pub returns-in-None-bss_named-clause-written : goal.returns-in-None-bss_named-clause-written
returns-in-None-bss_named-clause-written g c =
    let w : World = world_behind c.args.cell.now in
    let same =
    ap (λ (b : Brief). octets_of_packets (packets_at w.clock
    (frames_by w (samples w) c.args.note.now (reply_with b c.args.answer.now.pairs
    c.args.answer.now.ids)))) c.in-Group.is in
    nothing_written (g.K.Sink.held c.args.sink.now) _
    (same ∙ packets_named w (samples w) c.args.note.now c.in-Group.answer None
    c.in-None-bss_named.ensures.named)

pub returns-in-Some-bss_named-clause-written : goal.returns-in-Some-bss_named-clause-written
returns-in-Some-bss_named-clause-written g c =
    let w : World = world_behind c.args.cell.now in
    let same =
    ap (λ (b : Brief). octets_of_packets (packets_at w.clock
    (frames_by w (samples w) c.args.note.now (reply_with b c.args.answer.now.pairs
    c.args.answer.now.ids)))) c.in-Group.is
    ∙ packets_named w (samples w) c.args.note.now c.in-Group.answer (Some c.in-Some-bss_named.bss)
    c.in-Some-bss_named.ensures.named in
    on_ok c.write_group.result
    (λ wrote. wrote ∙ ap (append_known (g.K.Sink.held c.args.sink.now)) (sym same))
    c.write_group.ensures.written

pub returns-in-Some-bss_named-clause-front : goal.returns-in-Some-bss_named-clause-front
returns-in-Some-bss_named-clause-front g c =
    let w : World = world_behind c.args.cell.now in
    let same =
    ap (λ (b : Brief). octets_of_packets (packets_at w.clock
    (frames_by w (samples w) c.args.note.now (reply_with b c.args.answer.now.pairs
    c.args.answer.now.ids)))) c.in-Group.is
    ∙ packets_named w (samples w) c.args.note.now c.in-Group.answer (Some c.in-Some-bss_named.bss)
    c.in-Some-bss_named.ensures.named in
    subst (HoldsFront (g.K.Sink.held c.args.sink.now) (g.K.Sink.held c.write_group.new.sink))
    (sym same) c.write_group.ensures.front
