-- Proves how the list ends, by cases of the file header: the source failed in it, it is refused, or it passes
-- its checks.
use Rattle.std.proofs.Common.{◌∙◌, refl, ap, arith, take, subst}
use Rattle.std.specs.Io.KnownBytes.{prepend_known}
use Rattle.std.proofs.lemmas.List.{length-take-le}
use Rattle.wf_trace.proofs.CommandEndings as endings
use Rattle.wf_trace.specs.CommandEnds.{TellsFault}
use Rattle.wf_io.specs.declared.status.Status.TheVariants.{BadTrace, ReadFault}
use Rattle.wf_report.specs.ListedPackets.{listing}
use Rattle.wf_report.proofs.Complete.{answered}
use Rattle.wf_report.proofs.Openings.{ends_unread, ends_behind, ends_refused, ends_refused_unwritten}
use Rattle.wf_report.proofs.captures.listing.command.list_capture.Goals as goal

pub returns-in_default-clause-ends : goal.returns-in_default-clause-ends
returns-in_default-clause-ends g c =
    let t = c.in_default.ensures.taken in
    endings.ends_unread _ _ _ _ _ _ _ _ _ _ _ (answered listing)
    (ends_unread (g.S.Source.left c.args.source.now) (g.S.Source.left c.fill.new.source)
    (g.K.Sink.held c.args.sink.now) t.0 t.1 (omega (arith, t.2, c.fill.auto.buffer)))
    refl c.in_default.ensures.cause.risen refl

pub returns-in-Ok-read_head-clause-ends : goal.returns-in-Ok-read_head-clause-ends
returns-in-Ok-read_head-clause-ends g c =
    let head = take c.in-Ok.have c.fill.new.buffer in
    let t = c.in-Ok.ensures.taken in
    let size = length-take-le c.in-Ok.have c.fill.new.buffer c.in-Ok.ensures.count in
    let end = c.list_packets.ensures.ends in
    let text = ends_behind c.list_packets.result c.in-Ok-read_head.form _ _ _ _ _ head
    (t.1 ∙ ap (λ l. prepend_known l (g.S.Source.left c.fill.new.source)) t.2)
    (omega (arith, size, c.in-Ok.ensures.count, c.fill.auto.buffer, c.in-Ok-read_head.ensures.read.size))
    c.in-Ok-read_head.ensures.fault c.in-Ok-read_head.ensures.form end.text in
    let read = subst (λ n. TellsFault ReadFault n (g.S.Source.faults c.list_packets.new.source)
    c.list_packets.result) c.in-Ok.ensures.cause.quiet end.read in
    record {
      text = text;
      read = read;
      write = end.write;
      command = end.command;
      complete = λ unread unwritten input told. answered listing c.list_packets.result input text.0 text.1
          (text.4 input told) (λ e. unread (read.risen e)) (λ e. unwritten (end.write.risen e)) end.command;
    }

pub returns-in-Ok-write_fault-clause-ends : goal.returns-in-Ok-write_fault-clause-ends
returns-in-Ok-write_fault-clause-ends g c =
    let head = take c.in-Ok.have c.fill.new.buffer in
    let t = c.in-Ok.ensures.taken in
    let size = length-take-le c.in-Ok.have c.fill.new.buffer c.in-Ok.ensures.count in
    endings.ends_quiet _ _ _ _ _ _ _ _ _ _ BadTrace tt (answered listing)
    (ends_refused _ _ _ _ head c.in-Err.fault c.of-kind.result
    (t.1 ∙ ap (λ l. prepend_known l (g.S.Source.left c.fill.new.source)) t.2)
    (omega (arith, size, c.in-Ok.ensures.count, c.fill.auto.buffer))
    (λ short. c.in-Ok.ensures.over (omega (arith, size, short, c.fill.auto.buffer)))
    c.in-Err.ensures.fault c.of-kind.ensures c.in-Ok-write_fault.ensures.written)
    c.in-Ok.ensures.cause.quiet c.in-Ok-write_fault.ensures.cause.quiet

pub returns-in-Err-write_fault-clause-ends : goal.returns-in-Err-write_fault-clause-ends
returns-in-Err-write_fault-clause-ends g c =
    let head = take c.in-Ok.have c.fill.new.buffer in
    let t = c.in-Ok.ensures.taken in
    let size = length-take-le c.in-Ok.have c.fill.new.buffer c.in-Ok.ensures.count in
    endings.ends_unwritten _ _ _ _ _ _ _ _ _ _ _ (answered listing)
    (ends_refused_unwritten _ _ _ _ head c.in-Err.fault c.of-kind.result
    (t.1 ∙ ap (λ l. prepend_known l (g.S.Source.left c.fill.new.source)) t.2)
    (omega (arith, size, c.in-Ok.ensures.count, c.fill.auto.buffer))
    (λ short. c.in-Ok.ensures.over (omega (arith, size, short, c.fill.auto.buffer)))
    c.in-Err.ensures.fault c.of-kind.ensures c.in-Err-write_fault.ensures.prefix)
    c.in-Ok.ensures.cause.quiet refl c.in-Err-write_fault.ensures.cause.risen
