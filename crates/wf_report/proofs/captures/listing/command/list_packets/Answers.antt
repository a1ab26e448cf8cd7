-- Proves how the list ends, by cases of the next item: a packet, a fault, the end of the input, or a failed
-- source or sink.
use Rattle.std.proofs.Common.{◌∙◌, refl, ap, arith}
use Rattle.wf_trace.proofs.CommandEndings as endings
use Rattle.wf_io.specs.declared.status.Status.TheVariants.{Done, BadTrace}
use Rattle.wf_io.specs.declared.pcap.reading.Packet.{Packet}
use Rattle.wf_report.specs.declared.captures.listing.reader.Next.TheVariants as next
use Rattle.wf_report.specs.ListedPackets.{behind_head}
use Rattle.wf_report.proofs.Complete.{answered}
use Rattle.wf_report.proofs.Listings.{begun_none, begun_more, ends_read, ends_write, ends_done, ends_bad}
use Rattle.wf_report.proofs.captures.listing.command.list_packets.Goals as goal

pub packets-init : goal.packets-init
packets-init g c = record {
  begun = begun_none c.args.form (g.S.Source.left c.args.source.now) (g.K.Sink.held c.args.sink.now);
  most = omega arith;
  few = omega arith;
  room = c.requires;
  reads = refl;
  writes = refl;
}

pub returns-in-Err-clause-ends : goal.returns-in-Err-clause-ends
returns-in-Err-clause-ends g c =
    let takes = c.in-Err.ensures.takes in
    endings.ends_unread _ _ _ _ _ _ _ _ _ _ _ (answered (behind_head c.args.form))
    (ends_read c.args.form _ _ _ _ _ _ _ takes.0 c.packets.invariant.begun takes.1 takes.2)
    c.packets.invariant.reads c.in-Err.ensures.cause.risen c.packets.invariant.writes

pub returns-in-Err-write_packet-clause-ends : goal.returns-in-Err-write_packet-clause-ends
returns-in-Err-write_packet-clause-ends g c =
    let takes = rw (c.in-Ok-Packet.field-0-is) at c.in-Ok-Packet.ensures.takes in
    endings.ends_unwritten _ _ _ _ _ _ _ _ _ _ _ (answered (behind_head c.args.form))
    (ends_write c.args.form _ _ _ _ _ _ _ _ (next.Packet c.in-Ok-Packet.packet) c.next_packet.new.body takes.0
    c.packets.invariant.begun takes.1 takes.2 c.in-Err-write_packet.ensures.prefix)
    (c.in-Ok-Packet.ensures.cause.quiet ∙ c.packets.invariant.reads) c.packets.invariant.writes
    c.in-Err-write_packet.ensures.cause.risen

pub packets-preserved : goal.packets-preserved
packets-preserved g c =
    let takes = rw (c.in-Ok-Packet.field-0-is) at c.in-Ok-Packet.ensures.takes in
    let captured = ap (λ (p : Packet). p.captured) takes.2.1 in
    let size = takes.2.0.size in
    record {
      begun = begun_more c.args.form _ _ _ _ _ _ _ _ c.in-Ok-Packet.packet c.next_packet.new.body takes.0
          c.packets.invariant.begun takes.1 takes.2 c.in-Ok.ensures.written _
          (omega (arith, captured, size, c.from.ensures));
      most = omega (arith, captured, size, c.from.ensures, takes.2.2);
      few = omega (arith, c.packets.invariant.few);
      room = c.next_packet.auto.body ∙ c.packets.invariant.room;
      reads = c.in-Ok-Packet.ensures.cause.quiet ∙ c.packets.invariant.reads;
      writes = c.in-Ok.ensures.cause.quiet ∙ c.packets.invariant.writes;
    }

pub returns-in-Ok-write_fault-clause-ends : goal.returns-in-Ok-write_fault-clause-ends
returns-in-Ok-write_fault-clause-ends g c =
    let takes = rw (c.in-Ok-Bad.field-0-is) at c.in-Ok-Bad.ensures.takes in
    endings.ends_quiet _ _ _ _ _ _ _ _ _ _ BadTrace tt (answered (behind_head c.args.form))
    (ends_bad c.args.form _ _ _ _ _ _ _ _ c.in-Ok-Bad.kind c.next_packet.new.body takes.0
    c.packets.invariant.begun takes.1 takes.2 c.in-Ok-write_fault.ensures.written)
    (c.in-Ok-Bad.ensures.cause.quiet ∙ c.packets.invariant.reads)
    (c.in-Ok-write_fault.ensures.cause.quiet ∙ c.packets.invariant.writes)

pub returns-in-Err-write_fault-clause-ends : goal.returns-in-Err-write_fault-clause-ends
returns-in-Err-write_fault-clause-ends g c =
    let takes = rw (c.in-Ok-Bad.field-0-is) at c.in-Ok-Bad.ensures.takes in
    endings.ends_unwritten _ _ _ _ _ _ _ _ _ _ _ (answered (behind_head c.args.form))
    (ends_write c.args.form _ _ _ _ _ _ _ _ (next.Bad c.in-Ok-Bad.kind) c.next_packet.new.body takes.0
    c.packets.invariant.begun takes.1 takes.2 c.in-Err-write_fault.ensures.prefix)
    (c.in-Ok-Bad.ensures.cause.quiet ∙ c.packets.invariant.reads) c.packets.invariant.writes
    c.in-Err-write_fault.ensures.cause.risen

pub returns-in-Ok-write_count-clause-ends : goal.returns-in-Ok-write_count-clause-ends
returns-in-Ok-write_count-clause-ends g c =
    let takes = rw (c.in-Ok-Over.field-0-is) at c.in-Ok-Over.ensures.takes in
    endings.ends_quiet _ _ _ _ _ _ _ _ _ _ Done tt (answered (behind_head c.args.form))
    (ends_done c.args.form _ _ _ _ _ _ _ _ c.next_packet.new.body takes.0 c.packets.invariant.begun takes.1
    takes.2 c.in-Ok-write_count.ensures.written)
    (c.in-Ok-Over.ensures.cause.quiet ∙ c.packets.invariant.reads)
    (c.in-Ok-write_count.ensures.cause.quiet ∙ c.packets.invariant.writes)

pub returns-in-Err-write_count-clause-ends : goal.returns-in-Err-write_count-clause-ends
returns-in-Err-write_count-clause-ends g c =
    let takes = rw (c.in-Ok-Over.field-0-is) at c.in-Ok-Over.ensures.takes in
    endings.ends_unwritten _ _ _ _ _ _ _ _ _ _ _ (answered (behind_head c.args.form))
    (ends_write c.args.form _ _ _ _ _ _ _ _ next.Over c.next_packet.new.body takes.0 c.packets.invariant.begun
    takes.1 takes.2 c.in-Err-write_count.ensures.prefix)
    (c.in-Ok-Over.ensures.cause.quiet ∙ c.packets.invariant.reads) c.packets.invariant.writes
    c.in-Err-write_count.ensures.cause.risen
