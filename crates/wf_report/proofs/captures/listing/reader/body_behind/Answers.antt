-- Proves the result for a packet with a complete header. By cases: it goes beyond the octets that are read,
-- its header is refused, its octets end too soon, or it is complete.
use Rattle.std.proofs.Common.{◌∙◌, sym, ap, subst, arith, [], length, drop, ◌++◌, ◌≤◌, length-append, Some}
use Rattle.std.proofs.lemmas.List.{take_all, take_at, drop_at, length-take-le}
use Rattle.wf_io.specs.declared.pcap.reading.Packet.{Packet}
use Rattle.wf_report.specs.declared.captures.listing.fault.FaultKind.{FaultKind}
use Rattle.wf_report.specs.declared.captures.listing.fault.FaultKind.TheVariants.{Short}
use Rattle.wf_report.specs.ListingReading.{IsFlawed}
use Rattle.wf_report.proofs.TakenOctets.{taken_none}
use Rattle.wf_report.proofs.Heads.{packet_front, captured_front, packet_fault_front}
use Rattle.wf_report.proofs.Flaws.{past, part_body, fails_inside, kind_not_big, short_not_big, small_short, small_fault, long_only, captured_most, flawed_end, flawed_head}
use Rattle.wf_report.proofs.captures.listing.reader.body_behind.Goals as goal

pub returns-then-behind-from-gt-MOST_OCTETS-clause-takes :
    goal.returns-then-behind-from-gt-MOST_OCTETS-clause-takes
returns-then-behind-from-gt-MOST_OCTETS-clause-takes g c =
    let t = c.past_limit.ensures.takes in
    let captured = ap (λ (p : Packet). p.captured) c.in-Ok.ensures.read in (
      t.0,
      t.1,
      past c.args.form c.args.place Short c.args.head.now t.0 _ _ c.past_limit.result (sym c.requires.head)
          (omega (arith, captured, c.from.ensures, c.if-behind-from-gt-MOST_OCTETS.true))
          (λ few. small_short c.args.form c.args.head.now t.0
          (omega (arith, c.requires.head)) c.in-Ok.ensures.fault
          (omega (arith, few, captured, c.from.ensures, c.if-behind-from-gt-MOST_OCTETS.true)))
          short_not_big
          t.2,
    )

pub returns-then-branch-captured-clause-takes : goal.returns-then-branch-captured-clause-takes
returns-then-branch-captured-clause-takes g c =
    let form = c.args.form in
    let head = c.args.head.now in
    let t = c.in_ok-fill-in-Ok.ensures.taken in
    let n = c.in_ok-fill-in-Ok.field-0 in
    let buffer = c.fill.new.buffer in
    let captured = ap (λ (p : Packet). p.captured) c.in-Ok.ensures.read in
    let few = captured_most form head (omega (arith, c.requires.head)) c.in-Ok.ensures.fault in
    let room = c.fill.auto.buffer ∙ length-take-le c.in-Ok.packet.captured c.args.body.now
    (omega (arith, few, captured, c.requires.room)) in
    let size = ap length t.2 ∙ length-take-le n buffer c.in_ok-fill-in-Ok.ensures.count in (
      t.0,
      t.1,
      flawed_end form c.args.place Short _ head t.0 (omega (arith, c.requires.head))
          (c.in_ok-fill-in-Ok.ensures.over (omega (arith, room, c.if-branch-captured.true)))
          (omega (
            arith,
            length-append head t.0,
            size,
            c.requires.head,
            c.if-branch-captured.true,
            c.if-behind-from-gt-MOST_OCTETS.false,
            c.from.ensures,
          ))
          (small_short form head t.0 (omega (arith, c.requires.head)) c.in-Ok.ensures.fault
          (omega (
            arith,
            length-append head t.0,
            size,
            captured,
            c.requires.head,
            c.if-branch-captured.true,
          ))),
    )

pub returns-else-branch-captured-clause-takes : goal.returns-else-branch-captured-clause-takes
returns-else-branch-captured-clause-takes g c =
    let form = c.args.form in
    let head = c.args.head.now in
    let t = c.in_ok-fill-in-Ok.ensures.taken in
    let n = c.in_ok-fill-in-Ok.field-0 in
    let buffer = c.fill.new.buffer in
    let captured = ap (λ (p : Packet). p.captured) c.in-Ok.ensures.read in
    let fits : 16 ≤ length head = omega (arith, c.requires.head) in
    let few = captured_most form head fits c.in-Ok.ensures.fault in
    let room = c.fill.auto.buffer ∙ length-take-le c.in-Ok.packet.captured c.args.body.now
    (omega (arith, few, captured, c.requires.room)) in
    let whole = t.2 ∙ take_all n buffer (omega (arith, room, c.if-branch-captured.false)) in
    let size = ap length whole ∙ room in (
      t.0,
      t.1,
      (
        record {
          head = omega (arith, length-append head t.0);
          size = omega (arith, length-append head t.0, size, captured, captured_front form head t.0 fits);
          sound = packet_fault_front form head t.0 fits ∙ sym c.in-Ok.ensures.fault;
        },
        c.in-Ok.ensures.read ∙ sym (packet_front form head t.0 fits),
        omega (
          arith,
          length-append head t.0,
          size,
          c.requires.head,
          c.if-behind-from-gt-MOST_OCTETS.false,
          c.from.ensures,
        ),
        take_at buffer (drop c.in-Ok.packet.captured c.args.body.now) c.in-Ok.packet.captured room ∙ sym whole
            ∙ sym (drop_at head t.0 16 c.requires.head),
      ),
    )

pub returns-then-behind-from-gt-MOST_OCTETS-2-clause-takes :
    goal.returns-then-behind-from-gt-MOST_OCTETS-2-clause-takes
returns-then-behind-from-gt-MOST_OCTETS-2-clause-takes g c =
    let form = c.args.form in
    let head = c.args.head.now in
    let t = c.past_limit-then-behind-from-gt-MOST_OCTETS-2.ensures.takes in
    let captured = long_only form head c.in-Err.fault
    (omega (arith, c.requires.head)) c.in-Err.ensures.fault in (
      t.0,
      t.1,
      past form c.args.place c.of-kind.result head t.0 _ _
          c.past_limit-then-behind-from-gt-MOST_OCTETS-2.result
          (sym c.requires.head)
          (omega (
            arith,
            captured,
            c.captured_of.ensures,
            c.from-in-Err.ensures,
            c.if-behind-from-gt-MOST_OCTETS-2.true,
          ))
          (λ few. small_fault form head t.0 c.in-Err.fault
          (omega (arith, c.requires.head)) c.in-Err.ensures.fault ∙ ap Some (sym c.of-kind.ensures))
          (λ is. kind_not_big c.in-Err.fault (sym c.of-kind.ensures ∙ is))
          t.2,
    )

pub returns-else-behind-from-gt-MOST_OCTETS-2-clause-takes :
    goal.returns-else-behind-from-gt-MOST_OCTETS-2-clause-takes
returns-else-behind-from-gt-MOST_OCTETS-2-clause-takes g c =
    let form = c.args.form in
    let head = c.args.head.now in
    let left = g.S.Source.left c.args.source.now in
    let captured = long_only form head c.in-Err.fault
    (omega (arith, c.requires.head)) c.in-Err.ensures.fault in (
      [],
      taken_none left,
      subst (λ (k : FaultKind). IsFlawed form c.args.place k left (head ++ [])) (sym c.of-kind.ensures)
          (flawed_head form c.args.place left head c.in-Err.fault
          (omega (arith, c.requires.head)) c.in-Err.ensures.fault
          (omega (
            arith,
            captured,
            c.captured_of.ensures,
            c.from-in-Err.ensures,
            c.if-behind-from-gt-MOST_OCTETS-2.false,
          ))),
    )

pub returns-in_err-fill-in-Ok-clause-takes : goal.returns-in_err-fill-in-Ok-clause-takes
returns-in_err-fill-in-Ok-clause-takes g c =
    let form = c.args.form in
    let head = c.args.head.now in
    let t = c.in_err-fill-in-Ok.ensures.taken in
    let captured = ap (λ (p : Packet). p.captured) c.in-Ok.ensures.read in
    let fits : 16 ≤ length head = omega (arith, c.requires.head) in
    let few = captured_most form head fits c.in-Ok.ensures.fault in
    let room = c.fill.auto.buffer ∙ length-take-le c.in-Ok.packet.captured c.args.body.now
    (omega (arith, few, captured, c.requires.room)) in (
      t.0,
      t.1,
      fails_inside form c.args.place c.from_residual.result _ _ _ c.from_residual.ensures.0
          (part_body form c.args.place head t.0 fits c.in-Ok.ensures.fault
          (omega (
            arith,
            length-append head t.0,
            t.2,
            room,
            c.requires.head,
            c.if-behind-from-gt-MOST_OCTETS.false,
            c.from.ensures,
          ))
          (omega (arith, length-append head t.0, t.2, room, captured, c.requires.head))),
    )
