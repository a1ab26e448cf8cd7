-- Proves the clauses of `scan` for each case of the next octet, by ScanLaws.
use Rattle.std.proofs.Common.{◌+◌, [], ◌∷◌, ◌++◌, arith, Some, None}
use Rattle.std.specs.Prelude.{slice_range}
use Rattle.wf_trace.specs.declared.cut.Found.TheVariants as found
use Rattle.wf_trace.proofs.ScanLaws.{seen, first_seen, finds_big, finds_line, finds_more, finds_long, finds_on, keeps_line, keeps_more, keeps_long, keeps_on}
use Rattle.wf_trace.proofs.Taking.{room_less}
use Rattle.wf_trace.proofs.cut.Cut.scan.Goals as goal

pub returns-then-self-eq-MOST_OCTETS-clause-finds : goal.returns-then-self-eq-MOST_OCTETS-clause-finds
returns-then-self-eq-MOST_OCTETS-clause-finds c =
    let s = c.loop-self.self-inside in
    let at = seen s.looked s.text.items s.buffer.items s.from s.to in
    let new = seen 0 [] [] 0 0 in
    let waits = first_seen s.buffer.items s.from s.to c.index-octet.result.now c.loop-self-test.true
    c.loop-self.invariant.5 c.index-octet.ensures in
    finds_on c.args.self.now.cutter.scanner at new (Some found.TooBig) c.loop-self.invariant.0
    (finds_big at c.index-octet.result.now (slice_range s.buffer.items (s.from + 1) s.to) new waits
    c.if-self-eq-MOST_OCTETS.true)

pub returns-then-octet-eq10-clause-finds : goal.returns-then-octet-eq10-clause-finds
returns-then-octet-eq10-clause-finds c =
    let s = c.loop-self.self-inside in
    let at = seen s.looked s.text.items s.buffer.items s.from s.to in
    let waits = first_seen s.buffer.items s.from s.to c.index-octet.result.now c.loop-self-test.true
    c.loop-self.invariant.5 c.index-octet.ensures in
    let rest = slice_range s.buffer.items (s.from + 1) s.to in
    let next = seen (s.looked + 1) s.text.items s.buffer.items (s.from + 1) s.to in
    finds_on c.args.self.now.cutter.scanner at next
    (Some found.Line) c.loop-self.invariant.0
    (finds_line at c.index-octet.result.now rest waits c.if-octet-eq10.true)

pub returns-then-octet-eq10-clause-keeps : goal.returns-then-octet-eq10-clause-keeps
returns-then-octet-eq10-clause-keeps c =
    let s = c.loop-self.self-inside in
    let at = seen s.looked s.text.items s.buffer.items s.from s.to in
    let waits = first_seen s.buffer.items s.from s.to c.index-octet.result.now c.loop-self-test.true
    c.loop-self.invariant.5 c.index-octet.ensures in
    let next = seen (s.looked + 1) s.text.items s.buffer.items (s.from + 1) s.to in
    keeps_on c.args.self.now.cutter.scanner at next
    (Some found.Line) c.loop-self.invariant.1
    (keeps_line at c.index-octet.result.now (slice_range s.buffer.items (s.from + 1) s.to) waits
    c.if-octet-eq10.true)

pub loop-self-preserved-then-len-le-LONGEST_LINE : goal.loop-self-preserved-then-len-le-LONGEST_LINE
loop-self-preserved-then-len-le-LONGEST_LINE c =
    let s = c.loop-self.self-inside in
    let at = seen s.looked s.text.items s.buffer.items s.from s.to in
    let waits = first_seen s.buffer.items s.from s.to c.index-octet.result.now c.loop-self-test.true
    c.loop-self.invariant.5 c.index-octet.ensures in
    let rest = slice_range s.buffer.items (s.from + 1) s.to in
    let line = s.text.items ++ c.index-octet.result.now ∷ [] in
    let next = seen (s.looked + 1) line s.buffer.items (s.from + 1) s.to in
    rw (c.push.ensures.items) (
      finds_on c.args.self.now.cutter.scanner at next None c.loop-self.invariant.0
          (finds_more at c.index-octet.result.now rest waits c.if-octet-eq10.false),
      keeps_on c.args.self.now.cutter.scanner at next None c.loop-self.invariant.1
          (keeps_more at c.index-octet.result.now rest waits c.if-octet-eq10.false),
      omega (arith, c.loop-self.invariant.2, c.loop-self-test.true),
      omega (arith, c.loop-self.invariant.3),
      omega (arith, c.loop-self-test.true),
      c.loop-self.invariant.5,
      c.loop-self.invariant.6,
      omega (arith, c.loop-self.invariant.7, c.if-self-eq-MOST_OCTETS.false),
      c.loop-self.invariant.8,
      c.loop-self.invariant.9,
      c.loop-self.invariant.10,
      c.loop-self.invariant.11,
      c.loop-self.invariant.12,
      omega (arith, c.loop-self.invariant.13, room_less s.looked s.end),
      c.loop-self.invariant.14,
    )

pub loop-self-preserved : goal.loop-self-preserved
loop-self-preserved c =
    let s = c.loop-self.self-inside in
    let at = seen s.looked s.text.items s.buffer.items s.from s.to in
    let waits = first_seen s.buffer.items s.from s.to c.index-octet.result.now c.loop-self-test.true
    c.loop-self.invariant.5 c.index-octet.ensures in
    let rest = slice_range s.buffer.items (s.from + 1) s.to in
    let next = seen (s.looked + 1) s.text.items s.buffer.items (s.from + 1) s.to in (
      finds_on c.args.self.now.cutter.scanner at next None c.loop-self.invariant.0
          (finds_long at c.index-octet.result.now rest waits c.if-octet-eq10.false
          (omega (arith, c.if-len-le-LONGEST_LINE.false, c.len.ensures.value))),
      keeps_on c.args.self.now.cutter.scanner at next None c.loop-self.invariant.1
          (keeps_long at c.index-octet.result.now rest waits c.if-octet-eq10.false
          (omega (arith, c.if-len-le-LONGEST_LINE.false, c.len.ensures.value))),
      omega (arith, c.loop-self.invariant.2, c.loop-self-test.true),
      omega (arith, c.loop-self.invariant.3),
      omega (arith, c.loop-self-test.true),
      c.loop-self.invariant.5,
      c.loop-self.invariant.6,
      omega (arith, c.loop-self.invariant.7, c.if-self-eq-MOST_OCTETS.false),
      c.loop-self.invariant.8,
      c.loop-self.invariant.9,
      c.loop-self.invariant.10,
      c.loop-self.invariant.11,
      c.loop-self.invariant.12,
      omega (arith, c.loop-self.invariant.13, room_less s.looked s.end),
      c.loop-self.invariant.14,
    )
