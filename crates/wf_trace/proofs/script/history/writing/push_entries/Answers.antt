-- Proves that the loop of `push_entries` keeps its invariant: one more line is appended, and it can be
-- printed.
use Rattle.std.proofs.Common.{rules, arith}
use Rattle.wf_trace.proofs.HistoryFronts.{lines-more, range-more, printable-at, line-short}
use Rattle.wf_trace.proofs.script.history.writing.push_entries.Goals as goal

pub print_note-requires-clause-caller : goal.print_note-requires-clause-caller
print_note-requires-clause-caller g c = (printable-at
    (g.H.Entries.entries c.args.history.now) c.loop-i.i c.entry-caller.result c.entry-caller.ensures
    c.requires.printable).0

pub print_note-requires-clause-printable : goal.print_note-requires-clause-printable
print_note-requires-clause-printable g c = (printable-at
    (g.H.Entries.entries c.args.history.now) c.loop-i.i c.entry-caller.result c.entry-caller.ensures
    c.requires.printable).1

pub loop-i-preserved : goal.loop-i-preserved
loop-i-preserved g c =
    let i = c.loop-i.invariant in
    let es = g.H.Entries.entries c.args.history.now in
    let e = c.entry-caller.result in
    let printable = printable-at es c.loop-i.i e c.entry-caller.ensures c.requires.printable in
    let short = line-short e.0 e.1 c.print_note.ensures.short in record {
      inside = (search rules, search rules);
      lines = rw (c.push_all.ensures.octets, c.octets.ensures, c.print_note.ensures.line)
          (lines-more es c.loop-i.i e _ c.loop-i.out c.entry-caller.ensures i.lines);
      short = rw (c.push_all.ensures.len, c.octets.ensures, c.print_note.ensures.line)
          (omega (arith, short, i.short));
      range = λ are. range-more es c.loop-i.i e c.entry-caller.ensures printable.0 c.print_note.ensures.range
          (i.range are);
    }
