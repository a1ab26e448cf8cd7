-- Proves the clauses `read` and `plain` of `print_note`, by PrintLaws.
use Rattle.std.proofs.Common.{arith}
use Rattle.wf_trace.proofs.PrintLaws.{text_read, text_printable}
use Rattle.wf_trace.proofs.print.print_note.Goals as goal

pub returns-clause-read : goal.returns-clause-read
returns-clause-read c = λ place room. text_read c.args.caller c.args.note.now place
    (omega (arith, c.requires.caller)) c.push_note.ensures.range room

pub returns-clause-plain : goal.returns-clause-plain
returns-clause-plain c = text_printable c.args.caller c.args.note.now
    (omega (arith, c.requires.caller)) c.push_note.ensures.range
