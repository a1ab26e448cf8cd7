-- The invariant of the loop of `judge`: the octets so far are printable.
use Rattle.std.proofs.Common.{◌≡◌, drop}
use Rattle.std.specs.List.{list_all}
use Rattle.wf_trace.specs.Lines.{is_printable}
use Rattle.wf_trace.proofs.cut.Cut.judge.Given as goal

abbrev pub invariant-loop-octet : goal.invariant-loop-octet
invariant-loop-octet l =
    list_all is_printable l.fn.self.cutter.scanner.line
    ≡ list_all is_printable (drop l.octet-index l.fn.self.cutter.scanner.line)
