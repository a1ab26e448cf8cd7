-- The invariant of the loop of `advance`: octets were read, and the texts that are still to come are
-- unchanged.
use Rattle.std.proofs.Common.{◌≡◌, ◌≤◌, false, None, ◌+◌, ◌-◌, ◌*◌, length}
use Rattle.wf_trace.specs.Lines.{longest_trace}
use Rattle.wf_trace.proofs.Taking.{Took, Still}
use Rattle.wf_trace.proofs.cut.Cut.advance.Given as goal

abbrev pub invariant-lines : goal.invariant-lines
invariant-lines g l = Took l.fn.self.cutter.scanner l.self.cutter.scanner (g.S.Source.left l.fn.source)
    (g.S.Source.left l.source)
    × (l.self.cutter.given ≡ false) × (l.self.cutter.ended ≡ None)
    × (l.fn.self.cutter.scanner.looked ≤ l.self.cutter.scanner.looked)
    × (g.S.Source.faults l.source ≡ g.S.Source.faults l.fn.source)
    × Still l.fn.self.cutter l.self.cutter l.fn.source l.source
    × (l.self ≡ record l.fn.self { cutter = l.self.cutter })

abbrev pub decreases-lines : goal.decreases-lines
decreases-lines g l = (longest_trace - l.self.cutter.scanner.looked) * 2
    + (1 - length l.self.cutter.scanner.waiting)
