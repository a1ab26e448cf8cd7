-- The invariant of the loop of `next`: lines were skipped, and the pieces that are still to come are
-- unchanged.
use Rattle.std.proofs.Common.{◌≡◌, ◌+◌, ◌≤◌, None}
use Rattle.std.specs.Prelude.{IsSome}
use Rattle.wf_trace.specs.Lines.{longest_trace}
use Rattle.wf_trace.specs.Cutting.{room}
use Rattle.wf_trace.proofs.CutLaws.{Kept, Still}
use Rattle.wf_trace.proofs.cut.Cut.next.Given as goal

abbrev pub invariant-lines : goal.invariant-lines
invariant-lines g l = Kept l.fn.self l.self (g.S.Source.left l.fn.source) (g.S.Source.left l.source)
    × (l.self.ended ≡ None)
    × (IsSome l.fn.self.cutter.ended → IsSome l.self.cutter.ended)
    × (room l.self.cutter ≤ room l.fn.self.cutter)
    × (g.S.Source.faults l.source ≡ g.S.Source.faults l.fn.source)
    × Still l.fn.self l.self l.fn.source l.source
    × (l.self.line + room l.self.cutter ≤ longest_trace + 2)

abbrev pub decreases-lines : goal.decreases-lines
decreases-lines g l = room l.self.cutter
