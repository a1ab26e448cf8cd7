-- The octets that were read and those that are still wanted are together `count`.
use Rattle.std.proofs.Common.{◌≡◌, ◌+◌, ℕ, List, length}
use Rattle.std.specs.Io.KnownBytes.{prepend_known}
use Rattle.wf_report.proofs.captures.listing.octets.pass.Given as goal

abbrev pub invariant-loop-wanted : goal.invariant-loop-wanted
invariant-loop-wanted g l =
    ((octets : List ℕ) × (g.S.Source.left l.fn.source ≡ prepend_known octets (g.S.Source.left l.source)) ×
    (length octets + l.wanted ≡ l.count))
    × (g.S.Source.faults l.source ≡ g.S.Source.faults l.fn.source)

abbrev pub decreases-loop-wanted : goal.decreases-loop-wanted
decreases-loop-wanted g l = l.wanted
