-- The elements before the place are no TIM element, and are complete.
use Rattle.std.proofs.Common.{◌≡◌, ◌-◌, ◌≤◌, length, drop}
use Rattle.wf_report.specs.Frames.{tim_behind}
use Rattle.wf_report.proofs.captures.listing.frame.tim_among.Given as goal

abbrev pub invariant-loop-place : goal.invariant-loop-place
invariant-loop-place l = (tim_behind 0 l.elements ≡ tim_behind 0 (drop l.place l.elements)) ×
    (l.place ≤ length l.elements)

abbrev pub decreases-loop-place : goal.decreases-loop-place
decreases-loop-place l = length l.elements - l.place
