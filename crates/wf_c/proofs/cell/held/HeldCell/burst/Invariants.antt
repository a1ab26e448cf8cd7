-- The invariant of the loop: the calls so far were made one after another, and the structs after theirs are
-- unchanged.
use Rattle.std.proofs.Common.{◌≡◌, length}
use Rattle.wf_c.specs.Bursts.{IsCellBurst, RestStays}
use Rattle.wf_c.proofs.cell.held.HeldCell.burst.Given as goal

abbrev pub invariant-loop-i : goal.invariant-loop-i
invariant-loop-i l =
    IsCellBurst l.caller l.fn.self l.self l.calls l.replies l.i ×
    (RestStays l.fn.replies l.replies l.i × (length l.replies ≡ length l.fn.replies))
