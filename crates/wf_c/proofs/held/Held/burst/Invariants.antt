-- The invariant of the loop: the calls so far were made one after another, each raised the counts by little,
-- and the structs after theirs are unchanged.
use Rattle.std.proofs.Common.{◌≡◌, ◌+◌, ◌*◌, ◌^◌, length}
use Rattle.wf_def_lists.specs.Bounds.{greatest_tick}
use Rattle.wf_path.specs.Paths.{HasCountsBelow}
use Rattle.wf_c.specs.Bursts.{IsBurst, RestStays}
use Rattle.wf_c.proofs.held.Held.burst.Given as goal

abbrev pub invariant-loop-i : goal.invariant-loop-i
invariant-loop-i l =
    IsBurst l.fn.self l.self l.calls l.replies l.i ×
    (RestStays l.fn.replies l.replies l.i × ((length l.replies ≡ length l.fn.replies) ×
    HasCountsBelow (2 ^ 61 + l.i * greatest_tick) l.self.path.half))
