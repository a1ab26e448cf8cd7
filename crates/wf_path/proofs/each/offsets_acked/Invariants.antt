-- The invariant of the loop: the offsets so far, and those of the numbers from i on, are all offsets.
use Rattle.std.proofs.Common.{◌≡◌, [], drop}
use Rattle.wf_path.specs.Heard.{offsets_acked}
use Rattle.wf_path.proofs.each.offsets_acked.Given as goal

abbrev pub invariant-loop-i : goal.invariant-loop-i
invariant-loop-i l = offsets_acked l.first l.offsets (drop l.i l.numbers) (drop l.i l.outcomes)
    ≡ offsets_acked l.first [] l.numbers l.outcomes
