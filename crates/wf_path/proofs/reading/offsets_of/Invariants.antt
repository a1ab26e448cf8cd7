-- The invariant of the loop: the offsets so far, and those of the numbers from i on, are all offsets.
use Rattle.std.proofs.Common.{◌≡◌, [], drop}
use Rattle.wf_path.specs.Heard.{offsets_at}
use Rattle.wf_path.proofs.reading.offsets_of.Given as goal

abbrev pub invariant-loop-i : goal.invariant-loop-i
invariant-loop-i l = offsets_at l.first l.offsets l.i (drop l.i l.numbers) l.indices
    ≡ offsets_at l.first [] 0 l.numbers l.indices
