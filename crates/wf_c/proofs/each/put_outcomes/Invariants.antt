-- The invariant of the loop: the outcomes below i are at the front.
use Rattle.std.proofs.Common.{◌≡◌, take, length}
use Rattle.std.specs.Prelude.{map}
use Rattle.wf_c.specs.Each.{outcome_shown}
use Rattle.wf_c.proofs.each.put_outcomes.Given as goal

abbrev pub invariant-loop-i : goal.invariant-loop-i
invariant-loop-i l = (take l.i l.outcomes ≡ map outcome_shown (take l.i l.numbers))
    × (length l.outcomes ≡ 256)
