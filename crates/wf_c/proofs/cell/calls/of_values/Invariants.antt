-- The invariant of the loop: the fields that are set so far, and those that are still to be set.
use Rattle.std.proofs.Common.{◌≡◌, ◌≤◌, length, drop}
use Rattle.wf_c.specs.CallNumbers.{blank_call, with_arguments}
use Rattle.wf_c.proofs.cell.calls.of_values.Given as goal

abbrev pub invariant-loop-i : goal.invariant-loop-i
invariant-loop-i l = (with_arguments blank_call l.arguments l.values
    ≡ with_arguments l.numbers (drop l.i l.arguments) (drop l.i l.values))
    × (l.i ≤ length l.values)
