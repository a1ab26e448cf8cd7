-- The invariant of the loop: the values of the arguments so far.
use Rattle.std.proofs.Common.{◌≡◌, ◌≤◌, ◌++◌, length, drop}
use Rattle.std.specs.Prelude.{map}
use Rattle.wf_frame.specs.Calls.{arguments_of}
use Rattle.wf_c.specs.CallNumbers.{value_in}
use Rattle.wf_c.proofs.cell.calls.CallNumbers.values.Given as goal

abbrev pub invariant-loop-argument : goal.invariant-loop-argument
invariant-loop-argument l = (map (value_in l.self) (arguments_of l.fn.form)
    ≡ l.values.items ++ map (value_in l.self) (drop l.argument-index l.argument-items))
    × (length l.values.items ≤ l.argument-index)
