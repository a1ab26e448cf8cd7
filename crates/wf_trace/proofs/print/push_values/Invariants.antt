-- The invariant of the loop of `push_values`: the words so far, followed by those that are left, are all
-- words.
use Rattle.std.proofs.Common.{◌≡◌, ◌+◌, ◌*◌, ◌≤◌, ◌++◌, length, drop}
use Rattle.std.specs.Prelude.{map}
use Rattle.wf_io.specs.Words.{spaced}
use Rattle.wf_frame.specs.Calls.{argument_kind}
use Rattle.wf_trace.specs.Printing.{words_of_values}
use Rattle.wf_trace.proofs.print.push_values.Given as goal

abbrev pub invariant-loop-i : goal.invariant-loop-i
invariant-loop-i l = (l.fn.out ++ spaced (words_of_values (map argument_kind l.arguments) l.values)
    ≡ l.out ++ spaced (words_of_values (map argument_kind (drop l.i l.arguments)) (drop l.i l.values)))
    × (length l.out ≤ 29 + 21 * l.i) × (l.i ≤ length l.values)
