-- The invariant of the loop of `read_named`: the values and the fault so far, and the arguments that are
-- left, give the result of the whole line.
use Rattle.std.proofs.Common.{◌≡◌, ◌≤◌, length, drop}
use Rattle.std.specs.Prelude.{map}
use Rattle.wf_frame.specs.Calls.{argument_kind}
use Rattle.wf_trace.specs.Words.{words}
use Rattle.wf_trace.specs.Grammar.{behind, read_args}
use Rattle.wf_trace.proofs.args.read_named.Given as goal

abbrev pub invariant-loop-argument : goal.invariant-loop-argument
invariant-loop-argument l = (read_args (map argument_kind l.arguments) (words l.line)
    ≡ behind l.fault l.values.items (read_args (map argument_kind (drop l.argument-index
    l.arguments)) (words l.rest)))
    × (length l.values.items ≤ l.argument-index)
