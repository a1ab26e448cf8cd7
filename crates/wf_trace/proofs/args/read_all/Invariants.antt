-- The invariant of the loop of `read_all`: the values and the fault so far, and the arguments that are
-- left, give the result of the whole line.
use Rattle.std.proofs.Common.{◌≡◌, ◌≤◌, length, drop}
use Rattle.wf_trace.specs.Words.{words}
use Rattle.wf_trace.specs.Grammar.{behind, read_args}
use Rattle.wf_trace.proofs.args.read_all.Given as goal

abbrev pub invariant-loop-arg : goal.invariant-loop-arg
invariant-loop-arg l = (read_args l.args (words l.line)
    ≡ behind l.fault l.values.items (read_args (drop l.arg-index l.args) (words l.rest)))
    × (length l.values.items ≤ l.arg-index)
