-- The invariant of the loop: the queue has a call.
use Rattle.std.proofs.Common.{◌<◌, length}
use Rattle.wf_show_gate.proofs.runs.fill.Given as goal

abbrev pub invariant-loop-place : goal.invariant-loop-place
invariant-loop-place l = 0 < length l.calls.items
