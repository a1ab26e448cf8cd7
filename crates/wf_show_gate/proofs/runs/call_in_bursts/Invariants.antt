-- The invariant of the loop: the seat belongs to the gate, and nothing of an earlier burst is left.
use Rattle.std.proofs.Common.{◌≡◌, []}
use Rattle.wf_gate.specs.Seats.{IsOf}
use Rattle.wf_show_gate.proofs.runs.call_in_bursts.Given as goal

abbrev pub invariant-loop-burst : goal.invariant-loop-burst
invariant-loop-burst g l = IsOf l.gate l.seat × (l.waiting.items ≡ []) × (l.sums.items ≡ [])
