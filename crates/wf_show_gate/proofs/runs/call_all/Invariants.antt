-- The invariant of the loop: the seat belongs to the gate.
use Rattle.wf_gate.specs.Seats.{IsOf}
use Rattle.wf_show_gate.proofs.runs.call_all.Given as goal

abbrev pub invariant-loop-call : goal.invariant-loop-call
invariant-loop-call g l = IsOf l.gate l.seat
