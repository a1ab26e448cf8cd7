-- The invariant of the loop: the seat belongs to the gate, and has made the calls so far.
use Rattle.std.proofs.Common.{◌≡◌, ℕ, List, ◌++◌, take}
use Rattle.wf_gate.specs.Seats.{IsOf, StandsWithCalls}
use Rattle.wf_tests.proofs.gates.threads.send_all.Given as goal

abbrev pub invariant-loop-tick : goal.invariant-loop-tick
invariant-loop-tick g l = record {
  of : IsOf l.gate l.seat;
  number : l.seat.number ≡ l.fn.seat.number;
  sent : (made : List ℕ) → StandsWithCalls l.fn.seat.number l.fn.seat.seen l.fn.seat.own made →
      StandsWithCalls l.fn.seat.number l.seat.seen l.seat.own (made ++ take l.tick-index l.ticks);
}
