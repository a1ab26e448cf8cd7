-- Proves an upper bound of the lines that a cutter can still cut, which bounds the loop over a script.
use Rattle.std.proofs.Common.{ℕ, ◌+◌, ◌≤◌, arith}
use Rattle.std.specs.Prelude.{Option, Some, None}
use Rattle.wf_trace.specs.declared.fault.End.{End}
use Rattle.wf_trace.specs.Lines.{longest_trace}
use Rattle.wf_trace.specs.Cutting.{Cutting, room, room_of}

at_most : (looked : ℕ) (end : Option End) → room_of looked end ≤ longest_trace + 1
at_most looked None = omega arith
at_most looked (Some end) = omega arith

pub room_most : (c : Cutting) → room c ≤ longest_trace + 1
room_most c = at_most c.scanner.looked c.ended
