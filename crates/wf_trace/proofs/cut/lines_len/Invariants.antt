-- The invariant of the loop of `lines_len`: the octets after `len` end no line.
use Rattle.std.proofs.Common.{◌≡◌, ◌≤◌, length, drop, false}
use Rattle.wf_trace.specs.Scanning.{has_end}
use Rattle.wf_trace.proofs.cut.lines_len.Given as goal

abbrev pub invariant-loop-len : goal.invariant-loop-len
invariant-loop-len l = (l.len ≤ length l.fn.octets) × (has_end (drop l.len l.fn.octets) ≡ false)

abbrev pub decreases-loop-len : goal.decreases-loop-len
decreases-loop-len l = l.len
