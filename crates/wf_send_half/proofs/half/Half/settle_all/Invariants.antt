-- Invariants of the loop of `Half::settle_all`: the first `i` numbers are settled as in the world, and
-- `ended` counts them.
use Rattle.wf_send_half.proofs.Settling.{IsSettling}
use Rattle.wf_send_half.proofs.half.Half.settle_all.Given as goal

abbrev pub invariant-loop-i : goal.invariant-loop-i
invariant-loop-i l = IsSettling l.initial.self l.self l.station l.tid l.numbers l.report l.i l.ended
