-- The loop of `advance`: each round drops one place.
use Rattle.std.proofs.Common.{length}
use Rattle.wf_send_parts.proofs.Moving.{IsMoving}
use Rattle.wf_send_parts.proofs.window.window.advance.Given as goal

abbrev pub invariant-moving : goal.invariant-moving
invariant-moving l = IsMoving l.initial.ring l.ring l.fn.passed l.kept l.moved

abbrev pub decreases-moving : goal.decreases-moving
decreases-moving l = length l.ring.items
