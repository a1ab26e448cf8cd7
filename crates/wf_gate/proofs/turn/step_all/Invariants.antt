-- The first calls were made, and the others are left.
use Rattle.std.proofs.Common.{◌≡◌, vec_capacity}
use Rattle.std.specs.VecDeque.{deque_len}
use Rattle.wf_gate.proofs.Stepping.{HasStepped}
use Rattle.wf_gate.proofs.turn.step_all.Given as goal

abbrev pub invariant-loop-call : goal.invariant-loop-call
invariant-loop-call g l =
    HasStepped g.M.Machine.past g.M.Machine.settings g.M.Machine.calls_left g.M.Machine.note
    g.M.Machine.right l.number l.fn.machine l.machine l.fn.calls.items l.calls.items l.replies.items
    × (vec_capacity l.replies ≡ vec_capacity l.fn.replies)

abbrev pub decreases-loop-call : goal.decreases-loop-call
decreases-loop-call g l = deque_len l.calls
