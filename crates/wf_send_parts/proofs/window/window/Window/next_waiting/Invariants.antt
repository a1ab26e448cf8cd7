-- The loop of `Window::next_waiting`: no place from `from` to here waits.
use Rattle.std.proofs.Common.{◌≡◌, ℕ, ◌<◌, ◌≤◌, false, None, get_or}
use Rattle.wf_octets.specs.Distance.{distance}
use Rattle.wf_send_parts.specs.Window.{waits}
use Rattle.wf_send_parts.proofs.window.window.Window.next_waiting.Given as goal

abbrev pub invariant-loop-i : goal.invariant-loop-i
invariant-loop-i l = (k : ℕ) → distance l.fn.from l.self-inside.start ≤ k → k < l.i →
    waits (get_or l.self-inside.ring.items k None) ≡ false
