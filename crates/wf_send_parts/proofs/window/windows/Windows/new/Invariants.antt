-- The loop of `Windows::new`: it has made `counter` new windows.
use Rattle.std.proofs.Common.{◌≡◌, replicate, vec_len, vec_capacity}
use Rattle.wf_send_parts.specs.Windows.{new_window}
use Rattle.wf_send_parts.proofs.window.windows.Windows.new.Given as goal

abbrev pub invariant-making : goal.invariant-making
invariant-making l = (l.windows.items ≡ replicate l.counter new_window) × (vec_len l.windows ≡ l.counter) ×
    (vec_capacity l.windows ≡ l.count)
