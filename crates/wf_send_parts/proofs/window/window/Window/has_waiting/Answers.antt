-- Proves the contract of `Window::has_waiting`: the ring's count is above 0 exactly if some place waits.
use Rattle.std.proofs.Common.{ℕ, nat_lt, ap, ◌∙◌}
use Rattle.std.specs.Prelude.{count_by}
use Rattle.std.specs.List.{list_any}
use Rattle.wf_send_parts.specs.declared.window.window.Window.TheInside.{Inside}
use Rattle.wf_send_parts.specs.Window.{WindowValue, waits}
use Rattle.wf_send_parts.proofs.Counting.{some_counted, some_waits}
use Rattle.wf_send_parts.proofs.window.window.Window.has_waiting.Goals as goal

pub returns-clause-shown : goal.returns-clause-shown
returns-clause-shown c =
    ap (λ (n : ℕ). nat_lt 0 n) (c.self-inside.invariant.counted
    ∙ ap (λ (q : Inside). count_by waits q.ring.items) c.self-inside.view_is)
    ∙ some_counted waits c.self.inside.ring.items
    ∙ ap (λ (w : WindowValue). list_any waits w.places) c.self.view_is

pub returns-clause-waiting : goal.returns-clause-waiting
returns-clause-waiting c s bodies stands = returns-clause-shown c ∙ some_waits _ s bodies stands
