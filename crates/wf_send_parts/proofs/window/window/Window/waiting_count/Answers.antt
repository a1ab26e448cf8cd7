-- Proves the contract of `Window::waiting_count`: the ring's count is the number of waiting places.
use Rattle.std.proofs.Common.{ap, ◌∙◌}
use Rattle.std.specs.Prelude.{count_by}
use Rattle.wf_send_parts.specs.declared.window.window.Window.TheInside.{Inside}
use Rattle.wf_send_parts.specs.Window.{WindowValue, waits}
use Rattle.wf_send_parts.proofs.Counting.{all_waits}
use Rattle.wf_send_parts.proofs.window.window.Window.waiting_count.Goals as goal

pub returns-clause-waiting : goal.returns-clause-waiting
returns-clause-waiting c s bodies stands =
    c.self-inside.invariant.counted
    ∙ ap (λ (q : Inside). count_by waits q.ring.items) c.self-inside.view_is
    ∙ ap (λ (w : WindowValue). count_by waits w.places) c.self.view_is
    ∙ all_waits _ s bodies stands
