-- Proves the contract of `Window::is_drained`: no place is left exactly if all numbers are settled.
use Rattle.std.proofs.Common.{ap, ◌∙◌, ℕ, length, ◌==◌}
use Rattle.wf_send_parts.specs.Window.{WindowValue}
use Rattle.wf_send_parts.proofs.Flying.{drained_is}
use Rattle.wf_send_parts.proofs.window.window.Window.is_drained.Goals as goal

pub returns : goal.returns
returns c s bodies stands =
    ap (λ (n : ℕ). n == 0) (c.len.ensures.number ∙ ap (λ (w : WindowValue). length w.places) c.self.view_is)
    ∙ drained_is _ s bodies stands
