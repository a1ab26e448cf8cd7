-- Proves the contract of `Window::is_far`: the count says whether F is too far.
use Rattle.std.proofs.Common.{nat_le, ap, ◌∙◌}
use Rattle.wf_send_parts.specs.Window.{WindowValue}
use Rattle.wf_send_parts.proofs.Far.{far_is}
use Rattle.wf_send_parts.proofs.window.window.Window.is_far.Goals as goal

pub returns-clause-far : goal.returns-clause-far
returns-clause-far c s bodies stands one =
    ap (λ (w : WindowValue). nat_le 2047 w.unacked) c.self.view_is ∙ far_is _ s bodies stands one
