-- Proves the contract of `Window::bar_due`: a request is due exactly if there is a distance.
use Rattle.std.proofs.Common.{ap, ◌∙◌, is_some}
use Rattle.wf_send_parts.specs.Window.{WindowValue}
use Rattle.wf_send_parts.proofs.Calls.{due_is}
use Rattle.wf_send_parts.proofs.window.window.Window.bar_due.Goals as goal

pub returns-clause-due : goal.returns-clause-due
returns-clause-due c s bodies stands = c.is_some.ensures
    ∙ ap (λ (w : WindowValue). is_some w.due) c.self.view_is ∙ due_is _ s bodies stands
