-- Proves the contract of `Window::can_give`: the window has room exactly if its session has.
use Rattle.std.proofs.Common.{◌≡◌, nat_lt, ◌∙◌, rules}
use Rattle.wf_send_parts.specs.Window.{can_take}
use Rattle.wf_send_parts.proofs.Calls.{can_take_is}
use Rattle.wf_send_parts.proofs.window.window.Window.can_give.Goals as goal

pub returns-then-is_none-clause-can : goal.returns-then-is_none-clause-can
returns-then-is_none-clause-can c s bodies stands =
    let shown : nat_lt c.len.result c.from.result ≡ can_take c.args.self.now = search rules in
    shown ∙ can_take_is _ s bodies stands

pub returns-else-is_none-clause-can : goal.returns-else-is_none-clause-can
returns-else-is_none-clause-can c s bodies stands =
    let shown : c.is_none.result ≡ can_take c.args.self.now = search rules in
    shown ∙ can_take_is _ s bodies stands
