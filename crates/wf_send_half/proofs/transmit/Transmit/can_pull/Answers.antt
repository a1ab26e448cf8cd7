-- Proves what `Transmit::can_pull` promises: each flag says whether its station is ready, so a Pull is
-- refused exactly if no flag of its class is set or as many exchanges are open as may be.
use Rattle.std.proofs.Common.{sym, subst, ap, ◌∙◌, Bool, ◌&&◌}
use Rattle.std.specs.List.{list_any}
use Rattle.wf_send_half_model.specs.Half.{TransmitValue}
use Rattle.wf_send_half_model.specs.Standing.{StandsFor}
use Rattle.wf_send_half.specs.Flags.{flags_in}
use Rattle.wf_send_half.proofs.ToSend.{pull_is}
use Rattle.wf_send_half.proofs.transmit.Transmit.can_pull.Goals as goal

pub returns-then-may_open : goal.returns-then-may_open
returns-then-may_open c w bodies h l =
    c.has_any.ensures
    ∙ ap (λ (b : Bool). b && list_any (λ up. up) (flags_in c.self.inside.ready c.args.class))
    (sym c.if-may_open.true ∙ c.may_open.ensures)
    ∙ pull_is c.self.inside.half c.self.inside.ready c.self.invariant c.args.class w bodies
    (subst (λ (u : TransmitValue). StandsFor u w bodies) (sym c.self.view_is) h) l

pub returns-else-may_open : goal.returns-else-may_open
returns-else-may_open c w bodies h l =
    c.if-may_open.false
    ∙ ap (λ (b : Bool). b && list_any (λ up. up) (flags_in c.self.inside.ready c.args.class))
    (sym c.if-may_open.false ∙ c.may_open.ensures)
    ∙ pull_is c.self.inside.half c.self.inside.ready c.self.invariant c.args.class w bodies
    (subst (λ (u : TransmitValue). StandsFor u w bodies) (sym c.self.view_is) h) l
