-- Proves what `Half::give_up` promises. By cases: the call is refused, or the exchange is marked.
use Rattle.std.proofs.Common.{sym, subst}
use Rattle.wf_send_half_model.specs.Half.{TransmitValue}
use Rattle.wf_send_half_model.specs.Standing.{StandsFor}
use Rattle.wf_send_half.specs.Marks.{IsCarried}
use Rattle.wf_send_half.proofs.CallSteps.{view_of}
use Rattle.wf_send_half.proofs.Marked.{given_up_met}
use Rattle.wf_send_half.proofs.Rows.{refused_call}
use Rattle.wf_send_half.proofs.half.Half.give_up.Goals as goal

pub returns-in-Err-clause-meets : goal.returns-in-Err-clause-meets
returns-in-Err-clause-meets c w bodies h =
    refused_call c.args.self.now w bodies _ _ (λ e. cc e, (λ e. cc e, (λ e. cc e, tt))) h
    (c.in-Err.ensures.give_up w bodies h)

pub returns-in-Ok-clause-meets : goal.returns-in-Ok-clause-meets
returns-in-Ok-clause-meets c w bodies h =
    given_up_met (view_of c.self.inside) w bodies
    (subst (λ (v : TransmitValue). StandsFor v w bodies) (sym c.self.view_is) h)
    c.args.exchange c.args.index c.in-Ok.field-0
    (subst (λ (v : TransmitValue). IsCarried v c.args.exchange c.args.index c.in-Ok.field-0)
    (sym c.self.view_is) c.in-Ok.ensures.carried)
    (sym (c.in-Ok.ensures.give_up w bodies h)) c.mark_given_up.new.self c.mark_given_up.ensures
