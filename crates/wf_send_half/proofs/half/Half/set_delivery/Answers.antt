-- Proves what `Half::set_delivery` promises. By cases of the checks: the call is refused, or the half with
-- the station's classes represents the world after it.
use Rattle.std.proofs.Common.{refl}
use Rattle.std.proofs.lemmas.Result.{err_from_is_err_and}
use Rattle.wf_frame.specs.declared.notes.ServiceAsk.TheVariants as service
use Rattle.wf_frame.specs.declared.notes.ServiceReply.TheVariants as answer
use Rattle.wf_send_half.proofs.Rows.{refused_call}
use Rattle.wf_send_half.proofs.CallSteps.{view_of, service_done}
use Rattle.wf_send_half.proofs.half.Half.set_delivery.Goals as goal

pub returns-in_err-check_delivery-clause-meets : goal.returns-in_err-check_delivery-clause-meets
returns-in_err-check_delivery-clause-meets c w bodies h =
    let p = err_from_is_err_and c.from_residual.result c.from_residual.ensures.1 in rw (p.1, p.2)
    (refused_call c.args.self.now w bodies _ _ (
      λ e. cc e,
      (λ e. cc e, (λ e. cc e, (λ e. cc e, tt))),
    ) h (c.in_err-check_delivery.ensures.refused w bodies h))

pub returns-clause-meets : goal.returns-clause-meets
returns-clause-meets c w bodies h =
    service_done c.args.self.now (view_of c.self.inside) c.self.view_is w bodies h
    (service.Set c.args.station c.args.classes c.args.most) answer.Set c.set_delivery.new.self
    c.list.new.self refl c.set_delivery.ensures c.list.ensures
    (c.in_ok-check_delivery.ensures.refused w bodies h)
