-- Proves what `Half::end_service` promises. By cases of the checks: the call is refused, or the half in which
-- no service period of the station is open represents the world after it.
use Rattle.std.proofs.Common.{refl}
use Rattle.std.proofs.lemmas.Result.{err_from_is_err_and}
use Rattle.wf_frame.specs.declared.notes.ServiceAsk.TheVariants as service
use Rattle.wf_frame.specs.declared.notes.ServiceReply.TheVariants as answer
use Rattle.wf_send_half.proofs.Rows.{refused_call}
use Rattle.wf_send_half.proofs.CallSteps.{view_of, service_done}
use Rattle.wf_send_half.proofs.half.Half.end_service.Goals as goal

pub returns-in_err-check_end-clause-meets : goal.returns-in_err-check_end-clause-meets
returns-in_err-check_end-clause-meets c w bodies h =
    let p = err_from_is_err_and c.from_residual.result c.from_residual.ensures.1 in rw (p.1, p.2)
    (refused_call c.args.self.now w bodies _ _ (λ e. cc e, (λ e. cc e, (λ e. cc e, tt))) h
    (c.in_err-check_end.ensures.refused w bodies h))

pub returns-clause-meets : goal.returns-clause-meets
returns-clause-meets c w bodies h =
    service_done c.args.self.now (view_of c.self.inside) c.self.view_is w bodies h
    (service.End c.args.station) answer.Ended c.close.new.self c.list.new.self refl c.close.ensures
    c.list.ensures (c.in_ok-check_end.ensures.refused w bodies h)
