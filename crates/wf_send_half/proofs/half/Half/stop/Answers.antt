-- Proves what `Half::stop` promises. By cases of the checks: the call is refused, or the half in which the
-- station is stopped represents the world after the Stop.
use Rattle.std.proofs.lemmas.Result.{err_from_is_err_and}
use Rattle.wf_send_half.proofs.Rows.{refused_call}
use Rattle.wf_send_half.proofs.CallSteps.{view_of, stop_done}
use Rattle.wf_send_half.proofs.half.Half.stop.Goals as goal

pub returns-in_err-check_stop-clause-meets : goal.returns-in_err-check_stop-clause-meets
returns-in_err-check_stop-clause-meets c w bodies h =
    let p = err_from_is_err_and c.from_residual.result c.from_residual.ensures.1 in rw (p.1, p.2)
    (refused_call c.args.self.now w bodies _ _ (λ e. cc e, (λ e. cc e, (λ e. cc e, tt))) h
    (c.in_err-check_stop.ensures.refused w bodies h))

pub returns-clause-meets : goal.returns-clause-meets
returns-clause-meets c w bodies h =
    stop_done c.args.self.now (view_of c.self.inside) c.self.view_is w bodies h c.args.station
    c.set_stopped.new.self c.list.new.self c.set_stopped.ensures c.list.ensures
    (c.in_ok-check_stop.ensures.refused w bodies h)
