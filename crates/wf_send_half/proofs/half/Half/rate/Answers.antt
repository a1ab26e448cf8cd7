-- Proves what `Half::rate` promises. By cases of the checks: the call is refused, or the half with the
-- station's new rate represents the world after the Rate.
use Rattle.std.proofs.lemmas.Result.{err_from_is_err_and}
use Rattle.wf_send_half.proofs.Rows.{refused_call}
use Rattle.wf_send_half.proofs.CallSteps.{view_of, rate_done}
use Rattle.wf_send_half.proofs.half.Half.rate.Goals as goal

pub returns-in_err-rate-clause-meets : goal.returns-in_err-rate-clause-meets
returns-in_err-rate-clause-meets c w bodies h =
    let p = err_from_is_err_and c.from_residual.result c.from_residual.ensures.1 in rw (p.1, p.2)
    (refused_call c.args.self.now w bodies _ _ (λ e. cc e, (λ e. cc e, (λ e. cc e, (λ e. cc e, tt)))) h
    (c.in_err-rate.ensures.refused w bodies h))

pub returns-clause-meets : goal.returns-clause-meets
returns-clause-meets c w bodies h =
    rate_done c.args.self.now (view_of c.self.inside) c.self.view_is w bodies h c.args.station c.args.asked
    c.set_rate.new.self c.in_ok-rate.rate c.in_ok-rate.ensures.rate
    c.set_rate.ensures (c.in_ok-rate.ensures.refused w bodies h)
