-- Proves what `Half::ampdu` promises. By cases of the checks: the call is refused, or the half with the
-- station's stated length of aggregates represents the world after the Ampdu.
use Rattle.std.proofs.lemmas.Result.{err_from_is_err_and}
use Rattle.wf_send_half.proofs.Rows.{refused_call}
use Rattle.wf_send_half.proofs.CallSteps.{view_of, ampdu_done}
use Rattle.wf_send_half.proofs.half.Half.ampdu.Goals as goal

pub returns-in_err-check_ampdu-clause-meets : goal.returns-in_err-check_ampdu-clause-meets
returns-in_err-check_ampdu-clause-meets c w bodies h =
    let p = err_from_is_err_and c.from_residual.result c.from_residual.ensures.1 in rw (p.1, p.2)
    (refused_call c.args.self.now w bodies _ _ (λ e. cc e, (λ e. cc e, (λ e. cc e, tt))) h
    (c.in_err-check_ampdu.ensures.refused w bodies h))

pub returns-clause-meets : goal.returns-clause-meets
returns-clause-meets c w bodies h =
    ampdu_done c.args.self.now (view_of c.self.inside) c.self.view_is w bodies h c.args.station c.args.octets
    c.set_ampdu.new.self c.set_ampdu.ensures (c.in_ok-check_ampdu.ensures.refused w bodies h)
