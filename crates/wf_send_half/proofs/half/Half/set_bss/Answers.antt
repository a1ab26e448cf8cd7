-- Proves what `Half::set_bss` promises. By cases of the checks: the call is refused, or the half with the
-- station's BSS represents the world after it.
use Rattle.std.proofs.lemmas.Result.{err_from_is_err_and}
use Rattle.wf_send_half.proofs.Rows.{refused_call}
use Rattle.wf_send_half.proofs.CallSteps.{view_of, bss_done}
use Rattle.wf_send_half.proofs.half.Half.set_bss.Goals as goal

pub returns-in_err-check_bss_of-clause-meets : goal.returns-in_err-check_bss_of-clause-meets
returns-in_err-check_bss_of-clause-meets c w bodies h =
    let p = err_from_is_err_and c.from_residual.result c.from_residual.ensures.1 in rw (p.1, p.2)
    (refused_call c.args.self.now w bodies _ _ (
      λ e. cc e,
      (λ e. cc e, (λ e. cc e, (λ e. cc e, tt))),
    ) h (c.in_err-check_bss_of.ensures.refused w bodies h))

pub returns-clause-meets : goal.returns-clause-meets
returns-clause-meets c w bodies h =
    bss_done c.args.self.now (view_of c.self.inside) c.self.view_is w bodies h c.args.station c.args.bss
    c.set_bss.new.self c.set_bss.ensures (c.in_ok-check_bss_of.ensures.refused w bodies h)
