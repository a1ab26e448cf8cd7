-- Proves what `Half::free` promises. By cases of the checks: the call is refused, or the half represents the
-- world after the Free.
use Rattle.std.proofs.Common.{sym}
use Rattle.std.proofs.lemmas.Result.{err_from_is_err_and}
use Rattle.wf_send_half.proofs.Agreements.{free_done}
use Rattle.wf_send_half.proofs.Rows.{refused_call}
use Rattle.wf_send_half.proofs.half.Half.free.Goals as goal

pub returns-in_err-check_free-clause-meets : goal.returns-in_err-check_free-clause-meets
returns-in_err-check_free-clause-meets c w bodies h =
    let p = err_from_is_err_and c.from_residual.result c.from_residual.ensures.1 in rw (p.1, p.2)
    (refused_call c.args.self.now w bodies _ _ (λ e. cc e, (λ e. cc e, (λ e. cc e, (λ e. cc e, tt)))) h
    (c.in_err-check_free.ensures.refused w bodies h))

pub returns-clause-meets : goal.returns-clause-meets
returns-clause-meets c w bodies h =
    free_done c.args.self.now c.set_mode.new.self c.args.station c.args.tid c.set_mode.ensures w bodies h
    (sym (c.in_ok-check_free.ensures.refused w bodies h))
