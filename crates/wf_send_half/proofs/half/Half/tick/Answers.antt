-- Proves what `Half::tick` promises. By cases of the check: the call is refused, or the half with the new
-- clock represents the world after the Tick.
use Rattle.std.proofs.lemmas.Result.{err_from_is_err_and}
use Rattle.wf_send_half.proofs.Rows.{refused_call}
use Rattle.wf_send_half.proofs.CallSteps.{view_of, tick_done}
use Rattle.wf_send_half.proofs.half.Half.tick.Goals as goal

pub returns-in_err-check_tick-clause-meets : goal.returns-in_err-check_tick-clause-meets
returns-in_err-check_tick-clause-meets c w bodies h =
    let p = err_from_is_err_and c.from_residual.result c.from_residual.ensures.1 in rw (p.1, p.2)
    (refused_call c.args.self.now w bodies _ _ (λ e. cc e, tt) h (c.in_err-check_tick.ensures w))

pub returns-clause-meets : goal.returns-clause-meets
returns-clause-meets c w bodies h =
    tick_done c.args.self.now (view_of c.self.inside) c.self.view_is w bodies h c.args.by c.from.result
    c.from.ensures (c.in_ok-check_tick.ensures w)
