-- Proves what `Half::begin` promises. By cases of the checks: the call is refused, or the half represents the
-- world after the Begin.
use Rattle.std.proofs.Common.{sym}
use Rattle.std.proofs.lemmas.Result.{err_from_is_err_and}
use Rattle.wf_send_half.proofs.CallSteps.{view_of}
use Rattle.wf_send_half.proofs.Agreements.{settled_to_begin, begin_done}
use Rattle.wf_send_half.proofs.Rows.{refused_call, live_of}
use Rattle.wf_send_half.proofs.half.Half.begin.Goals as goal

pub returns-in_err-check_begin-clause-meets : goal.returns-in_err-check_begin-clause-meets
returns-in_err-check_begin-clause-meets c w bodies h =
    let p = err_from_is_err_and c.from_residual.result c.from_residual.ensures.1 in rw (p.1, p.2)
    (refused_call c.args.self.now w bodies _ _ (
      λ e. cc e,
      (
        λ e. cc e,
        (λ e. cc e, (λ e. cc e, (λ e. cc e, (λ e. cc e, (λ e. cc e, tt))))),
      ),
    ) h
    (c.in_err-check_begin.ensures.refused w bodies h))

pub resize-requires-clause-empty : goal.resize-requires-clause-empty
resize-requires-clause-empty c =
    let r = c.requires.some in
    settled_to_begin c.args.self.now (view_of c.self.inside) c.self.view_is r.world r.bodies r.stands
    c.args.station c.args.tid c.args.window (sym (c.in_ok-check_begin.ensures.refused r.world r.bodies
    r.stands))

pub returns-clause-meets : goal.returns-clause-meets
returns-clause-meets c w bodies h =
    begin_done c.args.self.now (view_of c.self.inside) c.set_mode.new.self c.self.view_is c.args.station
    c.args.tid c.resize.new.self c.resize.ensures.room c.resize.ensures.others c.args.window
    c.set_mode.ensures c.resize.ensures.stands w bodies h
    (live_of c.args.self.now w bodies h c.args.station c.in_ok-check_begin.ensures.live)
    c.in_ok-check_begin.ensures.tid (sym (c.in_ok-check_begin.ensures.refused w bodies h))
