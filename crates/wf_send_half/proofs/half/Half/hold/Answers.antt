-- Proves what `Half::hold` promises. By cases of the checks: the call is refused, or the half represents the
-- world after the Hold.
use Rattle.std.proofs.Common.{◌∙◌, ap, sym}
use Rattle.std.proofs.lemmas.Result.{err_from_is_err_and}
use Rattle.wf_send_parts.specs.Windows.{window_of}
use Rattle.wf_send_half_model.specs.Half.{TransmitValue}
use Rattle.wf_send_half.proofs.Agreements.{hold_done}
use Rattle.wf_send_half.proofs.Rows.{refused_call, live_of}
use Rattle.wf_send_half.proofs.half.Half.hold.Goals as goal

pub returns-in_err-check_hold-clause-meets : goal.returns-in_err-check_hold-clause-meets
returns-in_err-check_hold-clause-meets c w bodies h =
    let p = err_from_is_err_and c.from_residual.result c.from_residual.ensures.1 in rw (p.1, p.2)
    (refused_call c.args.self.now w bodies _ _ (
      λ e. cc e,
      (
        λ e. cc e,
        (λ e. cc e, (λ e. cc e, (λ e. cc e, (λ e. cc e, (λ e. cc e, tt))))),
      ),
    ) h
    (c.in_err-check_hold.ensures.refused w bodies h))

pub returns-clause-meets : goal.returns-clause-meets
returns-clause-meets c w bodies h =
    hold_done c.args.self.now c.set_mode.new.self c.args.station c.args.tid c.set_mode.ensures c.at.result.now
    (c.at.ensures
    ∙ ap (λ (z : TransmitValue). window_of z.windows c.args.station c.args.tid) c.self.view_is) _
    (λ y bs stands. c.raw.ensures.number ∙ c.next.ensures.number y bs stands) w bodies h
    (live_of c.args.self.now w bodies h c.args.station c.in_ok-check_hold.ensures.live)
    c.in_ok-check_hold.ensures.tid (sym (c.in_ok-check_hold.ensures.refused w bodies h))
