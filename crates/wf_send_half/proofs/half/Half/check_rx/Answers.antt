-- Proves what `Half::check_rx` promises: the tests are the world's rows except the last, the debt, so a call
-- that passes them is refused exactly for its debt.
use Rattle.std.proofs.Common.{◌∙◌, sym, ap, not}
use Rattle.std.proofs.lemmas.Result.{err_from_is_err_and}
use Rattle.wf_send_half.proofs.Rows.{row_refuses, out_of_range, in_range, receipt_fails, receipt_passes}
use Rattle.wf_send_half.proofs.half.Half.check_rx.Goals as goal

pub returns-in_err-in_range-clause-refused : goal.returns-in_err-in_range-clause-refused
returns-in_err-in_range-clause-refused c =
    let p = err_from_is_err_and c.from_residual.result c.from_residual.ensures.1 in rw (p.1, p.2)
    (λ w bodies h. sym (out_of_range c.args.self.now w bodies h c.args.station _ _
    c.in_err-in_range.ensures.refused))

pub returns-in_err-refuse_where-clause-refused : goal.returns-in_err-refuse_where-clause-refused
returns-in_err-refuse_where-clause-refused c =
    let p = err_from_is_err_and c.from_residual-in_err-refuse_where.result
    c.from_residual-in_err-refuse_where.ensures.1 in rw (p.1, p.2)
    (λ w bodies h. sym (row_refuses _ _ _ _ _ (ap not (sym c.is_within.ensures))
    c.in_err-refuse_where.ensures.refused ∙ sym
    (in_range c.args.self.now w bodies h c.args.station _ c.in_ok-in_range.ensures.refused)))

pub returns-clause-refused : goal.returns-clause-refused
returns-clause-refused c =
    receipt_fails c.live.result c.args.self.now c.args.station c.args.class c.args.air c.live.ensures.refused
    c.in_ok-in_range.ensures.refused (sym c.is_within.ensures) c.in_ok-refuse_where.ensures.refused

pub returns-clause-passed : goal.returns-clause-passed
returns-clause-passed c =
    receipt_passes c.live.result c.args.self.now c.args.station c.args.class c.args.air c.live.ensures.refused
    c.in_ok-in_range.ensures.refused (sym c.is_within.ensures) c.in_ok-refuse_where.ensures.refused
