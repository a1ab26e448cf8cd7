-- Proves what `Half::live_tid` promises: each test is one row of the world. By cases of the first test that
-- fails.
use Rattle.std.proofs.Common.{◌∙◌, refl, sym}
use Rattle.std.proofs.lemmas.Result.{err_from_is_err_and}
use Rattle.wf_send_half.proofs.Rows.{row_refuses, row_passes, last_row, out_of_range, in_range, absent_same}
use Rattle.wf_send_half.proofs.half.Half.live_tid.Goals as goal

pub returns-in_err-in_range-clause-refused : goal.returns-in_err-in_range-clause-refused
returns-in_err-in_range-clause-refused c w bodies h =
    let p = err_from_is_err_and c.from_residual.result c.from_residual.ensures.1 in rw (p.1, p.2)
    (out_of_range c.args.self.now w bodies h c.args.station _ _ c.in_err-in_range.ensures.refused)

pub returns-in_err-check_tid-clause-refused : goal.returns-in_err-check_tid-clause-refused
returns-in_err-check_tid-clause-refused c w bodies h =
    let p = err_from_is_err_and c.from_residual-in_err-check_tid.result
    c.from_residual-in_err-check_tid.ensures.1 in rw (p.1, p.2)
    (row_refuses _ _ _ _ _ refl c.in_err-check_tid.ensures.refused
    ∙ sym (in_range c.args.self.now w bodies h c.args.station _ c.in_ok-in_range.ensures.refused))

pub returns-clause-refused : goal.returns-clause-refused
returns-clause-refused c w bodies h =
    c.live.ensures.refused
    ∙ last_row _ _ _ (absent_same c.args.self.now w bodies h c.args.station)
    ∙ sym (row_passes _ _ _ _ refl c.in_ok-check_tid.ensures.refused)
    ∙ sym (in_range c.args.self.now w bodies h c.args.station _ c.in_ok-in_range.ensures.refused)
