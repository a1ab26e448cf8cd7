-- Proves what `Half::check_weight` promises: each test is one row of the world's refusals of a Weight. By
-- cases of the first test that fails.
use Rattle.std.proofs.Common.{◌∙◌, sym, ap, not, ℕ}
use Rattle.std.proofs.lemmas.Result.{err_from_is_err_and}
use Rattle.wf_def_lists.specs.Bounds.{greatest_weight}
use Rattle.wf_def_world.specs.Refusals.{is_within}
use Rattle.wf_send_half.proofs.Rows.{row_refuses, row_passes, last_row, out_of_range, in_range, absent_same}
use Rattle.wf_send_half.proofs.half.Half.check_weight.Goals as goal

pub returns-in_err-in_range-clause-refused : goal.returns-in_err-in_range-clause-refused
returns-in_err-in_range-clause-refused c w bodies h =
    let p = err_from_is_err_and c.from_residual.result c.from_residual.ensures.1 in rw (p.1, p.2)
    (out_of_range c.args.self.now w bodies h c.args.station _ _ c.in_err-in_range.ensures.refused)

pub returns-in_err-refuse_where-clause-refused : goal.returns-in_err-refuse_where-clause-refused
returns-in_err-refuse_where-clause-refused c w bodies h =
    let p = err_from_is_err_and c.from_residual-in_err-refuse_where.result
    c.from_residual-in_err-refuse_where.ensures.1 in rw (p.1, p.2)
    (row_refuses _ _ _ _ _ (ap not (ap (λ (n : ℕ). is_within 1 greatest_weight n) (sym c.from.ensures)
    ∙ sym c.is_within.ensures)) c.in_err-refuse_where.ensures.refused
    ∙ sym (in_range c.args.self.now w bodies h c.args.station _ c.in_ok-in_range.ensures.refused))

pub returns-clause-refused : goal.returns-clause-refused
returns-clause-refused c w bodies h =
    c.live.ensures.refused
    ∙ last_row _ _ _ (absent_same c.args.self.now w bodies h c.args.station)
    ∙ sym (row_passes _ _ _ _ (ap not (ap (λ (n : ℕ). is_within 1 greatest_weight n) (sym c.from.ensures)
    ∙ sym c.is_within.ensures)) c.in_ok-refuse_where.ensures.refused)
    ∙ sym (in_range c.args.self.now w bodies h c.args.station _ c.in_ok-in_range.ensures.refused)
