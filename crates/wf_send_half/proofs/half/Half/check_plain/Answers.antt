-- Proves what `Half::check_plain` promises: each test is one row of the world's refusals of a Plain. By
-- cases of the first test that fails.
use Rattle.std.proofs.Common.{◌∙◌, refl, sym, ap, not, ℕ, is_some}
use Rattle.std.proofs.lemmas.Result.{err_from_is_err_and}
use Rattle.wf_def_lists.specs.Bounds.{greatest_weight}
use Rattle.wf_def_world.specs.Refusals.{is_within}
use Rattle.wf_send_parts.specs.Members.{member}
use Rattle.wf_send_half_model.specs.Half.{TransmitValue}
use Rattle.wf_send_half_model.proofs.Readers.{live_same}
use Rattle.wf_send_half.proofs.Rows.{last_row, row_refuses, row_passes, out_of_range, in_range}
use Rattle.wf_send_half.proofs.half.Half.check_plain.Goals as goal

pub returns-in_err-in_range-clause-refused : goal.returns-in_err-in_range-clause-refused
returns-in_err-in_range-clause-refused c w bodies h =
    let p = err_from_is_err_and c.from_residual.result c.from_residual.ensures.1 in rw (p.1, p.2)
    (out_of_range c.args.self.now w bodies h c.args.station _ _ c.in_err-in_range.ensures.refused)

pub returns-in_err-refuse_where-clause-refused : goal.returns-in_err-refuse_where-clause-refused
returns-in_err-refuse_where-clause-refused c w bodies h =
    let p = err_from_is_err_and c.from_residual-in_err-refuse_where.result
    c.from_residual-in_err-refuse_where.ensures.1 in rw (p.1, p.2)
    (row_refuses _ _ _ _ _ refl c.in_err-refuse_where.ensures.refused
    ∙ sym (in_range c.args.self.now w bodies h c.args.station _ c.in_ok-in_range.ensures.refused))

pub returns-in_err-refuse_where-2-clause-refused : goal.returns-in_err-refuse_where-2-clause-refused
returns-in_err-refuse_where-2-clause-refused c w bodies h =
    let p = err_from_is_err_and c.from_residual-in_err-refuse_where-2.result
    c.from_residual-in_err-refuse_where-2.ensures.1 in rw (p.1, p.2)
    (row_refuses _ _ _ _ _ refl c.in_err-refuse_where-2.ensures.refused
    ∙ sym (row_passes _ _ _ _ refl c.in_ok-refuse_where.ensures.refused)
    ∙ sym (in_range c.args.self.now w bodies h c.args.station _ c.in_ok-in_range.ensures.refused))

pub returns-in_err-refuse_where-3-clause-refused : goal.returns-in_err-refuse_where-3-clause-refused
returns-in_err-refuse_where-3-clause-refused c w bodies h =
    let p = err_from_is_err_and c.from_residual-in_err-refuse_where-3.result
    c.from_residual-in_err-refuse_where-3.ensures.1 in rw (p.1, p.2)
    (row_refuses _ _ _ _ _ (ap not (ap (λ (n : ℕ). is_within 1 greatest_weight n) (sym c.from.ensures)
    ∙ sym c.is_within.ensures)) c.in_err-refuse_where-3.ensures.refused
    ∙ sym (row_passes _ _ _ _ refl c.in_ok-refuse_where-2.ensures.refused)
    ∙ sym (row_passes _ _ _ _ refl c.in_ok-refuse_where.ensures.refused)
    ∙ sym (in_range c.args.self.now w bodies h c.args.station _ c.in_ok-in_range.ensures.refused))

pub returns-clause-refused : goal.returns-clause-refused
returns-clause-refused c w bodies h =
    c.refuse_where-4.ensures.refused
    ∙ last_row _ _ _ (sym (c.is_live.ensures ∙ ap
    (λ (v : TransmitValue). is_some (member v.members c.args.station)) c.self.view_is
    ∙ live_same c.args.self.now w bodies c.args.station h.parts))
    ∙ sym (row_passes _ _ _ _ (ap not (ap (λ (n : ℕ). is_within 1 greatest_weight n) (sym c.from.ensures)
    ∙ sym c.is_within.ensures)) c.in_ok-refuse_where-3.ensures.refused)
    ∙ sym (row_passes _ _ _ _ refl c.in_ok-refuse_where-2.ensures.refused)
    ∙ sym (row_passes _ _ _ _ refl c.in_ok-refuse_where.ensures.refused)
    ∙ sym (in_range c.args.self.now w bodies h c.args.station _ c.in_ok-in_range.ensures.refused)
