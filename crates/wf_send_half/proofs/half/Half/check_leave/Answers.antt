-- Proves what `Half::check_leave` promises: the tests are the world's, for the station's number, whether it
-- is live, and its open exchanges. By cases of the first test that fails.
use Rattle.std.proofs.Common.{◌∙◌, refl, sym, ap, ℕ, nat_lt, ◌==◌, Some, None, if◌then◌else◌}
use Rattle.std.specs.Prelude.{count_by}
use Rattle.std.proofs.lemmas.Result.{err_from_is_err_and}
use Rattle.wf_frame.specs.declared.notes.Refusal.TheVariants.{Open}
use Rattle.wf_send_half_model.specs.Half.{TransmitValue}
use Rattle.wf_send_half_model.proofs.Readers.{station_count_same}
use Rattle.wf_send_half.proofs.Rows.{last_row, out_of_range, in_range, not_there, there}
use Rattle.wf_send_half.proofs.half.Half.check_leave.Goals as goal

pub returns-in_err-in_range-clause-refused : goal.returns-in_err-in_range-clause-refused
returns-in_err-in_range-clause-refused c w bodies h =
    let p = err_from_is_err_and c.from_residual.result c.from_residual.ensures.1 in rw (p.1, p.2)
    (out_of_range c.args.self.now w bodies h c.args.station _ _ c.in_err-in_range.ensures.refused)

pub returns-in_err-live-clause-refused : goal.returns-in_err-live-clause-refused
returns-in_err-live-clause-refused c w bodies h =
    let p = err_from_is_err_and c.from_residual-in_err-live.result c.from_residual-in_err-live.ensures.1 in
    rw (p.1, p.2)
    (not_there c.args.self.now w bodies h c.args.station _ _ c.in_err-live.ensures.refused
    ∙ sym (in_range c.args.self.now w bodies h c.args.station _ c.in_ok-in_range.ensures.refused))

pub returns-clause-refused : goal.returns-clause-refused
returns-clause-refused c w bodies h =
    c.refuse_where.ensures.refused
    ∙ ap (λ (n : ℕ). if nat_lt 0 n then Some (Open n) else None)
    (c.of_station-count.ensures ∙ ap (λ (v : TransmitValue).
    count_by (λ x. x.station == c.args.station) v.opened) c.self.view_is
    ∙ station_count_same c.args.self.now w bodies c.args.station h.parts)
    ∙ last_row _ _ _ refl
    ∙ sym (there c.args.self.now w bodies h c.args.station _ c.in_ok-live.ensures.refused)
    ∙ sym (in_range c.args.self.now w bodies h c.args.station _ c.in_ok-in_range.ensures.refused)
