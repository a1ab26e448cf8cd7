-- Proves what `Half::check_bss_of` promises: the tests are the world's, for the station's number, the number
-- of the BSS, whether the station is live, and whether it sleeps. By cases of the first test that fails.
use Rattle.std.proofs.Common.{◌∙◌, sym, ap}
use Rattle.std.proofs.lemmas.Result.{err_from_is_err_and}
use Rattle.wf_send_parts.specs.Sleepers.{sleeper}
use Rattle.wf_send_half_model.specs.Half.{TransmitValue}
use Rattle.wf_send_half.proofs.Rows.{last_row, row_refuses, row_passes, bss_same, out_of_range, in_range, not_there, there, asleep_same, live_of}
use Rattle.wf_send_half.proofs.half.Half.check_bss_of.Goals as goal

pub returns-in_err-in_range-clause-refused : goal.returns-in_err-in_range-clause-refused
returns-in_err-in_range-clause-refused c w bodies h =
    let p = err_from_is_err_and c.from_residual.result c.from_residual.ensures.1 in rw (p.1, p.2)
    (out_of_range c.args.self.now w bodies h c.args.station _ _ c.in_err-in_range.ensures.refused)

pub returns-in_err-check_bss-clause-refused : goal.returns-in_err-check_bss-clause-refused
returns-in_err-check_bss-clause-refused c w bodies h =
    let p = err_from_is_err_and c.from_residual-in_err-check_bss.result
    c.from_residual-in_err-check_bss.ensures.1 in rw (p.1, p.2)
    (row_refuses _ _ _ _ _ (bss_same c.args.self.now w bodies h c.args.bss) c.in_err-check_bss.ensures.refused
    ∙ sym (in_range c.args.self.now w bodies h c.args.station _ c.in_ok-in_range.ensures.refused))

pub returns-in_err-live-clause-refused : goal.returns-in_err-live-clause-refused
returns-in_err-live-clause-refused c w bodies h =
    let p = err_from_is_err_and c.from_residual-in_err-live.result c.from_residual-in_err-live.ensures.1 in
    rw (p.1, p.2)
    (not_there c.args.self.now w bodies h c.args.station _ _ c.in_err-live.ensures.refused
    ∙ sym (row_passes _ _ _ _ (bss_same c.args.self.now w bodies h c.args.bss)
    c.in_ok-check_bss.ensures.refused)
    ∙ sym (in_range c.args.self.now w bodies h c.args.station _ c.in_ok-in_range.ensures.refused))

pub returns-clause-refused : goal.returns-clause-refused
returns-clause-refused c w bodies h =
    c.refuse_where.ensures.refused
    ∙ last_row _ _ _ (asleep_same c.args.self.now w bodies h c.args.station
    (live_of c.args.self.now w bodies h c.args.station c.in_ok-live.ensures.live)
    ∙ sym (c.asleep.ensures ∙ ap (λ (v : TransmitValue). (sleeper v.sleepers c.args.station).asleep)
    c.self.view_is))
    ∙ sym (there c.args.self.now w bodies h c.args.station _ c.in_ok-live.ensures.refused)
    ∙ sym (row_passes _ _ _ _ (bss_same c.args.self.now w bodies h c.args.bss)
    c.in_ok-check_bss.ensures.refused)
    ∙ sym (in_range c.args.self.now w bodies h c.args.station _ c.in_ok-in_range.ensures.refused)
