-- Proves what `Half::check_start` promises: the tests are the world's, for the station's number, whether it
-- is live, and whether it is not stopped. By cases of the first test that fails.
use Rattle.std.proofs.Common.{◌∙◌, sym, ap, not}
use Rattle.std.proofs.lemmas.Result.{err_from_is_err_and}
use Rattle.wf_send_parts.specs.Sleepers.{sleeper}
use Rattle.wf_send_half_model.specs.Half.{TransmitValue}
use Rattle.wf_send_half.proofs.Rows.{last_row, out_of_range, in_range, not_there, there, stopped_same, live_of}
use Rattle.wf_send_half.proofs.half.Half.check_start.Goals as goal

pub returns-in_err-in_range-clause-refused : goal.returns-in_err-in_range-clause-refused
returns-in_err-in_range-clause-refused c w bodies h =
    let p = err_from_is_err_and c.from_residual.result c.from_residual.ensures.1 in rw (p.1, p.2)
    (out_of_range c.args.self.now w bodies h c.args.station _ _ c.in_err-in_range.ensures.refused)

pub returns-in_err-live-clause-refused : goal.returns-in_err-live-clause-refused
returns-in_err-live-clause-refused c w bodies h =
    let p = err_from_is_err_and c.from_residual-in_err-live.result c.from_residual-in_err-live.ensures.1 in
    rw (p.1, p.2)
    (not_there c.args.self.now w bodies h c.args.station _ _ c.in_err-live.ensures.refused
    ∙ sym (in_range c.args.self.now w bodies h c.args.station _ c.in_ok-in_range.ensures.refused))

pub returns-clause-refused : goal.returns-clause-refused
returns-clause-refused c w bodies h =
    c.refuse_where.ensures.refused
    ∙ last_row _ _ _ (ap not (stopped_same c.args.self.now w bodies h c.args.station
    (live_of c.args.self.now w bodies h c.args.station c.in_ok-live.ensures.live)
    ∙ sym (c.stopped.ensures ∙ ap (λ (v : TransmitValue). (sleeper v.sleepers c.args.station).stopped)
    c.self.view_is)))
    ∙ sym (there c.args.self.now w bodies h c.args.station _ c.in_ok-live.ensures.refused)
    ∙ sym (in_range c.args.self.now w bodies h c.args.station _ c.in_ok-in_range.ensures.refused)
