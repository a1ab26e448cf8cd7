-- Proves what `Half::check_free` promises: each test is one row of the world's refusals of a Free. By cases
-- of the first test that fails.
use Rattle.std.proofs.Common.{◌∙◌, sym, ap, not}
use Rattle.std.proofs.lemmas.Result.{err_from_is_err_and}
use Rattle.wf_send_half.specs.Half.{rows_of_tid}
use Rattle.wf_send_half.proofs.Rows.{rows_refuse, rows_pass, last_row, live_of, held_row}
use Rattle.wf_send_half.proofs.half.Half.check_free.Goals as goal

pub returns-in_err-live_tid-clause-refused : goal.returns-in_err-live_tid-clause-refused
returns-in_err-live_tid-clause-refused c w bodies h =
    let p = err_from_is_err_and c.from_residual.result c.from_residual.ensures.1 in rw (p.1, p.2)
    (rows_refuse (rows_of_tid w c.args.station c.args.tid) _ _ (c.in_err-live_tid.ensures.refused w bodies h))

pub returns-clause-refused : goal.returns-clause-refused
returns-clause-refused c w bodies h =
    c.held.ensures
    ∙ last_row _ _ _ (ap not (held_row c.args.self.now w bodies h c.args.station c.args.tid
    (live_of c.args.self.now w bodies h c.args.station c.in_ok-live_tid.ensures.live)
    c.in_ok-live_tid.ensures.tid))
    ∙ sym (rows_pass (rows_of_tid w c.args.station c.args.tid) _
    (c.in_ok-live_tid.ensures.refused w bodies h))
