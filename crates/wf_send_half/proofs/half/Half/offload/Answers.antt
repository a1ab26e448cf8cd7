-- Proves what `Half::offload` promises. By cases of the checks: the call is refused, or the changes of the
-- parts make the half represent the world after the Offload.
use Rattle.std.proofs.Common.{sym, true}
use Rattle.std.proofs.lemmas.Result.{err_from_is_err_and}
use Rattle.wf_frame.specs.declared.notes.Ask.TheVariants.{Offload}
use Rattle.wf_frame.specs.declared.notes.Note.TheVariants.{Asked}
use Rattle.wf_frame.specs.declared.notes.ReplyNote.TheVariants.{Joined}
use Rattle.wf_send_half_model.specs.Changes.{after_admission}
use Rattle.wf_send_half_model.proofs.Whole.{offload_meets}
use Rattle.wf_send_half.proofs.CallSteps.{joined_is}
use Rattle.wf_send_half.proofs.Rows.{refused_call}
use Rattle.wf_send_half.proofs.Worlds.{met_by}
use Rattle.wf_send_half.proofs.half.Half.offload.Goals as goal

pub returns-in_err-check_offload-clause-meets : goal.returns-in_err-check_offload-clause-meets
returns-in_err-check_offload-clause-meets c w bodies h =
    let p = err_from_is_err_and c.from_residual.result c.from_residual.ensures.1 in rw (p.1, p.2)
    (refused_call c.args.self.now w bodies _ _ (λ e. cc e, (λ e. cc e, (λ e. cc e, (λ e. cc e, tt)))) h
    (c.in_err-check_offload.ensures.refused w bodies h))

pub returns-clause-meets : goal.returns-clause-meets
returns-clause-meets c w bodies h =
    met_by (after_admission c.args.self.now c.begin_sessions.new.self.windows c.begin_sessions.new.self.modes
    c.args.station c.args.exponent c.args.weight true) c.admit.new.self w bodies
    (Asked (Offload c.args.station c.args.exponent c.args.weight)) Joined
    (joined_is c.args.self.now c.begin_sessions.new.self c.admit.new.self c.args.station c.args.exponent
    c.args.weight true c.begin_sessions.ensures.rest c.admit.ensures)
    (offload_meets c.args.self.now w bodies h c.begin_sessions.new.self.windows
    c.begin_sessions.new.self.modes
    c.args.station c.args.exponent c.args.weight (sym (c.in_ok-check_offload.ensures.refused w bodies h))
    c.begin_sessions.ensures.reset c.begin_sessions.ensures.modes)
