-- Proves what `Half::group` promises: by cases of what the call asks, it is one of four functions, whose
-- promise is about a call with the same parts.
use Rattle.std.proofs.Common.{sym, subst}
use Rattle.std.proofs.lemmas.Result.{err_from_is_err_and}
use Rattle.wf_frame.specs.Calls.{in_bss}
use Rattle.wf_frame.specs.declared.notes.Ask.TheVariants.{Group}
use Rattle.wf_frame.specs.declared.notes.GroupAsk.{GroupAsk}
use Rattle.wf_frame.specs.declared.notes.Note.TheVariants.{Asked}
use Rattle.wf_frame.specs.declared.notes.ReplyNote.TheVariants.{Group as Groups, Refused}
use Rattle.wf_send_half_model.specs.Standing.{Meets}
use Rattle.wf_send_half.specs.Replies.{reply_of_result}
use Rattle.wf_send_half.proofs.half.Half.group.Goals as goal

pub returns-in_err-id-in-Accept-clause-meets : goal.returns-in_err-id-in-Accept-clause-meets
returns-in_err-id-in-Accept-clause-meets c w bodies h =
    let p = err_from_is_err_and c.from_residual.result c.from_residual.ensures.1 in rw (p.1, p.2)
    (subst (λ (ask : GroupAsk). Meets w bodies (Asked (Group (in_bss c.args.call.bss ask)))
    c.accept_group.new.self (Refused c.in_err-id-in-Accept.field-0.0)) (sym c.in-Accept.is)
    (c.in_err-id-in-Accept.ensures.meets w bodies h))

pub returns-in-Beacon-clause-meets : goal.returns-in-Beacon-clause-meets
returns-in-Beacon-clause-meets c w bodies h =
    subst (λ (ask : GroupAsk). Meets w bodies (Asked (Group (in_bss c.args.call.bss ask)))
    c.send_beacon.new.self (reply_of_result (λ x. Groups x) c.send_beacon.result)) (sym c.in-Beacon.is)
    (c.send_beacon.ensures.meets w bodies h)

pub returns-in-Pull-clause-meets : goal.returns-in-Pull-clause-meets
returns-in-Pull-clause-meets c w bodies h =
    subst (λ (ask : GroupAsk). Meets w bodies (Asked (Group (in_bss c.args.call.bss ask)))
    c.pull_group.new.self (reply_of_result (λ x. Groups x) c.pull_group.result)) (sym c.in-Pull.is)
    (c.pull_group.ensures.meets w bodies h)

pub returns-in-Done-clause-meets : goal.returns-in-Done-clause-meets
returns-in-Done-clause-meets c w bodies h =
    subst (λ (ask : GroupAsk). Meets w bodies (Asked (Group (in_bss c.args.call.bss ask)))
    c.end_group.new.self (reply_of_result (λ x. Groups x) c.end_group.result)) (sym c.in-Done.is)
    (c.end_group.ensures.meets w bodies h)
