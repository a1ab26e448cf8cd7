-- Proves that the record's history is a history of `live`, from the work of all seats and from what closing
-- the gate returns.
use Rattle.std.proofs.Common.{◌∙◌, ◌≤◌, length, ap, subst}
use Rattle.wf_frame.specs.declared.settings.Config.{Config}
use Rattle.wf_def_world.specs.Run.{Past}
use Rattle.wf_run_histories.proofs.Closing.{is_live}
use Rattle.wf_run_histories.proofs.live.closed.close.Goals as goal

pub returns-clause-config : goal.returns-clause-config
returns-clause-config c = λ senders opened. c.close-cell.ensures.settings ∙ ap (λ (p : Past). p.config) opened

pub returns-clause-live : goal.returns-clause-live
returns-clause-live c = λ seed senders frames opened quotas worked.
    let closed = c.close-cell.ensures in
    let settings = closed.settings ∙ ap (λ (p : Past). p.config) opened in
    let few = subst (λ (s : Config). length c.close-cell.result.past.history ≤ s.calls) settings
    (subst (λ n. n ≤ c.close-cell.result.past.config.calls) c.len.ensures.count c.len.ensures.most) in
    is_live c.args.gate seed senders frames _ c.args.seats.items opened quotas c.requires.all closed.seen
    closed.own worked
    c.close-cell.result.past.history closed.history few closed.callers
