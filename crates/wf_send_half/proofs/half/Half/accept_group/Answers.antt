-- Proves what `Half::accept_group` promises from the contract of the queues, or from the check of the BSS.
use Rattle.std.proofs.lemmas.Result.{err_from_is_err_and}
use Rattle.wf_frame.specs.Calls.{in_bss}
use Rattle.wf_frame.specs.declared.notes.GroupAsk.TheVariants.{Accept}
use Rattle.wf_frame.specs.declared.notes.GroupReply.TheVariants.{Queued}
use Rattle.wf_send_parts.specs.Group.{group_at}
use Rattle.wf_send_half.proofs.CallSteps.{view_of}
use Rattle.wf_send_half.proofs.GroupCalls.{sizes_kept, no_such_bss, group_done, queued_answer}
use Rattle.wf_send_half.proofs.half.Half.accept_group.Goals as goal

pub returns-in_err-check_bss-clause-meets : goal.returns-in_err-check_bss-clause-meets
returns-in_err-check_bss-clause-meets c w bodies h =
    let p = err_from_is_err_and c.from_residual.result c.from_residual.ensures.1 in rw (p.1, p.2)
    (no_such_bss c.args.self.now w bodies h (in_bss c.args.bss (Accept c.args.len)) _
    c.in_err-check_bss.ensures.refused)

pub returns-clause-meets : goal.returns-clause-meets
returns-clause-meets c w bodies h = group_done c.args.self.now (view_of c.self.inside) c.self.view_is
    c.self.invariant w bodies h c.args.bss c.in_ok-check_bss.ensures.within (Accept c.args.len)
    c.accept.new.self c.args.tag c.args.to (λ id. Queued id) c.accept.result c.accept.ensures.fault
    (queued_answer c.accept.result (group_at c.self.inside.groups c.args.bss).accepted c.accept.ensures.id)
    c.accept.ensures.queued c.accept.ensures.refused

pub invariant_of-self : goal.invariant_of-self
invariant_of-self c = sizes_kept (view_of c.self.inside) c.accept.new.self c.self.invariant
    c.accept.ensures.count c.accept.ensures.room
