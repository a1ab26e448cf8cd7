-- Proves what `Half::end_group` promises from the contract of the queues, or from the check of the BSS.
use Rattle.std.proofs.Common.{ap, ℕ}
use Rattle.std.proofs.lemmas.Result.{err_from_is_err_and}
use Rattle.wf_frame.specs.Calls.{in_bss}
use Rattle.wf_frame.specs.declared.notes.GroupAsk.TheVariants.{Done as Ends}
use Rattle.wf_frame.specs.declared.notes.GroupReply.TheVariants.{Done}
use Rattle.wf_send_half.specs.Group.{everyone}
use Rattle.wf_send_half.proofs.CallSteps.{view_of}
use Rattle.wf_send_half.proofs.GroupCalls.{sizes_kept, no_such_bss, answered, refused}
use Rattle.wf_send_half.proofs.half.Half.end_group.Goals as goal

pub returns-in_err-check_bss-clause-meets : goal.returns-in_err-check_bss-clause-meets
returns-in_err-check_bss-clause-meets c w bodies h =
    let p = err_from_is_err_and c.from_residual.result c.from_residual.ensures.1 in rw (p.1, p.2)
    (no_such_bss c.args.self.now w bodies h (in_bss c.args.bss Ends) _ c.in_err-check_bss.ensures.refused)

pub returns-in_err-id-clause-meets : goal.returns-in_err-id-clause-meets
returns-in_err-id-clause-meets c w bodies h =
    let p = err_from_is_err_and c.from_residual-in_err-id.result c.from_residual-in_err-id.ensures.1 in
    rw (p.1, p.2)
    (refused c.args.self.now (view_of c.self.inside) c.self.view_is c.self.invariant w bodies h c.args.bss
    c.in_ok-check_bss.ensures.within Ends c.done.new.self _ c.in_err-id.ensures.fault
    c.in_err-id.ensures.refused)

pub returns-clause-meets : goal.returns-clause-meets
returns-clause-meets c w bodies h =
    answered c.args.self.now (view_of c.self.inside) c.self.view_is c.self.invariant w bodies h c.args.bss
    c.in_ok-check_bss.ensures.within Ends c.done.new.self 0 everyone (Done c.in_ok-id.id)
    c.in_ok-id.ensures.fault (ap (λ (n : ℕ). Done n) c.in_ok-id.ensures.id) c.in_ok-id.ensures.ended

pub invariant_of-self : goal.invariant_of-self
invariant_of-self c = sizes_kept (view_of c.self.inside) c.done.new.self c.self.invariant
    c.done.ensures.count c.done.ensures.room
