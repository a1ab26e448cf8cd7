-- Proves what `Half::pull_group` promises from the contract of the queues, or from the check of the BSS.
use Rattle.std.proofs.Common.{sym, ap, ◌∙◌}
use Rattle.std.proofs.lemmas.Result.{err_from_is_err_and}
use Rattle.wf_frame.specs.Calls.{in_bss}
use Rattle.wf_frame.specs.declared.notes.GroupAsk.TheVariants.{Pull}
use Rattle.wf_send_half_model.specs.Half.{TransmitValue, is_any_asleep_of}
use Rattle.wf_send_half.proofs.CallSteps.{view_of}
use Rattle.wf_send_half.proofs.GroupCalls.{sizes_kept, no_such_bss, pull_done}
use Rattle.wf_send_half.proofs.half.Half.pull_group.Goals as goal

pub returns-in_err-check_bss-clause-meets : goal.returns-in_err-check_bss-clause-meets
returns-in_err-check_bss-clause-meets c w bodies h =
    let p = err_from_is_err_and c.from_residual.result c.from_residual.ensures.1 in rw (p.1, p.2)
    (no_such_bss c.args.self.now w bodies h (in_bss c.args.bss Pull) _ c.in_err-check_bss.ensures.refused)

pub returns-clause-meets : goal.returns-clause-meets
returns-clause-meets c w bodies h = pull_done c.args.self.now (view_of c.self.inside) c.self.view_is
    c.self.invariant w bodies h c.args.bss c.in_ok-check_bss.ensures.within c.pull.new.self
    c.is_any_asleep-sleeps.result
    (c.is_any_asleep-sleeps.ensures
    ∙ ap (λ (v : TransmitValue). is_any_asleep_of v c.args.bss) (sym c.self.view_is)) c.pull.result
    c.pull.ensures.fault c.pull.ensures.answer c.pull.ensures.flies c.pull.ensures.refused

pub invariant_of-self : goal.invariant_of-self
invariant_of-self c = sizes_kept (view_of c.self.inside) c.pull.new.self c.self.invariant
    c.pull.ensures.count c.pull.ensures.room
