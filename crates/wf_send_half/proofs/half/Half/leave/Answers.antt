-- Proves what `Half::leave` promises. By cases of the checks: the call is refused, or the station's frames
-- are dropped and counted, and the half represents the world after the Leave.
use Rattle.std.proofs.Common.{sym, subst}
use Rattle.std.proofs.lemmas.Result.{err_from_is_err_and}
use Rattle.wf_send_parts.specs.Tally.{counts_of}
use Rattle.wf_send_parts.specs.Windows.{WindowsHaveRoom}
use Rattle.wf_send_half_model.specs.Half.{TransmitValue}
use Rattle.wf_send_half.proofs.Rows.{refused_call}
use Rattle.wf_send_half.proofs.CallSteps.{view_of}
use Rattle.wf_send_half.proofs.Leaves.{counted, leave_done}
use Rattle.wf_send_half.proofs.half.Half.leave.Goals as goal

pub returns-in_err-check_leave-clause-meets : goal.returns-in_err-check_leave-clause-meets
returns-in_err-check_leave-clause-meets c w bodies h =
    let p = err_from_is_err_and c.from_residual.result c.from_residual.ensures.1 in rw (p.1, p.2)
    (refused_call c.args.self.now w bodies _ _ (λ e. cc e, (λ e. cc e, (λ e. cc e, tt))) h
    (c.in_err-check_leave.ensures.refused w bodies h))

pub settle_all-requires-clause-held : goal.settle_all-requires-clause-held
settle_all-requires-clause-held c =
    let r = c.requires.some in
    counted c.args.self.now c.drop_all-dropped.new.self
    (view_of c.self.inside) c.self.view_is r.world r.bodies c.args.station c.drop_all-dropped.result
    (c.drop_all-dropped.ensures.left r.world r.bodies r.stands
    (sym (c.in_ok-check_leave.ensures.refused r.world r.bodies r.stands)))

pub returns-clause-meets : goal.returns-clause-meets
returns-clause-meets c w bodies h =
    let room : WindowsHaveRoom c.self.inside.windows =
    subst (λ (v : TransmitValue). WindowsHaveRoom v.windows)
    (sym c.self.view_is) c.drop_all-dropped.ensures.room in
    leave_done c.args.self.now c.drop_all-dropped.new.self
    (view_of c.self.inside) c.self.view_is w bodies c.args.station c.drop_all-dropped.result
    (c.drop_all-dropped.ensures.left w bodies h (sym (c.in_ok-check_leave.ensures.refused w bodies h)))
    c.leave.new.self c.leave-2.new.self (counts_of c.settle_all.new.self) room c.leave.ensures
    c.leave-2.ensures c.settle_all.ensures.counted
