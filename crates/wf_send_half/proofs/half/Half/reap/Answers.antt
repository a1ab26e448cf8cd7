-- Proves what `Half::reap` promises: the first finished frame is the world's. By cases: there is one,
-- or none.
use Rattle.wf_send_half.proofs.CallSteps.{view_of, reap_done, reap_refused}
use Rattle.wf_send_half.proofs.half.Half.reap.Goals as goal

pub returns-in_err-parcel-clause-meets : goal.returns-in_err-parcel-clause-meets
returns-in_err-parcel-clause-meets c w bodies h =
    rw c.from_residual.ensures (reap_refused c.args.self.now
    (view_of c.self.inside) c.self.view_is w bodies h c.reap.new.self c.in_err-parcel.ensures.unchanged
    c.in_err-parcel.ensures.first)

pub returns-clause-meets : goal.returns-clause-meets
returns-clause-meets c w bodies h =
    reap_done c.args.self.now (view_of c.self.inside) c.self.view_is w bodies h c.in_ok-parcel.parcel
    c.reap.new.self c.in_ok-parcel.ensures.first c.in_ok-parcel.ensures.others
