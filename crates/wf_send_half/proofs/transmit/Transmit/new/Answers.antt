-- Proves what `Transmit::new` promises: no station is ready in a new half, so no flag is set.
use Rattle.wf_send_half.proofs.Tracked.{new_tracked}
use Rattle.wf_send_half.proofs.transmit.Transmit.new.Goals as goal

pub invariant_of-result : goal.invariant_of-result
invariant_of-result c = new_tracked c.in_ok-half.half c.in_ok-ready.ready c.args.config
    c.in_ok-half.ensures c.in_ok-ready.ensures

pub returns-clause-unheard : goal.returns-clause-unheard
returns-clause-unheard c = (new_tracked c.in_ok-half.half c.in_ok-ready.ready c.args.config
    c.in_ok-half.ensures c.in_ok-ready.ensures).some
