-- Proves what `Transmit::unsent` promises: an Unsent changes the readiness of no station, so the flags stay
-- right.
use Rattle.wf_send_half.proofs.Marked.{tracked_unsent}
use Rattle.wf_send_half.proofs.transmit.Transmit.unsent.Goals as goal

pub invariant_of-self : goal.invariant_of-self
invariant_of-self c = tracked_unsent c.self.inside.half c.unsent.new.self c.self.inside.ready c.args.exchange
    c.args.index _ c.self.invariant c.unsent.ensures.meets

pub returns-clause-unheard : goal.returns-clause-unheard
returns-clause-unheard c = (tracked_unsent c.self.inside.half c.unsent.new.self c.self.inside.ready
    c.args.exchange c.args.index _ c.self.invariant c.unsent.ensures.meets).some
