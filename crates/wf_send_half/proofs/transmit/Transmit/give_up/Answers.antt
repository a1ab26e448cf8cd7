-- Proves what `Transmit::give_up` promises: a GiveUp changes the readiness of no station, so the flags stay
-- right.
use Rattle.std.proofs.Common.{refl}
use Rattle.wf_frame.specs.declared.notes.Ask.TheVariants.{GiveUp}
use Rattle.wf_send_half.proofs.Kept.{tracked_still}
use Rattle.wf_send_half.proofs.transmit.Transmit.give_up.Goals as goal

pub invariant_of-self : goal.invariant_of-self
invariant_of-self c = tracked_still c.self.inside.half c.give_up.new.self c.self.inside.ready (GiveUp
    c.args.exchange c.args.index) _
    c.self.invariant c.give_up.ensures.meets tt refl

pub returns-clause-unheard : goal.returns-clause-unheard
returns-clause-unheard c = (tracked_still c.self.inside.half c.give_up.new.self c.self.inside.ready (GiveUp
    c.args.exchange c.args.index) _
    c.self.invariant c.give_up.ensures.meets tt refl).some
