-- Proves what `Transmit::group` promises: a call about group frames changes the readiness of no station, so
-- the flags stay right.
use Rattle.std.proofs.Common.{refl}
use Rattle.wf_frame.specs.declared.notes.Ask.TheVariants.{Group}
use Rattle.wf_send_half.proofs.Kept.{tracked_still}
use Rattle.wf_send_half.proofs.transmit.Transmit.group.Goals as goal

pub invariant_of-self : goal.invariant_of-self
invariant_of-self c = tracked_still c.self.inside.half c.group.new.self c.self.inside.ready
    (Group c.args.call) _ c.self.invariant c.group.ensures.meets tt refl

pub returns-clause-unheard : goal.returns-clause-unheard
returns-clause-unheard c = (tracked_still c.self.inside.half c.group.new.self c.self.inside.ready
    (Group c.args.call) _ c.self.invariant c.group.ensures.meets tt refl).some
