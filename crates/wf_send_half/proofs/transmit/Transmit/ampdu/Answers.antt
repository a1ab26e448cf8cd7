-- Proves what `Transmit::ampdu` promises: an Ampdu changes the readiness of no station, so the flags stay
-- right.
use Rattle.std.proofs.Common.{refl}
use Rattle.wf_frame.specs.declared.notes.Ask.TheVariants.{Ampdu}
use Rattle.wf_send_half.proofs.Kept.{tracked_still}
use Rattle.wf_send_half.proofs.transmit.Transmit.ampdu.Goals as goal

pub invariant_of-self : goal.invariant_of-self
invariant_of-self c = tracked_still c.self.inside.half c.ampdu.new.self c.self.inside.ready (Ampdu
    c.args.station c.args.octets) _
    c.self.invariant c.ampdu.ensures.meets tt refl

pub returns-clause-unheard : goal.returns-clause-unheard
returns-clause-unheard c = (tracked_still c.self.inside.half c.ampdu.new.self c.self.inside.ready (Ampdu
    c.args.station c.args.octets) _
    c.self.invariant c.ampdu.ensures.meets tt refl).some
