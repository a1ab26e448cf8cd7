-- Proves what `Transmit::rx` promises: an Rx changes the readiness of no station, so the flags stay right.
use Rattle.std.proofs.Common.{refl}
use Rattle.wf_frame.specs.declared.notes.Ask.TheVariants.{Rx}
use Rattle.wf_send_half.proofs.Kept.{tracked_still}
use Rattle.wf_send_half.proofs.transmit.Transmit.rx.Goals as goal

pub invariant_of-self : goal.invariant_of-self
invariant_of-self c = tracked_still c.self.inside.half c.rx.new.self c.self.inside.ready (Rx c.args.station
    c.args.class c.args.air) _
    c.self.invariant c.rx.ensures.meets tt refl

pub returns-clause-unheard : goal.returns-clause-unheard
returns-clause-unheard c = (tracked_still c.self.inside.half c.rx.new.self c.self.inside.ready (Rx
    c.args.station c.args.class c.args.air) _
    c.self.invariant c.rx.ensures.meets tt refl).some
