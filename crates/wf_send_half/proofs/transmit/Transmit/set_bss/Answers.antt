-- Proves what `Transmit::set_bss` promises: the BSS of a station changes the readiness of no station, so the
-- flags stay right.
use Rattle.std.proofs.Common.{refl}
use Rattle.wf_frame.specs.declared.notes.Ask.TheVariants.{Bss}
use Rattle.wf_send_half.proofs.Kept.{tracked_still}
use Rattle.wf_send_half.proofs.transmit.Transmit.set_bss.Goals as goal

pub invariant_of-self : goal.invariant_of-self
invariant_of-self c = tracked_still c.self.inside.half c.set_bss.new.self c.self.inside.ready (Bss
    c.args.station c.args.bss) _
    c.self.invariant c.set_bss.ensures.meets tt refl

pub returns-clause-unheard : goal.returns-clause-unheard
returns-clause-unheard c = (tracked_still c.self.inside.half c.set_bss.new.self c.self.inside.ready (Bss
    c.args.station c.args.bss) _
    c.self.invariant c.set_bss.ensures.meets tt refl).some
