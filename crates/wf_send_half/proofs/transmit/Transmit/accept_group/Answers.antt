-- Proves what `Transmit::accept_group` promises: a group frame changes the readiness of no station, so the
-- flags stay right.
use Rattle.std.proofs.Common.{refl}
use Rattle.wf_frame.specs.Calls.{in_bss}
use Rattle.wf_frame.specs.declared.notes.Ask.TheVariants.{Group}
use Rattle.wf_frame.specs.declared.notes.GroupAsk.TheVariants.{Accept}
use Rattle.wf_send_half.proofs.Kept.{tracked_still}
use Rattle.wf_send_half.proofs.transmit.Transmit.accept_group.Goals as goal

pub invariant_of-self : goal.invariant_of-self
invariant_of-self c = tracked_still c.self.inside.half c.accept_group.new.self c.self.inside.ready
    (Group (in_bss c.args.bss (Accept c.args.len))) _ c.self.invariant c.accept_group.ensures.meets tt refl

pub returns-clause-unheard : goal.returns-clause-unheard
returns-clause-unheard c = (tracked_still c.self.inside.half c.accept_group.new.self c.self.inside.ready
    (Group (in_bss c.args.bss (Accept c.args.len))) _ c.self.invariant c.accept_group.ensures.meets tt
    refl).some
