-- Proves what `Transmit::hold` promises from the clauses of `Half::hold`: a Hold changes only the readiness
-- of its station, whose four flags are set.
use Rattle.std.proofs.Common.{refl}
use Rattle.wf_frame.specs.declared.notes.Ask.TheVariants.{Hold}
use Rattle.wf_frame.specs.declared.notes.Note.TheVariants.{Asked}
use Rattle.wf_frame.specs.declared.notes.ReplyNote.TheVariants as reply
use Rattle.wf_send_half.proofs.Concerned.{low_after, flags_room, tracked_after}
use Rattle.wf_send_half.proofs.Kept.{same_bodies, kept_unheard}
use Rattle.wf_send_half.proofs.transmit.Transmit.hold.Goals as goal

pub set_all-requires-clause-within : goal.set_all-requires-clause-within
set_all-requires-clause-within c = low_after c.self.inside.half c.self.inside.ready c.self.invariant
    (Hold c.args.station c.args.tid) (reply.Held c.in-Ok.start) c.hold.new.self
    c.in-Ok.ensures.meets c.args.station (λ w. refl) (λ why e. cc e)

pub set_all-requires-clause-room : goal.set_all-requires-clause-room
set_all-requires-clause-room c = flags_room c.self.inside.half c.self.inside.ready c.self.invariant
    (Hold c.args.station c.args.tid) (reply.Held c.in-Ok.start) c.hold.new.self
    c.in-Ok.ensures.meets c.args.station (λ w. refl) (λ why e. cc e)

pub invariant_of-self : goal.invariant_of-self
invariant_of-self c = tracked_after c.self.inside.half c.self.inside.ready c.self.invariant
    (Hold c.args.station c.args.tid) (reply.Held c.in-Ok.start) c.hold.new.self
    c.in-Ok.ensures.meets c.args.station (λ w. refl) (λ why e. cc e) tt (λ w. refl) c.set_all.new.self
    c.set_all.ensures

pub returns-in-Ok-clause-unheard : goal.returns-in-Ok-clause-unheard
returns-in-Ok-clause-unheard c = kept_unheard c.self.inside.half c.hold.new.self same_bodies
    (Asked (Hold c.args.station c.args.tid))
    (reply.Held c.in-Ok.start) c.in-Ok.ensures.meets tt c.self.invariant.some
