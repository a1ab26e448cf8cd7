-- Proves what `Transmit::free` promises from the clauses of `Half::free`: a Free changes only the readiness
-- of its station, whose four flags are set.
use Rattle.std.proofs.Common.{refl}
use Rattle.wf_frame.specs.declared.notes.Ask.TheVariants.{Free}
use Rattle.wf_frame.specs.declared.notes.Note.TheVariants.{Asked}
use Rattle.wf_frame.specs.declared.notes.ReplyNote.TheVariants as reply
use Rattle.wf_send_half.proofs.Concerned.{low_after, flags_room, tracked_after}
use Rattle.wf_send_half.proofs.Kept.{same_bodies, kept_unheard}
use Rattle.wf_send_half.proofs.transmit.Transmit.free.Goals as goal

pub set_all-requires-clause-within : goal.set_all-requires-clause-within
set_all-requires-clause-within c = low_after c.self.inside.half c.self.inside.ready c.self.invariant
    (Free c.args.station c.args.tid) reply.Freed c.free.new.self
    c.in-Ok.ensures.meets c.args.station (λ w. refl) (λ why e. cc e)

pub set_all-requires-clause-room : goal.set_all-requires-clause-room
set_all-requires-clause-room c = flags_room c.self.inside.half c.self.inside.ready c.self.invariant
    (Free c.args.station c.args.tid) reply.Freed c.free.new.self
    c.in-Ok.ensures.meets c.args.station (λ w. refl) (λ why e. cc e)

pub invariant_of-self : goal.invariant_of-self
invariant_of-self c = tracked_after c.self.inside.half c.self.inside.ready c.self.invariant
    (Free c.args.station c.args.tid) reply.Freed c.free.new.self
    c.in-Ok.ensures.meets c.args.station (λ w. refl) (λ why e. cc e) tt (λ w. refl) c.set_all.new.self
    c.set_all.ensures

pub returns-in-Ok-clause-unheard : goal.returns-in-Ok-clause-unheard
returns-in-Ok-clause-unheard c = kept_unheard c.self.inside.half c.free.new.self same_bodies
    (Asked (Free c.args.station c.args.tid))
    reply.Freed c.in-Ok.ensures.meets tt c.self.invariant.some
