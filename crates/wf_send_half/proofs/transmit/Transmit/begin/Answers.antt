-- Proves what `Transmit::begin` promises from the clauses of `Half::begin`: a Begin changes only the
-- readiness of its station, whose four flags are set.
use Rattle.std.proofs.Common.{refl}
use Rattle.wf_frame.specs.declared.notes.Ask.TheVariants.{Begin}
use Rattle.wf_frame.specs.declared.notes.Note.TheVariants.{Asked}
use Rattle.wf_frame.specs.declared.notes.ReplyNote.TheVariants as reply
use Rattle.wf_send_half.proofs.Concerned.{low_after, flags_room, tracked_after}
use Rattle.wf_send_half.proofs.Kept.{same_bodies, kept_unheard}
use Rattle.wf_send_half.proofs.transmit.Transmit.begin.Goals as goal

pub set_all-requires-clause-within : goal.set_all-requires-clause-within
set_all-requires-clause-within c = low_after c.self.inside.half c.self.inside.ready c.self.invariant
    (Begin c.args.station c.args.tid c.args.window) reply.Begun c.begin.new.self
    c.in-Ok.ensures.meets c.args.station (λ w. refl) (λ why e. cc e)

pub set_all-requires-clause-room : goal.set_all-requires-clause-room
set_all-requires-clause-room c = flags_room c.self.inside.half c.self.inside.ready c.self.invariant
    (Begin c.args.station c.args.tid c.args.window) reply.Begun c.begin.new.self
    c.in-Ok.ensures.meets c.args.station (λ w. refl) (λ why e. cc e)

pub invariant_of-self : goal.invariant_of-self
invariant_of-self c = tracked_after c.self.inside.half c.self.inside.ready c.self.invariant
    (Begin c.args.station c.args.tid c.args.window) reply.Begun c.begin.new.self
    c.in-Ok.ensures.meets c.args.station (λ w. refl) (λ why e. cc e) tt (λ w. refl) c.set_all.new.self
    c.set_all.ensures

pub returns-in-Ok-clause-unheard : goal.returns-in-Ok-clause-unheard
returns-in-Ok-clause-unheard c = kept_unheard c.self.inside.half c.begin.new.self same_bodies
    (Asked (Begin c.args.station c.args.tid c.args.window))
    reply.Begun c.in-Ok.ensures.meets tt c.self.invariant.some
