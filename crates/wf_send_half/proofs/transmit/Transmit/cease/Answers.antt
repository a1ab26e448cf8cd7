-- Proves what `Transmit::cease` promises from the clauses of `Half::cease`: a Cease changes only the
-- readiness of its station, whose four flags are set. Its answer has frames that the receiver releases, so it
-- differs by world.
use Rattle.std.proofs.Common.{refl}
use Rattle.wf_frame.specs.declared.notes.Ask.TheVariants.{Cease}
use Rattle.wf_frame.specs.declared.notes.Note.TheVariants.{Asked}
use Rattle.wf_frame.specs.declared.notes.ReplyNote.TheVariants as reply
use Rattle.wf_send_half_model.specs.Flushing.{released_at_cease}
use Rattle.wf_send_half.proofs.Concerned.{low_at, room_at, tracked_at}
use Rattle.wf_send_half.proofs.Kept.{same_bodies, kept_at}
use Rattle.wf_send_half.proofs.transmit.Transmit.cease.Goals as goal

pub set_all-requires-clause-within : goal.set_all-requires-clause-within
set_all-requires-clause-within c =
    let h = c.self.invariant.some in
    low_at c.self.inside.half c.self.inside.ready c.self.invariant (Cease c.args.station c.args.tid)
    (reply.Ceased c.in-Ok.dropped (released_at_cease h.world c.args.station c.args.tid)) c.cease.new.self
    (c.in-Ok.ensures.meets h.world h.bodies h.stands) c.args.station (λ w. refl) (λ why e. cc e)

pub set_all-requires-clause-room : goal.set_all-requires-clause-room
set_all-requires-clause-room c =
    let h = c.self.invariant.some in
    room_at c.self.inside.half c.self.inside.ready c.self.invariant (Cease c.args.station c.args.tid)
    (reply.Ceased c.in-Ok.dropped (released_at_cease h.world c.args.station c.args.tid)) c.cease.new.self
    (c.in-Ok.ensures.meets h.world h.bodies h.stands) c.args.station (λ w. refl) (λ why e. cc e)

pub invariant_of-self : goal.invariant_of-self
invariant_of-self c =
    let h = c.self.invariant.some in
    tracked_at c.self.inside.half c.self.inside.ready c.self.invariant (Cease c.args.station c.args.tid)
    (reply.Ceased c.in-Ok.dropped (released_at_cease h.world c.args.station c.args.tid)) c.cease.new.self
    (c.in-Ok.ensures.meets h.world h.bodies h.stands) c.args.station (λ w. refl) (λ why e. cc e) tt
    (λ w. refl) c.set_all.new.self c.set_all.ensures

pub returns-in-Ok-clause-unheard : goal.returns-in-Ok-clause-unheard
returns-in-Ok-clause-unheard c =
    let h = c.self.invariant.some in
    kept_at c.self.inside.half c.cease.new.self same_bodies (Asked (Cease c.args.station c.args.tid))
    (reply.Ceased c.in-Ok.dropped (released_at_cease h.world c.args.station c.args.tid)) h
    (c.in-Ok.ensures.meets h.world h.bodies h.stands) tt
