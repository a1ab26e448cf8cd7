-- Proves what `Transmit::service` promises from the clauses of `Half::service`: a call about service periods
-- changes only the readiness of its station, whose four flags are set.
use Rattle.std.proofs.Common.{◌≡◌, refl, sym, ap, ◌∙◌, subst, ℕ, ◌<◌, ◌∷◌, drop}
use Rattle.wf_frame.specs.declared.notes.Ask.TheVariants.{Service}
use Rattle.wf_frame.specs.declared.notes.Note.TheVariants.{Asked}
use Rattle.wf_frame.specs.declared.notes.ReplyNote.TheVariants as reply
use Rattle.wf_frame.specs.declared.notes.Refusal.TheVariants.{BadStation}
use Rattle.wf_frame.specs.declared.notes.ServiceAsk.{ServiceAsk}
use Rattle.wf_frame.specs.declared.notes.ServiceAsk.TheVariants as service
use Rattle.wf_def_world.specs.World.{World}
use Rattle.wf_def_world.specs.Refusals.{refusals, is_bad_station}
use Rattle.wf_def_world.specs.Service.{station_served}
use Rattle.wf_send_half.specs.Flags.{FlagsHaveRoom, with_flags}
use Rattle.wf_send_half.proofs.Concerned.{low_after, flags_room, tracked_after}
use Rattle.wf_send_half.proofs.Kept.{same_bodies, kept_unheard}
use Rattle.wf_send_half.proofs.transmit.Transmit.service.Goals as goal

-- the first row of such a call tests its station
first_row : (ask : ServiceAsk) (w : World) → refusals w (Asked (Service ask))
    ≡ (is_bad_station w (station_served ask), BadStation) ∷ drop 1 (refusals w (Asked (Service ask)))
first_row (service.Set s classes most) w = refl
first_row (service.Trigger s) w = refl
first_row (service.End s) w = refl

pub set_all-requires-clause-within : goal.set_all-requires-clause-within
set_all-requires-clause-within c = subst (λ (s : ℕ). s < c.service.new.self.config.stations)
    (sym c.station_served.ensures)
    (low_after c.self.inside.half c.self.inside.ready c.self.invariant
    (Service c.args.ask) (reply.Service c.in-Ok.reply) c.service.new.self
    c.in-Ok.ensures.meets (station_served c.args.ask) (first_row c.args.ask) (λ why e. cc e))

pub set_all-requires-clause-room : goal.set_all-requires-clause-room
set_all-requires-clause-room c = subst (FlagsHaveRoom c.self.inside.ready) (sym c.station_served.ensures)
    (flags_room c.self.inside.half c.self.inside.ready c.self.invariant
    (Service c.args.ask) (reply.Service c.in-Ok.reply) c.service.new.self
    c.in-Ok.ensures.meets (station_served c.args.ask) (first_row c.args.ask) (λ why e. cc e))

pub invariant_of-self : goal.invariant_of-self
invariant_of-self c = tracked_after c.self.inside.half c.self.inside.ready c.self.invariant
    (Service c.args.ask) (reply.Service c.in-Ok.reply) c.service.new.self
    c.in-Ok.ensures.meets (station_served c.args.ask) (first_row c.args.ask) (λ why e. cc e) tt (λ w. refl)
    c.set_all.new.self
    (c.set_all.ensures ∙ ap (with_flags c.self.inside.ready c.service.new.self) c.station_served.ensures)

pub returns-in-Ok-clause-unheard : goal.returns-in-Ok-clause-unheard
returns-in-Ok-clause-unheard c = kept_unheard c.self.inside.half c.service.new.self same_bodies
    (Asked (Service c.args.ask))
    (reply.Service c.in-Ok.reply) c.in-Ok.ensures.meets tt c.self.invariant.some
