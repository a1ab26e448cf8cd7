-- Proves what `Half::pull` promises. By cases: the pull is Full, it is Idle, or the scheduler picks the
-- world's station, whose turn, transmissions and exchange then agree with the world's.
use Rattle.std.proofs.Common.{◌∙◌, ap, sym, subst, ◌<◌, ◌≤◌, ◌^◌, ◌-◌, ◌==◌, ◌&&◌, pos, negsuc, ◌-ℤ◌, ◌≤ℤ◌, length}
use Rattle.wf_def_lists.specs.Bounds.{greatest_air}
use Rattle.wf_sched.specs.ClassRotas.{deficit}
use Rattle.wf_send_half_model.specs.Half.{TransmitValue, is_ready_of, is_ahead_of}
use Rattle.wf_send_half.specs.Pulls.{bounds_in}
use Rattle.wf_send_half.proofs.Pulling.{pull_full, pull_ahead, pull_stays, pick_fits, charge_small, room_next, picked_one, picked_none, picked_some, live_picked, live_turned, takes_turned, to_prepare, opens_next, pull_done}
use Rattle.wf_send_half.proofs.half.Half.pull.Goals as goal

pub returns-then-self-count-clause-meets : goal.returns-then-self-count-clause-meets
returns-then-self-count-clause-meets c w bodies h =
    pull_full c.self.view_is h c.of_class-count.ensures c.if-self-count.true

pub returns-then-is_ahead-clause-meets : goal.returns-then-is_ahead-clause-meets
returns-then-is_ahead-clause-meets c w bodies h =
    pull_ahead c.self.view_is h c.of_class-count.ensures c.if-self-count.false
    (ap is_ahead_of c.self.view_is ∙ sym c.is_ahead.ensures ∙ c.if-is_ahead.true) c.airtime-owed.ensures

pub returns-then-stays_idle-clause-meets : goal.returns-then-stays_idle-clause-meets
returns-then-stays_idle-clause-meets c w bodies h =
    pull_stays c.self.view_is h c.requires.told c.of_class-count.ensures c.if-self-count.false
    (ap is_ahead_of c.self.view_is ∙ sym c.is_ahead.ensures ∙ c.if-is_ahead.false) c.args.is_idle
    (c.requires.idle w bodies h)
    (ap (λ (z : TransmitValue). (z.config.pending == 1) && c.args.is_idle) c.self.view_is
    ∙ sym c.stays_idle.ensures ∙ c.if-stays_idle.true)

-- ---- the station that is picked

pub take_turn-tid-requires-clause-live : goal.take_turn-tid-requires-clause-live
take_turn-tid-requires-clause-live c = live_picked (picked_one c.self.view_is c.requires.some.stands
    c.requires.told c.of_class-count.ensures c.if-self-count.false
    (ap is_ahead_of c.self.view_is ∙ sym c.is_ahead.ensures ∙ c.if-is_ahead.false) c.pick.ensures.turned
    c.pick.ensures.others c.args.limits
    c.in-Some.ensures.winner)

pub prepare-prepared-requires-clause-live : goal.prepare-prepared-requires-clause-live
prepare-prepared-requires-clause-live c = live_turned (picked_one c.self.view_is c.requires.some.stands
    c.requires.told c.of_class-count.ensures c.if-self-count.false
    (ap is_ahead_of c.self.view_is ∙ sym c.is_ahead.ensures ∙ c.if-is_ahead.false) c.pick.ensures.turned
    c.pick.ensures.others c.args.limits
    c.in-Some.ensures.winner)
    c.take_turn-tid.ensures.tid c.take_turn-tid.ensures.turned

pub prepare-prepared-requires-clause-takes : goal.prepare-prepared-requires-clause-takes
prepare-prepared-requires-clause-takes c = takes_turned (picked_one c.self.view_is
    c.requires.some.stands c.requires.told c.of_class-count.ensures c.if-self-count.false
    (ap is_ahead_of c.self.view_is ∙ sym c.is_ahead.ensures ∙ c.if-is_ahead.false)
    c.pick.ensures.turned c.pick.ensures.others c.args.limits
    c.in-Some.ensures.winner)
    c.take_turn-tid.ensures.tid c.take_turn-tid.ensures.turned

pub prepare-prepared-requires-clause-due : goal.prepare-prepared-requires-clause-due
prepare-prepared-requires-clause-due c = to_prepare (picked_one c.self.view_is c.requires.some.stands
    c.requires.told c.of_class-count.ensures c.if-self-count.false
    (ap is_ahead_of c.self.view_is ∙ sym c.is_ahead.ensures ∙ c.if-is_ahead.false) c.pick.ensures.turned
    c.pick.ensures.others c.args.limits
    c.in-Some.ensures.winner)
    c.take_turn-tid.ensures.tid c.take_turn-tid.ensures.turned (bounds_in c.bounds-bounds.result)
    c.bounds-bounds.ensures.exact

pub put_on_air-requires-clause-room : goal.put_on_air-requires-clause-room
put_on_air-requires-clause-room c =
    subst (λ (z : TransmitValue). length z.opened < 32) (sym c.prepare-prepared.ensures.same)
    (subst (λ (z : TransmitValue). length z.opened < 32) (sym c.take_turn-tid.ensures.turned)
    (room_next c.self.view_is c.requires.some.stands c.requires.told c.of_class-count.ensures
    c.if-self-count.false
    (ap is_ahead_of c.self.view_is ∙ sym c.is_ahead.ensures ∙ c.if-is_ahead.false)))

pub put_on_air-requires-clause-charge : goal.put_on_air-requires-clause-charge
put_on_air-requires-clause-charge c = charge_small (picked_one c.self.view_is c.requires.some.stands
    c.requires.told c.of_class-count.ensures c.if-self-count.false
    (ap is_ahead_of c.self.view_is ∙ sym c.is_ahead.ensures ∙ c.if-is_ahead.false) c.pick.ensures.turned
    c.pick.ensures.others c.args.limits
    c.in-Some.ensures.winner)
    c.take_turn-tid.ensures.tid c.take_turn-tid.ensures.turned (bounds_in c.bounds-bounds.result)
    c.bounds-bounds.ensures.exact c.prepare-prepared.new.self
    c.prepare-prepared.result.charge c.prepare-prepared.new.pairs c.prepare-prepared.result.sending
    c.prepare-prepared.ensures.prepared

pub put_on_air-requires-clause-low : goal.put_on_air-requires-clause-low
put_on_air-requires-clause-low c =
    let small : c.prepare-prepared.result.charge ≤ greatest_air = put_on_air-requires-clause-charge c in
    subst (λ (z : TransmitValue). negsuc (2 ^ 62 - 1)
    ≤ℤ (deficit z.sched c.args.class c.in-Some.station -ℤ pos c.prepare-prepared.result.charge))
    (sym c.prepare-prepared.ensures.same)
    (subst (λ (z : TransmitValue). negsuc (2 ^ 62 - 1)
    ≤ℤ (deficit z.sched c.args.class c.in-Some.station -ℤ pos c.prepare-prepared.result.charge))
    (sym c.take_turn-tid.ensures.turned)
    (pick_fits c.self.view_is c.requires.some.stands c.requires.told c.of_class-count.ensures
    c.if-self-count.false
    (ap is_ahead_of c.self.view_is ∙ sym c.is_ahead.ensures ∙ c.if-is_ahead.false) c.pick.ensures.turned
    c.pick.ensures.others c.in-Some.ensures.winner c.prepare-prepared.result.charge small))

pub put_on_air-requires-clause-above : goal.put_on_air-requires-clause-above
put_on_air-requires-clause-above c = opens_next (picked_one c.self.view_is c.requires.some.stands
    c.requires.told c.of_class-count.ensures c.if-self-count.false
    (ap is_ahead_of c.self.view_is ∙ sym c.is_ahead.ensures ∙ c.if-is_ahead.false) c.pick.ensures.turned
    c.pick.ensures.others c.args.limits
    c.in-Some.ensures.winner)
    c.take_turn-tid.ensures.tid c.take_turn-tid.ensures.turned c.prepare-prepared.ensures.same

pub returns-in-Some-clause-meets : goal.returns-in-Some-clause-meets
returns-in-Some-clause-meets c w bodies h = pull_done (picked_one c.self.view_is h c.requires.told
    c.of_class-count.ensures c.if-self-count.false
    (ap is_ahead_of c.self.view_is ∙ sym c.is_ahead.ensures ∙ c.if-is_ahead.false) c.pick.ensures.turned
    c.pick.ensures.others c.args.limits
    c.in-Some.ensures.winner)
    c.take_turn-tid.ensures.tid c.take_turn-tid.ensures.turned (bounds_in c.bounds-bounds.result)
    c.bounds-bounds.ensures.exact c.prepare-prepared.new.self
    c.prepare-prepared.result.charge c.prepare-prepared.new.pairs c.prepare-prepared.result.sending
    c.prepare-prepared.ensures.prepared c.put_on_air.ensures.opened c.put_on_air.ensures.brief

pub returns-in-Some-clause-ready : goal.returns-in-Some-clause-ready
returns-in-Some-clause-ready c e s t air request kind more eosp is = c.put_on_air.ensures.ready
    ∙ ap (is_ready_of c.put_on_air.new.self c.args.class) (cc (is, c.put_on_air.ensures.brief))

pub returns-in-None-clause-meets : goal.returns-in-None-clause-meets
returns-in-None-clause-meets c w bodies h = picked_none c.self.view_is h c.requires.told
    c.of_class-count.ensures c.if-self-count.false
    (ap is_ahead_of c.self.view_is ∙ sym c.is_ahead.ensures ∙ c.if-is_ahead.false) c.pick.ensures.turned
    c.pick.ensures.others c.args.is_idle (c.requires.idle w bodies h)
    (ap (λ (z : TransmitValue). (z.config.pending == 1) && c.args.is_idle) c.self.view_is
    ∙ sym c.stays_idle.ensures ∙ c.if-stays_idle.false)
    c.in-None.ensures.winner

-- with the setting `pending`, the pick finds a station
pub returns-in-None-clause-idle : goal.returns-in-None-clause-idle
returns-in-None-clause-idle c on is = absurd (picked_some c.self.view_is c.requires.some.stands
    c.requires.told
    c.of_class-count.ensures c.if-self-count.false
    (ap is_ahead_of c.self.view_is ∙ sym c.is_ahead.ensures ∙ c.if-is_ahead.false) c.pick.ensures.turned
    c.pick.ensures.others c.args.is_idle
    (c.requires.idle c.requires.some.world c.requires.some.bodies c.requires.some.stands)
    (ap (λ (z : TransmitValue). (z.config.pending == 1) && c.args.is_idle) c.self.view_is
    ∙ sym c.stays_idle.ensures ∙ c.if-stays_idle.false) on c.in-None.ensures.winner)
