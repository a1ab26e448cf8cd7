-- Proves what `Transmit::pull` promises from the clauses of `Half::pull`. By cases: the four flags of the
-- station that sends are set, as the exchange ends a service period; its flag in the class is set; or none
-- sends and no flag changes.
use Rattle.std.proofs.Common.{◌≡◌, ◌∙◌, ap, sym, subst, true, false}
use Rattle.std.specs.Prelude.{nat_le, count_by}
use Rattle.wf_frame.specs.Classes.{same_class}
use Rattle.wf_frame.specs.declared.answers.Brief.TheVariants.{Refused as Refuses}
use Rattle.wf_frame.specs.declared.notes.Refusal.TheVariants.{Full, Ahead, Idle}
use Rattle.wf_send_half_model.specs.Half.{TransmitValue, is_ahead_of}
use Rattle.wf_send_half_model.specs.Standing.{StandsFor}
use Rattle.wf_send_parts.specs.Exchanges.{airtime_of}
use Rattle.wf_send_half.specs.Flags.{with_flag}
use Rattle.wf_send_half.proofs.Idle.{idle_means}
use Rattle.wf_send_half.proofs.Sends.{pulled_unheard, sender_within, sender_room, sender_rooms, tracked_sender, tracked_last, tracked_idle}
use Rattle.wf_send_half.proofs.transmit.Transmit.pull.Goals as goal

pub set_all-requires-clause-within : goal.set_all-requires-clause-within
set_all-requires-clause-within c =
    sender_within c.self.inside.half c.self.inside.ready c.self.invariant c.args.class c.args.limits
    c.pull-pulled.result.brief c.pull-pulled.new.pairs c.pull-pulled.new.self c.pull-pulled.ensures.meets
    c.in-Send.exchange c.in-Send.station c.in-Send.tid c.in-Send.air c.in-Send.request c.in-Send.kind
    c.in-Send.more c.in-Send.eosp c.in-Send.is

pub set_all-requires-clause-room : goal.set_all-requires-clause-room
set_all-requires-clause-room c =
    sender_rooms c.self.inside.half c.self.inside.ready c.self.invariant c.args.class c.args.limits
    c.pull-pulled.result.brief c.pull-pulled.new.pairs c.pull-pulled.new.self c.pull-pulled.ensures.meets
    c.in-Send.exchange c.in-Send.station c.in-Send.tid c.in-Send.air c.in-Send.request c.in-Send.kind
    c.in-Send.more c.in-Send.eosp c.in-Send.is

pub set-requires : goal.set-requires
set-requires c = record {
  room = sender_room c.self.inside.half c.self.inside.ready c.self.invariant c.args.class c.args.limits
      c.pull-pulled.result.brief c.pull-pulled.new.pairs c.pull-pulled.new.self c.pull-pulled.ensures.meets
      c.in-Send.exchange c.in-Send.station c.in-Send.tid c.in-Send.air c.in-Send.request c.in-Send.kind
      c.in-Send.more c.in-Send.eosp c.in-Send.is;
}

-- the exchange ends a service period
pub invariant_of-self : goal.invariant_of-self
invariant_of-self c =
    tracked_last c.self.inside.half c.self.inside.ready c.self.invariant c.args.class c.args.limits
    c.pull-pulled.result.brief c.pull-pulled.new.pairs c.pull-pulled.new.self c.pull-pulled.ensures.meets
    c.in-Send.exchange c.in-Send.station c.in-Send.tid c.in-Send.air c.in-Send.request c.in-Send.kind
    c.in-Send.more c.in-Send.eosp c.in-Send.is c.set_all.new.self c.set_all.ensures

pub invariant_of-self-else-eosp : goal.invariant_of-self-else-eosp
invariant_of-self-else-eosp c =
    tracked_sender c.self.inside.half c.self.inside.ready c.self.invariant c.args.class c.args.limits
    c.pull-pulled.result.brief c.pull-pulled.new.pairs c.pull-pulled.new.self c.pull-pulled.ensures.meets
    c.in-Send.exchange c.in-Send.station c.in-Send.tid c.in-Send.air c.in-Send.request c.in-Send.kind
    c.in-Send.more c.in-Send.eosp c.in-Send.is c.if-eosp.false c.set.new.self (c.set.ensures
    ∙ ap (with_flag c.self.inside.ready c.args.class c.in-Send.station)
    (c.pull-pulled.ensures.ready c.in-Send.exchange c.in-Send.station c.in-Send.tid c.in-Send.air
    c.in-Send.request c.in-Send.kind c.in-Send.more c.in-Send.eosp c.in-Send.is))

pub invariant_of-self-in_default : goal.invariant_of-self-in_default
invariant_of-self-in_default c =
    tracked_idle c.self.inside.half c.self.inside.ready c.self.invariant c.args.class c.args.limits
    c.pull-pulled.result.brief c.pull-pulled.new.pairs c.pull-pulled.new.self c.pull-pulled.ensures.meets
    (λ b. c.in_default.not-Send b.exchange b.station b.tid b.air b.request b.kind b.more b.eosp b.is)

pub returns-then-eosp-clause-meets : goal.returns-then-eosp-clause-meets
returns-then-eosp-clause-meets c w bodies h = c.pull-pulled.ensures.meets w bodies
    (subst (λ (v : TransmitValue). StandsFor v w bodies) (sym c.self.view_is) h)

pub returns-then-eosp-clause-unheard : goal.returns-then-eosp-clause-unheard
returns-then-eosp-clause-unheard c =
    pulled_unheard c.self.inside.half c.self.inside.ready c.self.invariant c.args.class c.args.limits
    c.pull-pulled.result.brief c.pull-pulled.new.pairs c.pull-pulled.new.self c.pull-pulled.ensures.meets

pub returns-else-eosp-clause-unheard : goal.returns-else-eosp-clause-unheard
returns-else-eosp-clause-unheard c =
    pulled_unheard c.self.inside.half c.self.inside.ready c.self.invariant c.args.class c.args.limits
    c.pull-pulled.result.brief c.pull-pulled.new.pairs c.pull-pulled.new.self c.pull-pulled.ensures.meets

pub returns-in_default : goal.returns-in_default
returns-in_default c = record {
  meets = λ w bodies h. c.pull-pulled.ensures.meets w bodies
      (subst (λ (v : TransmitValue). StandsFor v w bodies) (sym c.self.view_is) h);
  full = subst (λ (v : TransmitValue). nat_le v.config.inflight
      (count_by (λ x. same_class x.class c.args.class) v.opened) ≡ true →
      (c.pull-pulled.result.brief ≡ Refuses (Full (count_by (λ x. same_class x.class c.args.class)
      v.opened))) × (c.pull-pulled.new.self ≡ v)) c.self.view_is c.pull-pulled.ensures.full;
  ahead = subst (λ (v : TransmitValue). nat_le v.config.inflight
      (count_by (λ x. same_class x.class c.args.class) v.opened) ≡ false → is_ahead_of v ≡ true →
      (c.pull-pulled.result.brief ≡ Refuses (Ahead (airtime_of v.opened))) × (c.pull-pulled.new.self ≡ v))
      c.self.view_is c.pull-pulled.ensures.ahead;
  idle = subst (λ (v : TransmitValue). v.config.pending ≡ 1 → c.pull-pulled.result.brief ≡ Refuses Idle →
      c.pull-pulled.new.self ≡ v) c.self.view_is c.pull-pulled.ensures.idle;
  unheard = pulled_unheard c.self.inside.half c.self.inside.ready c.self.invariant c.args.class c.args.limits
      c.pull-pulled.result.brief c.pull-pulled.new.pairs c.pull-pulled.new.self c.pull-pulled.ensures.meets;
}

-- no flag of the class is up exactly if no station is ready there
pub pull-pulled-requires-clause-idle : goal.pull-pulled-requires-clause-idle
pull-pulled-requires-clause-idle c w bodies h =
    idle_means c.self.inside.half c.self.inside.ready c.self.invariant.flags c.args.class w bodies h
    c.has_any-is_idle.result c.has_any-is_idle.ensures
