-- Proves what `Transmit::enqueue` promises from the clauses of `Half::enqueue`. Two flags may change: that of
-- the frame's station, and that of the station which loses a frame to the limit, if one does.
use Rattle.std.proofs.Common.{sym, ◌∙◌, ap, subst, ℕ, ◌<◌, Option, Some}
use Rattle.std.specs.Prelude.{option_map, IfSome}
use Rattle.wf_queue_flows.specs.declared.flows.Lost.{Lost}
use Rattle.wf_def_world.specs.World.{World}
use Rattle.wf_send_half_model.specs.Standing.{StandsFor, Meets}
use Rattle.wf_frame.specs.Frames.{FrameValue}
use Rattle.wf_frame.specs.declared.notes.ReplyNote.TheVariants.{Accepted}
use Rattle.wf_queue_flows_refines.specs.Frames.{with_body}
use Rattle.wf_send_half.specs.Enqueues.{enqueue_of, as_accepted}
use Rattle.wf_send_half_model.specs.Half.{TransmitValue}
use Rattle.wf_send_half.proofs.Admissions.{some_octets, few_octets, accepted_tid, flag_told, accepted_room, accepted_unheard, loser_within, loser_room, tracked_alone, tracked_both}
use Rattle.wf_send_half.proofs.FlagSteps.{flag_twice}
use Rattle.wf_send_half.proofs.transmit.Transmit.enqueue.Goals as goal

pub of_tid-class-requires : goal.of_tid-class-requires
of_tid-class-requires c =
    subst (λ (t : ℕ). t < 8) (sym (c.tid-tid.ensures ∙ ap (λ (f : FrameValue). f.tid) c.frame-frame.ensures))
    (accepted_tid c.self.inside.half c.self.inside.ready c.self.invariant c.args.parcel
    (Accepted c.in_ok-accepted.accepted.id (option_map (λ l. l.id) c.in_ok-accepted.accepted.lost))
    (λ bodies. with_body bodies (as_accepted c.self.inside.half c.args.parcel)) c.enqueue.new.self
    c.in_ok-accepted.ensures.meets (λ why e. cc e))

pub set-requires : goal.set-requires
set-requires c = record {
  room = accepted_room c.self.inside.half c.self.inside.ready c.self.invariant
      c.args.parcel
      (Accepted c.in_ok-accepted.accepted.id (option_map (λ l. l.id) c.in_ok-accepted.accepted.lost))
      (λ bodies. with_body bodies (as_accepted c.self.inside.half c.args.parcel)) c.enqueue.new.self
      c.in_ok-accepted.ensures.meets (λ why e. cc e) c.station-station.result c.of_tid-class.result
      (c.station-station.ensures ∙ ap (λ (f : FrameValue). f.station) c.frame-frame.ensures);
}

pub set_other-requires-clause-within : goal.set_other-requires-clause-within
set_other-requires-clause-within c = loser_within c.self.inside.half c.self.inside.ready c.self.invariant
    c.args.parcel
    (Accepted c.in_ok-accepted.accepted.id (option_map (λ l. l.id) c.in_ok-accepted.accepted.lost))
    (λ bodies. with_body bodies (as_accepted c.self.inside.half c.args.parcel)) c.enqueue.new.self
    c.in_ok-accepted.ensures.meets (λ why e. cc e) c.in-Some.lost.station
    (subst (λ (o : Option Lost). IfSome o (λ l. l.station < c.self.inside.half.flows.stations)) c.in-Some.is
    c.in_ok-accepted.ensures.station)

pub set_other-requires-clause-room : goal.set_other-requires-clause-room
set_other-requires-clause-room c =
    loser_room c.self.inside.half c.self.inside.ready c.self.invariant c.args.parcel
    (Accepted c.in_ok-accepted.accepted.id (option_map (λ l. l.id) c.in_ok-accepted.accepted.lost))
    (λ bodies. with_body bodies (as_accepted c.self.inside.half c.args.parcel)) c.enqueue.new.self
    c.in_ok-accepted.ensures.meets (λ why e. cc e) c.set.new.self c.of_tid-class.result
    c.station-station.result
    _ c.set.ensures c.of_tid-other.result c.in-Some.lost.station
    (subst (λ (o : Option Lost). IfSome o (λ l. l.station < c.self.inside.half.flows.stations)) c.in-Some.is
    c.in_ok-accepted.ensures.station)

pub set_other-requires-clause-known : goal.set_other-requires-clause-known
set_other-requires-clause-known c = flag_twice c.self.inside.ready c.set.new.self c.of_tid-class.result
    c.station-station.result _ (flag_told c.enqueue.new.self c.self.inside.ready
    c.set.new.self c.args.parcel c.of_tid-class.result c.tid-tid.result c.station-station.result
    c.of_tid-class.ensures (c.tid-tid.ensures ∙ ap (λ (f : FrameValue). f.tid) c.frame-frame.ensures)
    (c.station-station.ensures ∙ ap (λ (f : FrameValue). f.station) c.frame-frame.ensures)
    c.in_ok-accepted.accepted.is_ready c.in_ok-accepted.ensures.ready c.set.ensures)

pub invariant_of-self-2 : goal.invariant_of-self-2
invariant_of-self-2 c =
    tracked_both c.self.inside.half c.self.inside.ready c.self.invariant c.args.parcel
    (Accepted c.in_ok-accepted.accepted.id (option_map (λ l. l.id) c.in_ok-accepted.accepted.lost))
    (λ bodies. with_body bodies (as_accepted c.self.inside.half c.args.parcel)) c.enqueue.new.self
    c.in_ok-accepted.ensures.meets (λ why e. cc e) c.of_tid-class.result c.tid-tid.result
    c.station-station.result c.of_tid-class.ensures
    (c.tid-tid.ensures ∙ ap (λ (f : FrameValue). f.tid) c.frame-frame.ensures)
    (c.station-station.ensures ∙ ap (λ (f : FrameValue). f.station) c.frame-frame.ensures)
    (some_octets c.frame-frame.result.now c.args.parcel c.len-octets.result c.frame-frame.ensures
    c.len-octets.ensures.exact c.len-octets.ensures.some)
    (few_octets c.frame-frame.result.now c.args.parcel c.len-octets.result c.frame-frame.ensures
    c.len-octets.ensures.exact c.len-octets.ensures.most)
    (option_map {U = ℕ × ℕ} (λ l. (l.station, l.tid)) c.in_ok-accepted.accepted.lost)
    c.in_ok-accepted.ensures.only c.in-Some.lost.station c.in-Some.lost.tid
    (ap (λ (o : Option Lost). option_map {U = ℕ × ℕ} (λ l. (l.station, l.tid)) o) c.in-Some.is)
    (subst (λ (o : Option Lost). IfSome o (λ l. l.station < c.self.inside.half.flows.stations)) c.in-Some.is
    c.in_ok-accepted.ensures.station) c.of_tid-other.result
    c.of_tid-other.ensures c.set.new.self c.set_other.new.self
    (flag_told c.enqueue.new.self c.self.inside.ready
    c.set.new.self c.args.parcel c.of_tid-class.result c.tid-tid.result c.station-station.result
    c.of_tid-class.ensures (c.tid-tid.ensures ∙ ap (λ (f : FrameValue). f.tid) c.frame-frame.ensures)
    (c.station-station.ensures ∙ ap (λ (f : FrameValue). f.station) c.frame-frame.ensures)
    c.in_ok-accepted.accepted.is_ready c.in_ok-accepted.ensures.ready c.set.ensures) c.set_other.ensures

pub invariant_of-self-in_default : goal.invariant_of-self-in_default
invariant_of-self-in_default c =
    tracked_alone c.self.inside.half c.self.inside.ready c.self.invariant c.args.parcel
    (Accepted c.in_ok-accepted.accepted.id (option_map (λ l. l.id) c.in_ok-accepted.accepted.lost))
    (λ bodies. with_body bodies (as_accepted c.self.inside.half c.args.parcel)) c.enqueue.new.self
    c.in_ok-accepted.ensures.meets (λ why e. cc e) c.of_tid-class.result c.tid-tid.result
    c.station-station.result c.of_tid-class.ensures
    (c.tid-tid.ensures ∙ ap (λ (f : FrameValue). f.tid) c.frame-frame.ensures)
    (c.station-station.ensures ∙ ap (λ (f : FrameValue). f.station) c.frame-frame.ensures)
    (some_octets c.frame-frame.result.now c.args.parcel c.len-octets.result c.frame-frame.ensures
    c.len-octets.ensures.exact c.len-octets.ensures.some)
    (few_octets c.frame-frame.result.now c.args.parcel c.len-octets.result c.frame-frame.ensures
    c.len-octets.ensures.exact c.len-octets.ensures.most)
    (option_map {U = ℕ × ℕ} (λ l. (l.station, l.tid)) c.in_ok-accepted.accepted.lost)
    c.in_ok-accepted.ensures.only
    (ap (λ (o : Option Lost). option_map {U = ℕ × ℕ} (λ l. (l.station, l.tid)) o) c.in_default.is)
    c.set.new.self (flag_told c.enqueue.new.self c.self.inside.ready
    c.set.new.self c.args.parcel c.of_tid-class.result c.tid-tid.result c.station-station.result
    c.of_tid-class.ensures (c.tid-tid.ensures ∙ ap (λ (f : FrameValue). f.tid) c.frame-frame.ensures)
    (c.station-station.ensures ∙ ap (λ (f : FrameValue). f.station) c.frame-frame.ensures)
    c.in_ok-accepted.accepted.is_ready c.in_ok-accepted.ensures.ready c.set.ensures)

pub returns-in_default-clause-unheard : goal.returns-in_default-clause-unheard
returns-in_default-clause-unheard c = accepted_unheard c.self.inside.half c.self.inside.ready
    c.self.invariant c.args.parcel
    (Accepted c.in_ok-accepted.accepted.id (option_map (λ l. l.id) c.in_ok-accepted.accepted.lost))
    (λ bodies. with_body bodies (as_accepted c.self.inside.half c.args.parcel)) c.enqueue.new.self
    c.in_ok-accepted.ensures.meets (λ why e. cc e)

pub returns-clause-unheard : goal.returns-clause-unheard
returns-clause-unheard c = accepted_unheard c.self.inside.half c.self.inside.ready
    c.self.invariant c.args.parcel
    (Accepted c.in_ok-accepted.accepted.id (option_map (λ l. l.id) c.in_ok-accepted.accepted.lost))
    (λ bodies. with_body bodies (as_accepted c.self.inside.half c.args.parcel)) c.enqueue.new.self
    c.in_ok-accepted.ensures.meets (λ why e. cc e)

pub returns-clause-meets : goal.returns-clause-meets
returns-clause-meets c =
    let Met : TransmitValue → Option Lost → Type 0 = λ x o. (w : World) (bodies : ℕ → FrameValue) →
    StandsFor x w bodies → Meets w (with_body bodies (as_accepted x c.args.parcel))
    (enqueue_of c.args.parcel) c.enqueue.new.self
    (Accepted c.in_ok-accepted.accepted.id (option_map (λ l. l.id) o)) in
    subst (λ (x : TransmitValue). Met x (Some c.in-Some.lost)) c.self.view_is
    (subst (λ (o : Option Lost). Met c.self.inside.half o) c.in-Some.is c.in_ok-accepted.ensures.meets)
