-- Proves what `Half::accept` promises from the clauses of its steps: the frame is put in a queue and counted,
-- and its station is listed.
use Rattle.std.proofs.Common.{◌≡◌, ◌<◌, ◌∙◌, ℕ, true, Some, sym, ap, ap₂, subst}
use Rattle.std.specs.Prelude.{IfSome, option_map}
use Rattle.wf_queue_flows.specs.Flows.{loses_next}
use Rattle.wf_frame.specs.Classes.{class_of}
use Rattle.wf_frame.specs.Frames.{FrameValue}
use Rattle.wf_send_half_model.specs.Half.{TransmitValue, is_ready_of}
use Rattle.wf_send_half.specs.Half.{HasWorld}
use Rattle.wf_send_half.proofs.CallSteps.{view_of}
use Rattle.wf_send_half.proofs.Enqueues.{held_few, accepted_is}
use Rattle.wf_send_half.proofs.half.Half.accept.Goals as goal

pub put-lost-requires-clause-room : goal.put-lost-requires-clause-room
put-lost-requires-clause-room c =
    held_few (view_of c.self.inside) (subst HasWorld (sym c.self.view_is) c.requires.some)
    (subst (λ (z : TransmitValue). z.inside < z.config.room) (sym c.self.view_is) c.requires.room)

pub returns-clause-accepted : goal.returns-clause-accepted
returns-clause-accepted c =
    accepted_is c.args.self.now (view_of c.self.inside) c.self.view_is c.args.parcel c.marked.result
    c.station-station.result c.of_tid-class.result c.put-lost.new.self
    (option_map (λ l. l.id) c.put-lost.result) _ c.list_in-is_ready.new.self
    c.marked.ensures.marked
    (c.station-station.ensures ∙ ap (λ (f : FrameValue). f.station) c.frame-frame.ensures)
    (c.of_tid-class.ensures
    ∙ ap class_of (c.tid.ensures ∙ ap (λ (f : FrameValue). f.tid) c.frame-frame.ensures))
    c.put-lost.ensures.put c.put-lost.ensures.dropped c.count_accepted.ensures
    c.list_in-is_ready.ensures.listed

pub returns-clause-ready : goal.returns-clause-ready
returns-clause-ready c =
    c.list_in-is_ready.ensures.ready
    ∙ ap₂ (is_ready_of c.list_in-is_ready.new.self)
    (c.of_tid-class.ensures
    ∙ ap class_of (c.tid.ensures ∙ ap (λ (f : FrameValue). f.tid) c.frame-frame.ensures))
    (c.station-station.ensures ∙ ap (λ (f : FrameValue). f.station) c.frame-frame.ensures)

pub returns-clause-station : goal.returns-clause-station
returns-clause-station c = subst (λ (z : TransmitValue).
    IfSome c.put-lost.result (λ l. l.station < z.flows.stations)) c.self.view_is
    c.put-lost.ensures.station

pub returns-clause-loses : goal.returns-clause-loses
returns-clause-loses c = subst (λ (z : TransmitValue).
    IfSome c.put-lost.result (λ l. loses_next z.flows l.station l.tid ≡ true)) c.self.view_is
    c.put-lost.ensures.loses

pub returns-clause-only : goal.returns-clause-only
returns-clause-only c = subst (λ (z : TransmitValue). (s t : ℕ) → t < 8 → loses_next z.flows s t ≡ true →
    option_map {U = ℕ × ℕ} (λ l. (l.station, l.tid)) c.put-lost.result ≡ Some (s, t)) c.self.view_is
    c.put-lost.ensures.only
