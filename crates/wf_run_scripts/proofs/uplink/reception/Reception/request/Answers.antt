-- Proves that the text of a request's call is written, and that the call lacks room if a total has reached
-- its bound.
use Rattle.std.proofs.Common.{[], ◌∷◌, sym, ◌∙◌, ap}
use Rattle.wf_uplink.specs.World.{World, Request}
use Rattle.wf_run_scripts.specs.UplinkAnswers.{calls_text, request_line}
use Rattle.wf_run_scripts.proofs.UplinkCalls.{request_text, refused_text}
use Rattle.wf_run_scripts.proofs.UplinkRoom.{request_lacks}
use Rattle.wf_run_scripts.proofs.UplinkWriting.{on_err, wrote_as, front_as}
use Rattle.wf_run_scripts.proofs.uplink.reception.Reception.request.Goals as goal
use Rattle.wf_run_scripts.proofs.uplink.reception.Reception.request.Goals.{in-Ok, in-Err}

pub returns-then-not-has_room-clause-memory : goal.returns-then-not-has_room-clause-memory
returns-then-not-has_room-clause-memory g c = λ is.
    request_lacks c.args.self.now c.args.octets.now []
    (sym c.has_room.ensures.exactly ∙ c.if-not-has_room.true)

pub returns-clause-written : goal.returns-clause-written
returns-clause-written g c =
    let same = ap (λ (v : World). calls_text v (Request c.args.octets.now ∷ [])) c.self.view_is in
    elim c.match-request.branch [
      | in-Ok w ↦
          wrote_as c.match-request.result w.write_request.result (g.K.Sink.held c.args.sink.now)
          (g.K.Sink.held c.match-request.sink) (g.K.Sink.held w.write_request.new.sink)
          (request_line c.request.new.up w.in-Ok.bitmap)
          (calls_text c.args.self.now (Request c.args.octets.now ∷ [])) w.result-is
          (ap g.K.Sink.held w.sink-is)
          (sym (request_text c.self.inside.uplink c.args.octets.now c.request.new.up w.in-Ok.bitmap
          (sym w.in-Ok.ensures.fault) w.in-Ok.ensures.up w.in-Ok.ensures.bitmap) ∙ same)
          w.write_request.ensures.written
      | in-Err w ↦
          wrote_as c.match-request.result w.write_line.result (g.K.Sink.held c.args.sink.now)
          (g.K.Sink.held c.match-request.sink) (g.K.Sink.held w.write_line.new.sink)
          w.print_request_fault.new.out
          (calls_text c.args.self.now (Request c.args.octets.now ∷ [])) w.result-is
          (ap g.K.Sink.held w.sink-is)
          (w.print_request_fault.ensures
          ∙ sym (refused_text c.self.inside.uplink c.args.octets.now w.in-Err.fault
          (sym w.in-Err.ensures.fault)) ∙ same)
          w.write_line.ensures.written
    ]

pub returns-clause-front : goal.returns-clause-front
returns-clause-front g c =
    let same = ap (λ (v : World). calls_text v (Request c.args.octets.now ∷ [])) c.self.view_is in
    elim c.match-request.branch [
      | in-Ok w ↦
          front_as c.match-request.result w.write_request.result (g.K.Sink.held c.args.sink.now)
          (g.K.Sink.held c.match-request.sink) (g.K.Sink.held w.write_request.new.sink)
          (request_line c.request.new.up w.in-Ok.bitmap)
          (calls_text c.args.self.now (Request c.args.octets.now ∷ [])) w.result-is
          (ap g.K.Sink.held w.sink-is)
          (sym (request_text c.self.inside.uplink c.args.octets.now c.request.new.up w.in-Ok.bitmap
          (sym w.in-Ok.ensures.fault) w.in-Ok.ensures.up w.in-Ok.ensures.bitmap) ∙ same)
          w.write_request.ensures.front
      | in-Err w ↦
          front_as c.match-request.result w.write_line.result (g.K.Sink.held c.args.sink.now)
          (g.K.Sink.held c.match-request.sink) (g.K.Sink.held w.write_line.new.sink)
          w.print_request_fault.new.out
          (calls_text c.args.self.now (Request c.args.octets.now ∷ [])) w.result-is
          (ap g.K.Sink.held w.sink-is)
          (w.print_request_fault.ensures
          ∙ sym (refused_text c.self.inside.uplink c.args.octets.now w.in-Err.fault
          (sym w.in-Err.ensures.fault)) ∙ same)
          (on_err w.write_line.result _ w.write_line.ensures.front)
    ]
