-- Proves what `Half::enqueue` promises. By cases of the checks: the frame is accepted as in the world, or
-- refused for the world's reason.
use Rattle.std.proofs.Common.{◌∙◌, ap, length}
use Rattle.wf_frame.specs.Frames.{FrameValue}
use Rattle.wf_send_half.proofs.Enqueues.{of_frame, enqueue_refused, enqueue_done}
use Rattle.wf_send_half.proofs.half.Half.enqueue.Goals as goal

pub returns-in-Ok-clause-meets : goal.returns-in-Ok-clause-meets
returns-in-Ok-clause-meets c w bodies h =
    enqueue_done c.args.self.now w bodies h c.args.parcel c.accept.new.self _ _ c.accept.ensures.accepted
    c.accept.ensures.id c.accept.ensures.dropped c.accept.ensures.source c.accept.ensures.length
    (of_frame w c.args.parcel c.station.result c.tid.result _
    (c.station.ensures ∙ ap (λ (f : FrameValue). f.station) c.frame-frame.ensures)
    (c.tid.ensures ∙ ap (λ (f : FrameValue). f.tid) c.frame-frame.ensures)
    (c.in-Ok.ensures.refused w bodies c.args.parcel.flow (length c.args.parcel.body) h))

pub returns-in-Err-clause-refuses : goal.returns-in-Err-clause-refuses
returns-in-Err-clause-refuses c w bodies h =
    enqueue_refused c.args.self.now w bodies h c.args.parcel c.in-Err.reason
    (of_frame w c.args.parcel c.station.result c.tid.result _
    (c.station.ensures ∙ ap (λ (f : FrameValue). f.station) c.frame-frame.ensures)
    (c.tid.ensures ∙ ap (λ (f : FrameValue). f.tid) c.frame-frame.ensures)
    (c.in-Err.ensures.refused w bodies c.args.parcel.flow (length c.args.parcel.body) h))
