-- Proves the contract of `Window::unsend`: the place still flies, and its frame takes one attempt back.
use Rattle.std.proofs.Common.{◌∙◌, ap, Some, set}
use Rattle.wf_frame.specs.Frames.{FrameValue, sent_once_less}
use Rattle.wf_send_parts.specs.Ring.{RingValue}
use Rattle.wf_send_parts.specs.declared.window.place.Place.TheVariants.{Flying as Flies}
use Rattle.wf_send_parts.proofs.Steps.{unsend_step, with_items}
use Rattle.wf_send_parts.proofs.window.window.Window.unsend.Goals as goal

pub returns-clause-stands : goal.returns-clause-stands
returns-clause-stands c s bodies n stands number own =
    let q = c.self.inside in
    let w = c.take_flying-parcel in
    let r : RingValue = w.new.ring in
    unsend_step q.size q.start q.passed q.ring r c.replace.new.self c.args.self.now
    c.self.view_is c.from-i.result c.args.seq
    (c.from-i.ensures ∙ c.ahead.ensures.number) w.result.2 w.result.1 w.result.0 w.ensures.found
    w.ensures.changed (c.replace.ensures.changed ∙ ap (λ (f : FrameValue). with_items r
    (set r.items c.from-i.result (Some (Flies f w.result.1 w.result.2))))
    (c.unsend.ensures ∙ ap sent_once_less c.frame_mut.ensures.value))
    s bodies n stands number own
