-- Proves what `Transmit::octets_of` promises: a queue's frames are the world's.
use Rattle.std.proofs.Common.{◌∙◌, ap, sym, subst}
use Rattle.wf_queue_flows.specs.Backlog.{frames_at, queue_octets}
use Rattle.wf_send_half_model.specs.Half.{TransmitValue}
use Rattle.wf_send_half_model.specs.Standing.{StandsFor}
use Rattle.wf_send_half.specs.declared.transmit.Transmit.TheInside.{Inside}
use Rattle.wf_send_half.proofs.Weighed.{octets_of_same}
use Rattle.wf_send_half.proofs.transmit.Transmit.octets_of.Goals as goal

pub returns : goal.returns
returns c w bodies h = c.octets_of.ensures
    ∙ ap (λ (z : Inside). queue_octets (frames_at z.half.flows.backlog c.args.q)) c.self-inside.view_is
    ∙ octets_of_same c.self.inside.half w bodies
    (subst (λ (z : TransmitValue). StandsFor z w bodies) (sym c.self.view_is) h) c.args.q
