-- Proves what `Transmit::queues` promises of worlds: the settings of the flow queues are the world's.
use Rattle.std.proofs.Common.{◌∙◌, ap, sym, subst}
use Rattle.wf_queue_flows.specs.Flows.{queues}
use Rattle.wf_send_half_model.specs.Half.{TransmitValue}
use Rattle.wf_send_half_model.specs.Standing.{StandsFor}
use Rattle.wf_send_half.specs.declared.transmit.Transmit.TheInside.{Inside}
use Rattle.wf_send_half.proofs.Weighed.{queues_same}
use Rattle.wf_send_half.proofs.transmit.Transmit.queues.Goals as goal

pub returns-clause-world : goal.returns-clause-world
returns-clause-world c w bodies h = c.queues.ensures
    ∙ ap (λ (z : Inside). queues z.half.flows) c.self-inside.view_is
    ∙ queues_same c.self.inside.half w bodies
    (subst (λ (z : TransmitValue). StandsFor z w bodies) (sym c.self.view_is) h)
