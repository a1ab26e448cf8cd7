-- Proves what `Transmit::octets` promises of worlds: the octets that a TID has in the queues are the world's.
use Rattle.std.proofs.Common.{◌∙◌, ap, sym, subst, arith}
use Rattle.wf_frame.specs.Classes.{tid_number}
use Rattle.wf_queue_flows.specs.Flows.{octets_of_tid}
use Rattle.wf_send_half_model.specs.Half.{TransmitValue}
use Rattle.wf_send_half_model.specs.Standing.{StandsFor}
use Rattle.wf_send_half.specs.declared.transmit.Transmit.TheInside.{Inside}
use Rattle.wf_send_half.proofs.Weighed.{octets_same}
use Rattle.wf_send_half.proofs.transmit.Transmit.octets.Goals as goal

pub returns-clause-world : goal.returns-clause-world
returns-clause-world c w bodies h = c.octets.ensures
    ∙ ap (λ (z : Inside). octets_of_tid z.half.flows (tid_number c.args.station c.args.tid))
    c.self-inside.view_is
    ∙ octets_same c.self.inside.half w bodies
    (subst (λ (z : TransmitValue). StandsFor z w bodies) (sym c.self.view_is) h) c.args.station c.args.tid
    (omega (arith, c.requires.within, ap (λ (z : TransmitValue). z.config.stations) c.self.view_is))
    c.requires.tid
