-- Proves what `Transmit::in_flight` promises: the half's open exchanges are the world's.
use Rattle.std.proofs.Common.{◌∙◌, sym, subst}
use Rattle.wf_send_half_model.specs.Half.{TransmitValue}
use Rattle.wf_send_half_model.specs.Standing.{StandsFor}
use Rattle.wf_send_half_model.proofs.Readers.{airtime_to_same}
use Rattle.wf_send_half.proofs.transmit.Transmit.in_flight.Goals as goal

pub returns-clause-world : goal.returns-clause-world
returns-clause-world c w bodies h = c.in_flight.ensures
    ∙ airtime_to_same c.self.inside.half w bodies c.args.station c.args.class
    (subst (λ (z : TransmitValue). StandsFor z w bodies) (sym c.self.view_is) h).parts
