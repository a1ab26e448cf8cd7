-- Proves what `Path::can_pull` promises from the clause of `Transmit::can_pull`, since the path represents
-- the worlds that its half represents.
use Rattle.std.proofs.Common.{sym, subst}
use Rattle.wf_send_half_model.specs.Half.{TransmitValue}
use Rattle.wf_send_half_model.specs.Standing.{StandsFor}
use Rattle.wf_path.proofs.Values.{half_is}
use Rattle.wf_path.proofs.path.Path.can_pull.Goals as goal

pub returns : goal.returns
returns c w bodies h = c.can_pull.ensures w bodies
    (subst (λ (u : TransmitValue). StandsFor u w bodies) (sym (half_is c.self.view_is)) h)
