-- Proves what `Transmit::is_any_asleep` promises of a world: the half and the world agree on who sleeps.
use Rattle.std.proofs.Common.{ap, ◌∙◌}
use Rattle.wf_send_half_model.specs.Half.{TransmitValue, is_any_asleep_of}
use Rattle.wf_send_half_model.proofs.Groups.{any_asleep_same}
use Rattle.wf_send_half.proofs.transmit.Transmit.is_any_asleep.Goals as goal

pub returns-clause-world : goal.returns-clause-world
returns-clause-world c w bodies h = c.is_any_asleep.ensures
    ∙ ap (λ (v : TransmitValue). is_any_asleep_of v c.args.bss) c.self.view_is
    ∙ any_asleep_same c.args.self.now w bodies h.parts c.args.bss
