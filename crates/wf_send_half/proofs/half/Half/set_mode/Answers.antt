-- Proves what `Half::set_mode` promises from what each part does.
use Rattle.std.proofs.Common.{ap, ◌∙◌, List}
use Rattle.wf_send_parts.specs.declared.stations.modes.Mode.{Mode}
use Rattle.wf_send_half_model.specs.Half.{TransmitValue}
use Rattle.wf_send_half_model.specs.Changes.{after_listing, after_mode}
use Rattle.wf_send_half.proofs.CallSteps.{view_of}
use Rattle.wf_send_half.proofs.half.Half.set_mode.Goals as goal

pub returns : goal.returns
returns c =
    c.list.ensures
    ∙ ap (λ (l : List Mode). after_listing (record (view_of c.self.inside) { modes = l }) c.args.station)
    c.set.ensures.set
    ∙ ap (λ (z : TransmitValue). after_listing (after_mode z c.args.station c.args.tid c.args.mode)
    c.args.station) c.self.view_is
