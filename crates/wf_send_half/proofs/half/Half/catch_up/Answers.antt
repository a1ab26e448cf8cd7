-- Proves what `Half::catch_up` promises. By cases of the TID, which has an agreement or not.
use Rattle.std.proofs.Common.{ap, sym, ◌∙◌}
use Rattle.wf_def_world.specs.World.{has_agreement}
use Rattle.wf_send_parts.specs.declared.stations.modes.Mode.{Mode}
use Rattle.wf_send_parts.specs.Modes.{as_mode}
use Rattle.wf_send_half.proofs.CallSteps.{view_of}
use Rattle.wf_send_half.proofs.Catching.{plain_caught, none_caught}
use Rattle.wf_send_half.proofs.half.Half.catch_up.Goals as goal

pub returns-then-not-is_agreed-clause-caught_up : goal.returns-then-not-is_agreed-clause-caught_up
returns-then-not-is_agreed-clause-caught_up c =
    plain_caught (view_of c.self.inside) c.args.self.now c.self.view_is c.args.station c.args.tid
    c.requires.tid
    (ap (λ (m : Mode). has_agreement (as_mode m)) (sym c.at.ensures)
    ∙ sym c.is_agreed.ensures ∙ c.if-not-is_agreed.true) c.catch_up.new.self
    c.catch_up.ensures.room c.catch_up.ensures.others c.catch_up.ensures.stands

pub returns-else-not-is_agreed-clause-caught_up : goal.returns-else-not-is_agreed-clause-caught_up
returns-else-not-is_agreed-clause-caught_up c =
    none_caught (view_of c.self.inside) c.args.self.now c.self.view_is c.args.station c.args.tid
    c.requires.tid
    (ap (λ (m : Mode). has_agreement (as_mode m)) (sym c.at.ensures)
    ∙ sym c.is_agreed.ensures ∙ c.if-not-is_agreed.false)
