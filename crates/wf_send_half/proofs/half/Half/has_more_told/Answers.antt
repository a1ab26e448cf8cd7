-- Proves what `Half::has_more_told` promises: the set has the classes that pass the test.
use Rattle.std.proofs.Common.{◌∙◌}
use Rattle.wf_send_parts.specs.Sleepers.{is_told_in}
use Rattle.wf_send_half.proofs.More.{more_by_test}
use Rattle.wf_send_half.proofs.half.Half.has_more_told.Goals as goal

pub returns : goal.returns
returns c = c.has_more_in.ensures ∙ more_by_test c.args.self.now _ c.self.view_is c.args.station c.at.result
    c.told.result (λ y. is_told_in y c.args.class) c.at.ensures c.told.ensures
