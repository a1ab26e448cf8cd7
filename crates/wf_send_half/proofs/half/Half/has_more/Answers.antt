-- Proves what `Half::has_more` promises: the set has the classes that pass the test.
use Rattle.std.proofs.Common.{◌∙◌}
use Rattle.wf_send_parts.specs.Sleepers.{is_polled_in}
use Rattle.wf_send_half.proofs.More.{more_by_test}
use Rattle.wf_send_half.proofs.half.Half.has_more.Goals as goal

pub returns : goal.returns
returns c = c.has_more_in.ensures ∙ more_by_test c.args.self.now _ c.self.view_is c.args.station c.at.result
    c.polled.result is_polled_in c.at.ensures c.polled.ensures
