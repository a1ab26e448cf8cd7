-- Proves what `Path::is_unsent` promises. By cases: the exchange is not open, or its marks equal those of the
-- world's exchange.
use Rattle.std.proofs.Common.{◌∙◌}
use Rattle.wf_path.proofs.Inside.{stands_inside}
use Rattle.wf_path.proofs.Opened.{none_unsent, some_unsent}
use Rattle.wf_path.proofs.path.Path.is_unsent.Goals as goal

pub returns-in-Some : goal.returns-in-Some
returns-in-Some c w bodies h = c.has.ensures
    ∙ some_unsent c.self.inside.half w bodies (stands_inside c.self.view_is w bodies h) c.args.exchange
    c.args.index c.in-Some.open.now c.in-Some.ensures

pub returns-in-None : goal.returns-in-None
returns-in-None c w bodies h =
    none_unsent c.self.inside.half w bodies (stands_inside c.self.view_is w bodies h) c.args.exchange
    c.args.index
    c.in-None.ensures
