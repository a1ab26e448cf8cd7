-- Proves what `Path::sent` promises. By cases: the exchange is not open, or it agrees with the world's
-- exchange.
use Rattle.std.proofs.Common.{◌∙◌}
use Rattle.wf_path.proofs.Opened.{none_sent, some_sent}
use Rattle.wf_path.proofs.Inside.{stands_inside}
use Rattle.wf_path.proofs.path.Path.sent.Goals as goal

pub returns-in_err-open : goal.returns-in_err-open
returns-in_err-open c w bodies h = c.from_residual.ensures
    ∙ none_sent c.self.inside.half w bodies (stands_inside c.self.view_is w bodies h) c.args.exchange
    c.in_err-open.ensures

pub returns : goal.returns
returns c w bodies h = some_sent c.self.inside.half w bodies (stands_inside c.self.view_is w bodies h)
    c.args.exchange c.in_ok-open.open.now c.count.result c.is_request.result c.in_ok-open.ensures
    c.count.ensures.count c.is_request.ensures
