-- Proves what `Path::is_plain` promises. By cases: the exchange is not open, or it is plain exactly if the
-- world's exchange is.
use Rattle.wf_path.proofs.Inside.{stands_inside}
use Rattle.wf_path.proofs.Opened.{none_plain, some_plain}
use Rattle.wf_path.proofs.path.Path.is_plain.Goals as goal

pub returns-in-Some : goal.returns-in-Some
returns-in-Some c w bodies h = some_plain c.self.inside.half w bodies
    (stands_inside c.self.view_is w bodies h) c.args.exchange c.in-Some.open.now c.in-Some.ensures

pub returns-in-None : goal.returns-in-None
returns-in-None c w bodies h = none_plain c.self.inside.half w bodies
    (stands_inside c.self.view_is w bodies h) c.args.exchange c.in-None.ensures
