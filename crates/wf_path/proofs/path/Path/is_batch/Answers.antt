-- Proves what `Path::is_batch` promises. By cases: the exchange is not open, or it is a batch exactly if the
-- world's exchange is one.
use Rattle.wf_path.proofs.Inside.{stands_inside}
use Rattle.wf_path.proofs.Opened.{none_batch, some_batch}
use Rattle.wf_path.proofs.path.Path.is_batch.Goals as goal

pub returns-in-Some : goal.returns-in-Some
returns-in-Some c w bodies h = some_batch c.self.inside.half w bodies
    (stands_inside c.self.view_is w bodies h) c.args.exchange c.in-Some.open.now c.in-Some.ensures

pub returns-in-None : goal.returns-in-None
returns-in-None c w bodies h = none_batch c.self.inside.half w bodies
    (stands_inside c.self.view_is w bodies h) c.args.exchange c.in-None.ensures
