-- Proves that a new engine represents the opening world.
use Rattle.wf_frame.proofs.Ranges.{in_range}
use Rattle.wf_cell.proofs.News.{new_engine}
use Rattle.wf_cell.proofs.engine.Engine.new.Goals as goal

pub new-requires : goal.new-requires
new-requires c = (in_range c.args.config c.requires).stations.1

pub returns-in-Ok : goal.returns-in-Ok
returns-in-Ok c = λ bodies.
    new_engine c.in-Ok.path.half c.args.config c.in_ok-peers.peers c.in_ok-marks.marks bodies
    c.in_ok-peers.ensures
    c.in_ok-marks.ensures (c.in-Ok.ensures.stands bodies)
