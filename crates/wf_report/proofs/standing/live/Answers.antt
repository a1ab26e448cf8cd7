-- Proves that a station is live on the path if and only if it is live in the world.
use Rattle.wf_def_world.specs.Run.{world_of}
use Rattle.wf_report.proofs.standing.live.Goals as goal

pub returns : goal.returns
returns c =
    let stands = c.path.ensures.stands in
    c.live.ensures.world (world_of c.args.cell.now.past) stands.0 (rw (c.path.ensures.value) stands.1)
