-- Proves that the path returns the number of exchanges that the world has.
use Rattle.wf_def_world.specs.Run.{world_of}
use Rattle.wf_report.proofs.standing.exchanges.Goals as goal

pub returns : goal.returns
returns c =
    let stands = c.path.ensures.stands in
    c.exchanges.ensures.world (world_of c.args.cell.now.past) stands.0 (rw (c.path.ensures.value) stands.1)
