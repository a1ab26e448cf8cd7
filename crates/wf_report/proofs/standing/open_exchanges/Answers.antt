-- Proves that the path returns the number of open exchanges that the world has.
use Rattle.std.proofs.Common.{◌∙◌}
use Rattle.wf_def_world.specs.Run.{world_of}
use Rattle.wf_report.proofs.standing.open_exchanges.Goals as goal

pub returns : goal.returns
returns c =
    let stands = c.path.ensures.stands in
    c.from.ensures ∙ c.open_count.ensures.world (world_of c.args.cell.now.past) stands.0
    (rw (c.path.ensures.value) stands.1)
