-- Proves that the path returns the counts that the world has.
use Rattle.wf_def_world.specs.Run.{world_of}
use Rattle.wf_report.proofs.Cells.{bss_within}
use Rattle.wf_report.proofs.standing.group_counts.Goals as goal

pub group_counts-requires : goal.group_counts-requires
group_counts-requires c =
    let stands = c.path.ensures.stands in
    rw (c.path.ensures.value)
    (bss_within _ (world_of c.args.cell.now.past) stands.0 c.args.bss stands.1 c.requires)

pub returns : goal.returns
returns c =
    let stands = c.path.ensures.stands in
    c.group_counts.ensures.world (world_of c.args.cell.now.past) stands.0
    (rw (c.path.ensures.value) stands.1)
