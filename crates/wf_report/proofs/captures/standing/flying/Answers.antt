-- Proves that the path returns the group frame of the BSS that is on the air in the world.
use Rattle.wf_report.specs.Samples.{world_behind}
use Rattle.wf_report.proofs.Cells.{bss_within}
use Rattle.wf_report.proofs.captures.standing.flying.Goals as goal

pub group_frame-requires : goal.group_frame-requires
group_frame-requires c =
    let stands = c.path.ensures.stands in
    rw (c.path.ensures.value)
    (bss_within _ (world_behind c.args.cell.now) stands.0 c.args.bss stands.1 c.requires)

pub returns : goal.returns
returns c =
    let stands = c.path.ensures.stands in
    c.group_frame.ensures.world (world_behind c.args.cell.now) stands.0 (rw (c.path.ensures.value) stands.1)
