-- Proves that the path returns the next sequence number of the BSS in the world.
use Rattle.std.proofs.Common.{ap}
use Rattle.wf_send_parts.specs.declared.group.GroupCounts.{GroupCounts}
use Rattle.wf_report.specs.Samples.{world_behind}
use Rattle.wf_report.proofs.Cells.{bss_within}
use Rattle.wf_report.proofs.captures.standing.numbers.Goals as goal

pub group_counts-requires : goal.group_counts-requires
group_counts-requires c =
    let stands = c.path.ensures.stands in
    rw (c.path.ensures.value)
    (bss_within _ (world_behind c.args.cell.now) stands.0 c.args.bss stands.1 c.requires)

pub returns : goal.returns
returns c =
    let stands = c.path.ensures.stands in
    ap (λ (n : GroupCounts). n.numbers) (c.group_counts.ensures.world (world_behind c.args.cell.now) stands.0
    (rw (c.path.ensures.value) stands.1))
