-- Proves that the number of BSSs comes from the settings and fits in 8 bits.
use Rattle.std.proofs.Common.{arith}
use Rattle.wf_def_world.specs.Run.{world_of}
use Rattle.wf_report.proofs.standing.bsses.Goals as goal

pub overflow_cast-result : goal.overflow_cast-result
overflow_cast-result c =
    let stands = c.path.ensures.stands in
    let is = c.bss_count.ensures.world (world_of c.args.cell.now.past) stands.0
    (rw (c.path.ensures.value) stands.1) in
    omega (arith, is, stands.1.reached.in_range.bsses.1)

pub returns : goal.returns
returns c =
    let stands = c.path.ensures.stands in
    c.bss_count.ensures.world (world_of c.args.cell.now.past) stands.0 (rw (c.path.ensures.value) stands.1)
