-- Proves that the number of stations comes from the settings and fits in 16 bits.
use Rattle.std.proofs.Common.{ap, arith}
use Rattle.wf_frame.specs.declared.settings.Config.{Config}
use Rattle.wf_def_world.specs.Run.{world_of}
use Rattle.wf_report.proofs.standing.stations.Goals as goal

pub overflow_cast-result : goal.overflow_cast-result
overflow_cast-result c =
    let stands = c.path.ensures.stands in
    let is = ap (λ (s : Config). s.stations) (c.config.ensures.world (world_of c.args.cell.now.past) stands.0
    (rw (c.path.ensures.value) stands.1)) in
    omega (arith, is, stands.1.reached.in_range.stations.1)

pub returns : goal.returns
returns c =
    let stands = c.path.ensures.stands in
    ap (λ (s : Config). s.stations) (c.config.ensures.world (world_of c.args.cell.now.past) stands.0
    (rw (c.path.ensures.value) stands.1))
