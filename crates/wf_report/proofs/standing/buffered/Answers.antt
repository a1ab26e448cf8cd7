-- Proves that the path returns the setting that the world has.
use Rattle.std.proofs.Common.{ap}
use Rattle.wf_frame.specs.declared.settings.Config.{Config}
use Rattle.wf_def_world.specs.Run.{world_of}
use Rattle.wf_report.proofs.standing.buffered.Goals as goal

pub returns : goal.returns
returns c =
    let stands = c.path.ensures.stands in
    ap (λ (s : Config). s.buffered) (c.config.ensures.world (world_of c.args.cell.now.past) stands.0
    (rw (c.path.ensures.value) stands.1))
