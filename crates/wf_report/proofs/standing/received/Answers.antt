-- Proves that the path returns the receive airtime that the world has.
use Rattle.std.proofs.Common.{◌∙◌}
use Rattle.wf_def_world.specs.Run.{world_of}
use Rattle.wf_send_half_model.proofs.Readers.{live_same}
use Rattle.wf_report.proofs.standing.received.Goals as goal

pub received-requires : goal.received-requires
received-requires c =
    let stands = c.path.ensures.stands in
    record {
      live = rw (c.path.ensures.value) (live_same _ _ stands.0 c.args.station stands.1.parts
          ∙ c.requires);
    }

pub returns : goal.returns
returns c =
    let stands = c.path.ensures.stands in
    c.received.ensures.world (world_of c.args.cell.now.past) stands.0 (rw (c.path.ensures.value) stands.1)
