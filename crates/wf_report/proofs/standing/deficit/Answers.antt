-- Proves that the path returns the deficit that the world has.
use Rattle.std.proofs.Common.{◌≡◌, ◌∙◌, arith}
use Rattle.std.proofs.lemmas.Int.{ints}
use mir.Val.{to_z, of_z}
use mir.Syntax.{w64}
use Rattle.wf_def_world.specs.Run.{world_of}
use Rattle.wf_send_half_model.proofs.Readers.{live_same}
use Rattle.wf_report.proofs.standing.deficit.Goals as goal

pub deficit-requires : goal.deficit-requires
deficit-requires c =
    let stands = c.path.ensures.stands in
    record {
      live = rw (c.path.ensures.value) (live_same _ _ stands.0 c.args.station stands.1.parts
          ∙ c.requires);
    }

pub returns : goal.returns
returns c =
    let stands = c.path.ensures.stands in
    let plain : to_z w64 (of_z w64 c.deficit.result) ≡ c.deficit.result = omega (arith, ints) in
    plain ∙ c.deficit.ensures.world (world_of c.args.cell.now.past) stands.0
    (rw (c.path.ensures.value) stands.1)
