-- Proves that the loop writes the lines of the BSSs, one BSS per step.
use Rattle.std.proofs.Common.{◌∙◌, ap, arith}
use Rattle.std.specs.Io.KnownBytes.{append_known}
use Rattle.wf_def_world.specs.World.{World}
use Rattle.wf_def_world.specs.Run.{world_of}
use Rattle.wf_def_world.specs.Text.{bss_lines}
use Rattle.wf_io.proofs.FrontLaws.{append_known-append}
use Rattle.wf_report.proofs.ShareLaws.{bsses_below, bsses-more, front_bss}
use Rattle.wf_report.proofs.report.write_bsses.Goals as goal

pub returns-in_err-write_bss-clause-front : goal.returns-in_err-write_bss-clause-front
returns-in_err-write_bss-clause-front g c =
    front_bss (world_of c.args.cell.now.past) c.loop-bss.bss _ _ _
    (omega (arith, c.loop-bss-test.true, c.bsses-bss-end.ensures)) c.loop-bss.invariant.0
    c.write_bss.ensures.front

pub loop-bss-preserved : goal.loop-bss-preserved
loop-bss-preserved g c =
    let w : World = world_of c.args.cell.now.past in (
      c.in_ok-write_bss.ensures.written
          ∙ ap (λ h. append_known h (bss_lines w c.loop-bss.bss)) c.loop-bss.invariant.0
          ∙ append_known-append (g.K.Sink.held c.args.sink.now) (bsses_below w c.loop-bss.bss)
          (bss_lines w c.loop-bss.bss)
          ∙ ap (append_known (g.K.Sink.held c.args.sink.now)) (bsses-more w c.loop-bss.bss),
      c.in_ok-write_bss.ensures.cause.quiet ∙ c.loop-bss.invariant.1,
    )
