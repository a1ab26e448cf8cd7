-- Proves that the four words are appended from the last to the first.
use Rattle.std.specs.Prelude.{slice_index}
use Rattle.wf_def_world.specs.Text.{hex}
use Rattle.wf_report.proofs.Rows.{four}
use Rattle.wf_report.proofs.reply.push_wide.Goals as goal

pub returns-clause-text : goal.returns-clause-text
returns-clause-text c =
    rw (
      c.push_hex-4.ensures.digits,
      c.push_hex-3.ensures.digits,
      c.push_hex-2.ensures.digits,
      c.push_hex.ensures.digits,
    )
    (four c.args.out.now (hex 16 (slice_index c.args.words.now 3)) (hex 16 (slice_index c.args.words.now 2))
    (hex 16 (slice_index c.args.words.now 1)) (hex 16 (slice_index c.args.words.now 0)))
