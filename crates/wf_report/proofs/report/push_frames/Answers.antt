-- Proves that the words and the counts are the line of the frames.
use Rattle.std.proofs.Common.{◌∷◌, [], ◌∙◌}
use Rattle.std.specs.Prelude.{codes, decimal}
use Rattle.wf_frame.specs.declared.classes.Cause.TheVariants.{Overlimit, Codel, Retries, Left, Flushed, Ended}
use Rattle.wf_frame.specs.declared.classes.Fate.TheVariants.{Held, Acked, Dropped}
use Rattle.wf_def_world.specs.World.{World, accepted_count}
use Rattle.wf_def_world.specs.Run.{world_of}
use Rattle.wf_def_world.specs.Text.{tally, tally_if_any}
use Rattle.wf_report.proofs.Rows.{line_of_rows}
use Rattle.wf_report.proofs.report.push_frames.Goals as goal

pub returns-clause-text : goal.returns-clause-text
returns-clause-text c =
    let counted = c.tally-tally.ensures in
    let w : World = world_of c.args.cell.now.past in
    rw (
      c.push.ensures,
      c.push_dropped-2.ensures.text,
      c.push_dropped.ensures.text,
      c.push_words.ensures.text,
      c.push_all.ensures.octets,
      c.held.ensures.held ∙ counted.held,
      counted.accepted,
      counted.acked,
      counted.overlimit,
      counted.codel,
      counted.retries,
      counted.left,
      counted.flushed,
      counted.ended,
    )
    (line_of_rows c.args.out.now (codes "frames")
    (decimal (accepted_count w)
    ∷ codes "acked" ∷ decimal (tally w Acked)
    ∷ codes "overlimit" ∷ decimal (tally w (Dropped Overlimit))
    ∷ codes "codel" ∷ decimal (tally w (Dropped Codel))
    ∷ codes "retries" ∷ decimal (tally w (Dropped Retries))
    ∷ codes "left" ∷ decimal (tally w (Dropped Left))
    ∷ codes "held" ∷ decimal (tally w Held) ∷ [])
    (tally_if_any w (Dropped Flushed)) (tally_if_any w (Dropped Ended)))
