-- Proves that the held frames are those without another fate.
use Rattle.std.proofs.Common.{◌≡◌, ◌∙◌, ap, arith}
use Rattle.wf_send_parts.specs.Tally.{Counts, held_in}
use Rattle.wf_frame.specs.declared.classes.Fate.TheVariants.{Held}
use Rattle.wf_law_runs.specs.Tallies.{AddsUp}
use Rattle.wf_law_runs.proofs.Frames.Tallies.{counts_add}
use Rattle.wf_send_half_model.specs.Standing.{counts_in}
use Rattle.wf_def_world.specs.World.{World}
use Rattle.wf_def_world.specs.Text.{tally}

others_less : (w : World) → held_in (counts_in w) ≡ tally w Held
others_less w = let adds : AddsUp w = counts_add w.frames in omega (arith, adds)

pub held_is : (w : World) (c : Counts) → c ≡ counts_in w → held_in c ≡ tally w Held
held_is w c is = ap held_in is ∙ others_less w
