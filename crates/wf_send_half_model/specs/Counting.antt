-- Defines how a frame dropped for the limit changes the counts.
use Rattle.std.specs.Prelude.{ℕ, Option, Some, None}
use Rattle.wf_frame.specs.declared.classes.Cause.TheVariants.{Overlimit}
use Rattle.wf_frame.specs.declared.classes.Fate.TheVariants.{Dropped}
use Rattle.wf_send_parts.specs.Tally.{Counts, settled_as}

-- the counts after an enqueue dropped this frame, if it dropped one
abbrev pub with_overlimit : Option ℕ → Counts → Counts
with_overlimit None c = c
with_overlimit (Some id) c = settled_as (Dropped Overlimit) c
