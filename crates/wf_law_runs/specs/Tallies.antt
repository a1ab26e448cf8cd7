-- Defines the law of tallies: each accepted frame has exactly one fate, so the counts of frames by fate add
-- up.
use Rattle.std.specs.Prelude.{◌≡◌, ℕ, ◌+◌, List}
use Rattle.wf_frame.specs.declared.settings.Config.{Config}
use Rattle.wf_frame.specs.declared.classes.Cause.TheVariants.{Overlimit, Codel, Retries, Left, Flushed, Ended}
use Rattle.wf_frame.specs.declared.classes.Fate.TheVariants.{Held, Acked, Dropped}
use Rattle.wf_def_world.specs.World.{World, accepted_count}
use Rattle.wf_def_world.specs.Run.{Entry}
use Rattle.wf_def_world.specs.Text.{tally}
use Rattle.wf_def_world.specs.Stretches.{world_at}

-- The number of accepted frames is the sum of those acknowledged, those dropped for each cause, and those
-- held.
abbrev pub AddsUp : World → Type 0
AddsUp w =
    accepted_count w
    ≡ tally w Acked + tally w (Dropped Overlimit) + tally w (Dropped Codel) + tally w
    (Dropped Retries) + tally w (Dropped Left) + tally w (Dropped Flushed)
    + tally w (Dropped Ended) + tally w Held

-- The law: `AddsUp` holds after each entry of a history.
abbrev pub TallyLaw : Config → List Entry → Type 0
TallyLaw config history = (m : ℕ) → AddsUp (world_at config history m)
