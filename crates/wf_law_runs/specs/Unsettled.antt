-- Defines the law of unsettled numbers: how many numbers of a TID may be open at a time, by the settings
-- `inflight` and `agg`. So a TID never has more numbers that wait or are on the air than the exchanges that a
-- class may have open at a time can send.
use Rattle.std.specs.Prelude.{ℕ, ◌*◌, ◌≤◌, List}
use Rattle.wf_frame.specs.declared.settings.Config.{Config}
use Rattle.wf_def_world.specs.World.{tid_of}
use Rattle.wf_def_world.specs.Run.{Entry}
use Rattle.wf_def_world.specs.Stretches.{world_at}
use Rattle.wf_law_runs.specs.Room.{unsettled_of}

-- The most numbers of a TID that wait or are on the air: `inflight` times `agg`.
abbrev pub most_unsettled : Config → ℕ
most_unsettled config = config.inflight * config.agg

-- The law: after each entry of a history, no TID has more. A station that is not live, and a TID that no
-- station has, have none.
abbrev pub UnsettledLaw : Config → List Entry → Type 0
UnsettledLaw config history =
    (m s t : ℕ) → unsettled_of (tid_of (world_at config history m) s t) ≤ most_unsettled config
