-- Defines the calls that one caller made in a history, with the replies to them.
use Rattle.std.specs.Prelude.{ℕ, ◌==◌, List, [], ◌∷◌, if◌then◌else◌}
use Rattle.wf_def_world.specs.World.{World}
use Rattle.wf_def_world.specs.Step.{Outcome, step}
use Rattle.wf_def_world.specs.Run.{Entry}
use Rattle.wf_run_histories.specs.Workloads.{Made}

-- The calls of a caller among these entries, in order, each with its reply; w is the world before the first
-- entry.
unfoldable pub made_by : ℕ → World → List Entry → List Made
made_by caller w [] = []
made_by caller w (e ∷ es) =
    let o : Outcome = step w e.1 in
    if e.0 == caller then (e.1, o.reply) ∷ made_by caller o.world es else made_by caller o.world es
