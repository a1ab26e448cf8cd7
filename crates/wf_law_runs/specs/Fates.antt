-- Defines the law of fates: a fate other than Held never changes.
use Rattle.std.specs.Prelude.{◌≡◌, ℕ, ◌≤◌, ◌⊎◌, List}
use Rattle.wf_frame.specs.declared.settings.Config.{Config}
use Rattle.wf_frame.specs.declared.classes.Fate.TheVariants.{Held}
use Rattle.wf_def_world.specs.World.{frame}
use Rattle.wf_def_world.specs.Run.{Entry}
use Rattle.wf_def_world.specs.Stretches.{world_at}

-- At entries m and n with m ≤ n, the fate was Held at m, or it is the same at n.
abbrev pub FateLaw : Config → List Entry → Type 0
FateLaw config history =
    (id m n : ℕ) → m ≤ n → ((frame (world_at config history m) id).fate ≡ Held) ⊎
    ((frame (world_at config history n) id).fate ≡ (frame (world_at config history m) id).fate)
