-- Proves the law of fates: a fate other than Held never changes.
use Rattle.std.proofs.Common.{◌≡◌, subst, ap, ◌∙◌, arith, ℕ, ◌+◌, ◌-◌, ◌⊎◌, List, take, drop}
use Rattle.wf_frame.specs.declared.settings.Config.{Config}
use Rattle.wf_frame.specs.declared.classes.Fate.TheVariants.{Held}
use Rattle.wf_def_world.specs.World.{frame, opening}
use Rattle.wf_def_world.specs.Run.{Entry, world_after}
use Rattle.wf_def_world.specs.Stretches.{world_at}
use Rattle.wf_law_runs.specs.Fates.{FateLaw}
use Rattle.wf_law_runs.proofs.Common.Moments.{take_parts}
use Rattle.wf_law_runs.proofs.Frames.Fates.{fate_stays}

pub fate_law : (config : Config) (h : List Entry) → FateLaw config h
fate_law config h id m n l =
    let e : m + (n - m) ≡ n = omega (arith, l) in
    subst (λ (k : List Entry). ((frame (world_at config h m) id).fate ≡ Held) ⊎
    ((frame (world_after (opening config) k) id).fate ≡ (frame (world_at config h m) id).fate))
    (take_parts m (n - m) h ∙ ap (λ (k : ℕ). take k h) e)
    (fate_stays config (take m h) (take (n - m) (drop m h)) id)
