-- Defines the laws of the calls that workers make.
use Rattle.std.specs.Prelude.{◌≡◌, ℕ, ◌+◌, ◌≤◌, ◌^◌, List, length, All}
use Rattle.wf_frame.specs.declared.settings.Config.{Config}
use Rattle.wf_trace.specs.Printing.{IsPrintable}
use Rattle.wf_def_world.specs.World.{opening}
use Rattle.wf_def_world.specs.Run.{Entry, world_after}
use Rattle.wf_run_histories.specs.Workloads.{Made, Driver, IsWalk, sender_calls}
use Rattle.wf_run_histories.specs.Workloads.Phase.{Ticks}
use Rattle.wf_run_histories.specs.Makings.{made_by}

-- Each of these calls can be printed.
abbrev pub CanBePrinted : List Made → Type 0
CanBePrinted made = All (λ m. IsPrintable m.0) made

-- If a driver's walk is in a history of at most 2^32 entries, after any earlier calls, each of its calls can
-- be printed: an exchange that a call names was begun by an earlier entry.
abbrev pub WalkLaw : Config → List Entry → List Entry → Type 0
WalkLaw config past calls =
    (caller : ℕ) (d : Driver) → length past + length calls ≤ 2 ^ 32 → d.phase ≡ Ticks →
    IsWalk d (made_by caller (world_after (opening config) past) calls) →
    CanBePrinted (made_by caller (world_after (opening config) past) calls)

-- Each call of a sender can be printed.
abbrev pub SenderLaw : ℕ → ℕ → ℕ → Type 0
SenderLaw seed s frames = All IsPrintable (sender_calls seed s frames)
