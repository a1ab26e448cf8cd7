-- Defines the law of attempts: how often a number is sent without being acknowledged, by the setting
-- `attempts`.
use Rattle.std.specs.Prelude.{◌≡◌, ℕ, ◌<◌, true, false, List}
use Rattle.wf_frame.specs.declared.settings.Config.{Config}
use Rattle.wf_def_agreement.specs.Session.{Slot, is_failed, slot}
use Rattle.wf_def_world.specs.World.{session}
use Rattle.wf_def_world.specs.Run.{Entry}
use Rattle.wf_def_world.specs.Stretches.{world_at}

-- The attempts of one slot, when `limit` attempts are allowed.
pub record IsTried (limit : ℕ) (x : Slot) : Type 0 where
  -- A number that waits, is on the air or is acknowledged has fewer attempts.
  pub fewer : is_failed x.state ≡ false → x.attempts < limit
  -- A failed number has exactly that many. One that the device gave up, or that was flushed, forgoes those
  -- that were left: they count as made.
  pub failed : is_failed x.state ≡ true → x.attempts ≡ limit

-- The law: `IsTried` holds after each entry of a history, for each number of each TID.
abbrev pub AttemptsLaw : Config → List Entry → Type 0
AttemptsLaw config history = (m s t n : ℕ) → IsTried config.attempts
    (slot (session (world_at config history m) s t) n)
