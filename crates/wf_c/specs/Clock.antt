-- Defines what a move of the clock to a time leaves of a path.
use Rattle.std.specs.Prelude.{◌≡◌, ◌≤◌, ◌<◌, ◌^◌, ℕ}
use Rattle.wf_frame.specs.Frames.{FrameValue}
use Rattle.wf_frame.specs.declared.answers.Brief.TheVariants.{Now, Refused}
use Rattle.wf_frame.specs.declared.notes.Refusal.TheVariants.{BadTick}
use Rattle.wf_def_world.specs.World.{World}
use Rattle.wf_send_half.specs.Clock.{at_time}
use Rattle.wf_send_half_model.specs.Standing.{StandsFor}
use Rattle.wf_path.specs.Paths.{IsPath}
use Rattle.wf_c.specs.Numbers.{numbers_of}
use Rattle.wf_c.specs.declared.held.Held.{Held}
use Rattle.wf_c.specs.declared.reply.Reply.{Reply}

-- The effect of moving the clock to a time: h before, k after, and the caller's struct, which shows the
-- answer of one tick to that time.
pub record IsMovedTo (h : Held) (now : ℕ) (k : Held) (shown : Reply) : Type 0 where
  pub stands : (w : World) (bodies : ℕ → FrameValue) → StandsFor h.path.half w bodies →
      StandsFor k.path.half (at_time w now) bodies
  pub addresses : k.path.addresses ≡ h.path.addresses
  pub reserve : h.reserve ≤ k.reserve
  pub path : IsPath k.path.half
  pub shows : shown ≡ numbers_of (Now now)

-- The clock is moved to a time that is not before its own and is below 2^61; otherwise nothing changes, and
-- the struct shows the refusal of a tick.
pub record IsAdvanced (h : Held) (now : ℕ) (k : Held) (shown : Reply) : Type 0 where
  pub moved : h.path.half.clock ≤ now → now < 2 ^ 61 → IsMovedTo h now k shown
  pub earlier : now < h.path.half.clock → (k ≡ h) × (shown ≡ numbers_of (Refused BadTick))
  pub large : 2 ^ 61 ≤ now → (k ≡ h) × (shown ≡ numbers_of (Refused BadTick))
