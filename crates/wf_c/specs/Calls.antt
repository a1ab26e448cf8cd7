-- Defines what the calls of a handle do to the path that it holds.
use Rattle.std.specs.Prelude.{◌≡◌, ◌≤◌, ℕ, true, Option, Some, None}
use Rattle.wf_frame.specs.Answers.{reply_of}
use Rattle.wf_frame.specs.Frames.{FrameValue}
use Rattle.wf_frame.specs.declared.notes.Ask.{Ask}
use Rattle.wf_frame.specs.declared.notes.Note.TheVariants.{Asked}
use Rattle.wf_def_world.specs.World.{World}
use Rattle.wf_send_half_model.specs.Standing.{StandsFor, Meets}
use Rattle.wf_path.specs.Addresses.{Addresses, made_up}
use Rattle.wf_path.specs.Jobs.{MayCall, bodies_after, changes_nothing, with_released}
use Rattle.wf_path.specs.Paths.{IsPath, IsSmall}
use Rattle.wf_path.specs.declared.job.Job.TheVariants.{Call}
use Rattle.wf_c.specs.Numbers.{numbers_of}
use Rattle.wf_c.specs.declared.held.Held.{Held}
use Rattle.wf_c.specs.declared.reply.Reply.{Reply}

-- what the handle holds represents world w
abbrev pub HoldsFor : Option Held → World → (ℕ → FrameValue) → Type 0
HoldsFor None w bodies = ⊥
HoldsFor (Some h) w bodies = StandsFor h.path.half w bodies

-- the handle holds a path whose counts and sums are below 2^62
abbrev pub HoldsSmall : Option Held → Type 0
HoldsSmall None = ⊥
HoldsSmall (Some h) = IsSmall h.path.half

-- the addresses of the path that the handle holds; the placeholders if it is empty
abbrev pub addresses_held : Option Held → Addresses
addresses_held None = made_up
addresses_held (Some h) = h.path.addresses

-- how many nodes the path that the handle holds has in reserve; none if it is empty
abbrev pub reserve_held : Option Held → ℕ
reserve_held None = 0
reserve_held (Some h) = h.reserve

-- the handle holds something before and after, and R relates the two
abbrev pub Becomes : (Held → Held → Type 0) → Option Held → Option Held → Type 0
Becomes R (Some h) (Some k) = R h k
Becomes R _ _ = ⊥

-- The effect of a call without a frame: h before, k after, and the caller's struct.
--
--   meets      for each world that the path represented, and in which a path may make the call, it is the
--              machine's step, with the machine's reply, except the frames that a receiver releases when an
--              agreement ends, of which a path does not know; the frames that the call sends have one more
--              attempt, and the frame of a transmission that never went on the air has one less
--   refused    a refused call changes nothing, except a pull that finds no ready station
--   addresses  the addresses are unchanged
--   reserve    no node of the reserve is taken
--   shows      the struct shows the reply
pub record IsCalled (h : Held) (ask : Ask) (k : Held) (shown : Reply) : Type 0 where
  pub meets : (w : World) (bodies : ℕ → FrameValue) → StandsFor h.path.half w bodies → MayCall w (Call ask) →
      Meets w (bodies_after h.path.half w (Call ask) (reply_of k.answer) bodies) (Asked ask) k.path.half
      (with_released w (Call ask) (reply_of k.answer))
  pub refused : changes_nothing (reply_of k.answer) ≡ true → k.path ≡ h.path
  pub addresses : k.path.addresses ≡ h.path.addresses
  pub reserve : h.reserve ≤ k.reserve
  pub path : IsPath k.path.half
  pub shows : shown ≡ numbers_of k.answer.brief
