-- Defines the laws of room: how many frames are inside at a time, and in which places.
use Rattle.std.specs.Prelude.{◌≡◌, ℕ, ◌+◌, ◌≤◌, not, List, [], ◌∷◌, Option, Some, None, if◌then◌else◌, is_none, length, count_by, sum_by, take}
use Rattle.wf_frame.specs.declared.settings.Config.{Config}
use Rattle.wf_frame.specs.declared.notes.Ask.TheVariants.{Reap}
use Rattle.wf_frame.specs.declared.notes.Note.{Note}
use Rattle.wf_frame.specs.declared.notes.Note.TheVariants.{Asked}
use Rattle.wf_def_agreement.specs.Session.{is_settled}
use Rattle.wf_def_world.specs.World.{World, Station, Tid, accepted_count, inside, opening}
use Rattle.wf_def_world.specs.FlowQueues.{total_queued}
use Rattle.wf_def_world.specs.Refusals.{refusal}
use Rattle.wf_def_world.specs.Step.{step}
use Rattle.wf_def_world.specs.Run.{Entry}
use Rattle.wf_def_world.specs.Stretches.{world_at}
use Rattle.wf_law_runs.specs.Queues.{HaveLengths}

-- Returns how many numbers of a TID wait or are on the air.
abbrev pub unsettled_of : Tid → ℕ
unsettled_of y = count_by (λ x. not (is_settled x.state)) y.session.slots

-- Returns how many numbers of a station wait or are on the air; 0 if there is no station.
abbrev pub in_windows_of : Option Station → ℕ
in_windows_of None = 0
in_windows_of (Some x) = sum_by unsettled_of x.tids

-- Returns how many numbers of all live stations wait or are on the air.
abbrev pub in_windows : World → ℕ
in_windows w = sum_by in_windows_of w.stations

-- Returns how many frames a call reaps.
abbrev pub reaped_by : World → Note → ℕ
reaped_by w (Asked Reap) = if is_none (refusal w (Asked Reap)) then 1 else 0
reaped_by w _ = 0

-- Returns how many frames the calls of a history reap.
abbrev pub reaped_in : World → List Entry → ℕ
reaped_in w [] = 0
reaped_in w (e ∷ es) = reaped_by w e.1 + reaped_in (step w e.1).world es

-- The frames inside a world. r is how many frames were reaped before.
pub record HasRoom (config : Config) (r : ℕ) (w : World) : Type 0 where
  -- The number of frames inside is at most the setting `room`.
  pub within : inside w ≤ config.room
  -- A frame that is inside is in a flow queue, at a number that waits or is on the air, or on the finished
  -- list.
  pub placed : total_queued w + in_windows w + length w.finished ≡ inside w
  -- Each accepted frame is inside or was reaped.
  pub reaped : inside w + r ≡ accepted_count w

-- The law of room: `HasRoom` holds after each entry of a history.
abbrev pub RoomLaw : Config → List Entry → Type 0
RoomLaw config history = (m : ℕ) → HasRoom config (reaped_in (opening config) (take m history))
    (world_at config history m)

-- The law of the limit: if each frame has at least one octet, all flow queues together have at most as many
-- frames as the setting `limit`.
abbrev pub LimitLaw : Config → List Entry → Type 0
LimitLaw config history = HaveLengths history → (m : ℕ) →
    total_queued (world_at config history m) ≤ config.limit
