-- Defines the facts about every transmit half, and the conditions of its calls.
use Rattle.std.specs.Prelude.{◌≡◌, ◌<◌, ℕ, ◌*◌, ◌^◌, nat_lt, Bool, true, not, ◌||◌, List, [], ◌∷◌, length, is_some, IfSome}
use Rattle.wf_frame.specs.declared.classes.Class.{Class}
use Rattle.wf_frame.specs.Classes.{lower_tid, upper_tid}
use Rattle.wf_frame.specs.Frames.{FrameValue}
use Rattle.wf_frame.specs.Settings.{IsInRange}
use Rattle.wf_frame.specs.declared.notes.Refusal.{Refusal}
use Rattle.wf_frame.specs.declared.notes.Refusal.TheVariants.{BadStation, BadTid, NoStation}
use Rattle.wf_def_lists.specs.Bounds.{greatest_tid}
use Rattle.wf_def_world.specs.Group.{bss_count}
use Rattle.wf_def_world.specs.World.{World, is_live}
use Rattle.wf_def_world.specs.Refusals.{is_bad_station}
use Rattle.wf_law_driver.specs.Unheard.{IsUnheard}
use Rattle.wf_send_parts.specs.Group.{GroupsHaveRoom}
use Rattle.wf_send_parts.specs.Members.{member, received_in}
use Rattle.wf_send_half_model.specs.Half.{TransmitValue, can_send_of}
use Rattle.wf_send_half_model.specs.Standing.{StandsFor}

-- each setting is in its range, each part has as many places as there are stations or BSSs, and as many group
-- frames of each BSS may be queued as the setting `buffered` says
pub record HasSizes (v : TransmitValue) : Type 0 where
  pub in_range : IsInRange v.config
  pub flows : v.flows.stations ≡ v.config.stations
  pub sched : v.sched.stations ≡ v.config.stations
  pub windows : length v.windows ≡ 8 * v.config.stations
  pub modes : length v.modes ≡ 8 * v.config.stations
  pub members : length v.members ≡ v.config.stations
  pub sleepers : length v.sleepers ≡ v.config.stations
  pub groups : length v.groups ≡ bss_count v.config.bsses
  pub room : GroupsHaveRoom v.config.buffered v.groups

-- the half represents some world of a run
pub record HasWorld (v : TransmitValue) : Type 0 where
  pub world : World
  pub bodies : ℕ → FrameValue
  pub stands : StandsFor v world bodies

-- the half represents some world of a run in which no receiver has a frame that its sender does not know to
-- have arrived
pub record HasUnheardWorld (v : TransmitValue) : Type 0 where
  pub world : World
  pub bodies : ℕ → FrameValue
  pub stands : StandsFor v world bodies
  pub unheard : IsUnheard world

-- if a station is live, the airtime that it used in a class is below 2^62 microseconds
abbrev pub IsReceiptSmall : TransmitValue → ℕ → Class → Type 0
IsReceiptSmall v s c = IfSome (member v.members s) (λ m. received_in m c < 2 ^ 62)

-- whether a station is live
abbrev pub IsLive : TransmitValue → ℕ → Type 0
IsLive v s = is_some (member v.members s) ≡ true

-- the rows of the refusals of a call on TID t of station s that come first
abbrev pub rows_of_tid : World → ℕ → ℕ → List (Bool × Refusal)
rows_of_tid w s t = (
    (is_bad_station w s, BadStation) ∷ (nat_lt greatest_tid t, BadTid) ∷ (not (is_live w s), NoStation) ∷ [])

-- whether one of the two TIDs of a class can send
abbrev pub can_send_in_of : TransmitValue → ℕ → Class → Bool
can_send_in_of v s c = can_send_of v s (lower_tid c) || can_send_of v s (upper_tid c)
