-- Defines the law of ranges: which values stay in their ranges after every entry of every run.
use Rattle.std.specs.Prelude.{◌≡◌, ℕ, ◌<◌, ◌≤◌, Bool, true, List, IfSome}
use Rattle.wf_frame.specs.declared.settings.Config.{Config}
use Rattle.wf_frame.specs.Classes.{greatest_classes}
use Rattle.wf_def_air.specs.Airtime.{IsRate, IsAllowed}
use Rattle.wf_def_codel.specs.Codel.{Codel, greatest_count}
use Rattle.wf_def_lists.specs.Bounds.{greatest_window, greatest_exponent, greatest_weight, least_ampdu, greatest_ampdu}
use Rattle.wf_def_world.specs.Group.{bss_count}
use Rattle.wf_def_world.specs.World.{World, station, session, receiver, queue, is_live}
use Rattle.wf_def_world.specs.Run.{Entry}
use Rattle.wf_def_world.specs.Stretches.{world_at}

-- An open service period, of which this number of frames is left. Its station sleeps. If it has a limit, at
-- least one frame is left, and at most as many as the limit.
pub record IsOpenService (sleeps : Bool) (most left : ℕ) : Type 0 where
  pub asleep : sleeps ≡ true
  pub within : left ≤ most
  pub some : 1 ≤ most → 1 ≤ left

-- The values of a live station.
pub record IsStation (config : Config) (w : World) (s : ℕ) : Type 0 where
  pub number : s < config.stations
  pub weight : (1 ≤ (station w s).weight) × ((station w s).weight ≤ greatest_weight)
  pub exponent : (station w s).exponent ≤ greatest_exponent
  pub rate : IsRate (station w s).rate
  pub allowed : IsAllowed config.legacy (station w s).rate
  -- A stated length of its aggregates is one that a call may state.
  pub ampdu : IfSome (station w s).ampdu (λ n. (least_ampdu ≤ n) × (n ≤ greatest_ampdu))
  -- Its BSS is one of the BSSs.
  pub bss : (station w s).bss < bss_count config.bsses
  -- Only a sleeping station has a credit.
  pub credit : IfSome (station w s).credit (λ _. (station w s).asleep ≡ true)
  -- The set of its delivery-enabled classes, and the frames that are left of its service period.
  pub delivery : (station w s).delivery ≤ greatest_classes
  pub service : IfSome (station w s).service (IsOpenService (station w s).asleep (station w s).most)
  -- Both sides of each TID's agreement have its window.
  pub window : (t : ℕ) → t < 8 → (1 ≤ (session w s t).size) × ((session w s t).size ≤ greatest_window)
  pub both : (t : ℕ) → (receiver w s t).size ≡ (session w s t).size

-- CoDel's counts: the count is at least 1 while CoDel drops, so the control law can compute the next drop,
-- and the counts and the number of drops fit 32 bits.
pub record CountsRight (c : Codel) : Type 0 where
  pub some : c.dropping ≡ true → 1 ≤ c.count
  pub count : c.count ≤ greatest_count
  pub last : c.last_count ≤ greatest_count
  pub dropped : c.dropped ≤ greatest_count

-- The values of the live stations and the queues of a world.
pub record KeepsRanges (config : Config) (w : World) : Type 0 where
  pub stations : (s : ℕ) → is_live w s ≡ true → IsStation config w s
  pub queues : (q : ℕ) → CountsRight (queue w q).codel

-- The law: `KeepsRanges` holds after each entry of a history.
abbrev pub RangeLaw : Config → List Entry → Type 0
RangeLaw config history = (m : ℕ) → KeepsRanges config (world_at config history m)
