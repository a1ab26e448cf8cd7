-- Defines the invariant of the uplink, which holds in every world that calls lead to.
use Rattle.std.specs.Prelude.{◌≡◌, ℕ, ◌+◌, ◌*◌, ◌^◌, ◌-◌, ◌<◌, ◌≤◌, List, [], ◌∷◌, length, slice_index, Option, None, Some}
use Rattle.wf_def_air.specs.Airtime.{Rate}
use Rattle.wf_uplink.specs.Reordering.{Reordering, Stored, waits_since_of}
use Rattle.wf_uplink.specs.Sides.{SideValue}
use Rattle.wf_uplink.specs.World.{World, tids_of_station, rate_of, reordering_at, reordering_of, held}

-- the numbers stored rise, and the first is at least n
abbrev pub StoredFrom : ℕ → List Stored → Type 0
StoredFrom n [] = Unit {0}
StoredFrom n (x ∷ later) = (n ≤ x.number) × StoredFrom (x.number + 1) later

-- the window is not empty, and the numbers stored rise and are not below B
pub record ReorderingIsOrderly (r : Reordering) : Type 0 where
  pub window : 1 ≤ r.window
  pub rising : StoredFrom r.start r.stored

-- Each reordering is orderly, B is bounded by the numbers that were passed, a station that is not open has
-- nothing stored, and each frame is counted once.
pub record IsSound (w : World) : Type 0 where
  pub size : length w.reorderings ≡ tids_of_station * length w.rates
  pub sides : length w.sides ≡ length w.reorderings
  pub orderly : (place : ℕ) → ReorderingIsOrderly (reordering_at w place)
  pub bound : (place : ℕ) → (reordering_at w place).start ≤ 4095 + (w.up + w.missing)
  pub closed : (station tid : ℕ) → tid < tids_of_station → rate_of w station ≡ None →
      (reordering_of w station tid).stored ≡ []
  pub each_frame : w.frames ≡ w.up + w.back + held w

-- the clock is below this, in microseconds
abbrev pub latest : ℕ
latest = 2 ^ 62

-- the value of a wait in the tournament tree: greater for a longer wait, 0 if there is none
abbrev pub worth_of : Option ℕ → ℕ
worth_of None = 0
worth_of (Some since) = latest - since

-- the tournament tree has the value of each wait, and no wait began in the future
pub record IsWatched (w : World) (waits : List ℕ) : Type 0 where
  pub size : length waits ≡ 2048
  pub stations : length w.rates ≤ 256
  pub early : w.clock < latest
  pub since : (place : ℕ) → (reordering_at w place).since ≤ w.clock
  pub worths : (place : ℕ) → slice_index waits place ≡ worth_of (waits_since_of (reordering_at w place))

abbrev pub world_of : ℕ → List (Option Rate) → List Reordering → List SideValue → ℕ → ℕ → ℕ → ℕ → World
world_of clock rates reorderings sides frames up back missing =
    record {
      clock = clock;
      rates = rates;
      reorderings = reorderings;
      sides = sides;
      frames = frames;
      up = up;
      back = back;
      missing = missing;
    }
