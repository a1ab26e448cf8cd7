-- Defines a worked example of a pick: four keys, two on each list. The loop makes seven turns, and key 1
-- wins in the next one.
--
--   visited   new    old        deficit and result
--             1 2    3 4
--   1         2      3 4 1      -450: gets 300, moves to the end of old
--   2                3 4 1 2    5, is not ready: moves to the end of old
--   3                4 1 2 3    -700: gets 600, moves to the end of old
--   4                1 2 3      20, is not ready: leaves the rotation
--   1                2 3 1      -150: gets 300, moves to the end of old
--   2                3 1        5, is not ready: leaves the rotation
--   3                1 3        -100: gets 600, moves to the end of old
--   1                1 3        150, is ready: wins
use Rattle.std.specs.Prelude.{◌≡◌, ℕ, ◌==◌, ℤ, pos, ◌-ℤ◌, Bool, ◌||◌, List, [], ◌∷◌, Some, if◌then◌else◌, map}
use Rattle.wf_def_rotation.specs.Rotation.{Rotation}
use Rattle.wf_def_rotation.specs.Loop.{Standing, Wins, after_visits, visit_from, pick_by_deficits, deficit_after}

-- Key 3 has twice the weight of the others.
abbrev pub quantum : ℕ → ℕ
quantum key = if key == 3 then 600 else 300

-- The deficits of the keys at the start.
abbrev pub deficit : ℕ → ℤ
deficit key =
    if key == 1 then pos 0 -ℤ pos 450
    else (if key == 2 then pos 5
    else (if key == 3 then pos 0 -ℤ pos 700
    else (if key == 4 then pos 20 else pos 0)))

-- Keys 1 and 3 are ready.
abbrev pub ready : ℕ → Bool
ready key = (key == 1) || (key == 3)

-- The lists and the deficits at the start.
abbrev pub start : Standing
start = record { lists = record { new = 1 ∷ 2 ∷ []; old = 3 ∷ 4 ∷ [] }; deficit = deficit }

-- The lists at the end.
abbrev pub end_lists : Rotation
end_lists = record { new = []; old = 1 ∷ 3 ∷ [] }

-- The deficits of keys 1 to 4 at the end.
abbrev pub end_deficits : List ℤ
end_deficits = pos 150 ∷ pos 5 ∷ pos 500 ∷ pos 20 ∷ []

-- Returns the values of keys 1 to 4.
abbrev pub of_each : (ℕ → ℤ) → List ℤ
of_each deficits = map deficits (1 ∷ 2 ∷ 3 ∷ 4 ∷ [])

-- The state after seven turns.
abbrev pub seven_visits : Standing
seven_visits = after_visits quantum ready 7 start

-- The result of the loop.
pub record LoopEnds : Type 0 where
  pub winner : visit_from quantum ready seven_visits ≡ Wins 1
  pub lists : seven_visits.lists ≡ end_lists
  pub deficits : of_each seven_visits.deficit ≡ end_deficits

-- The result of the pick.
pub record FourKeysGive : Type 0 where
  pub winner : (pick_by_deficits quantum deficit ready start.lists).winner ≡ Some 1
  pub lists : (pick_by_deficits quantum deficit ready start.lists).lists ≡ end_lists
  pub deficits : of_each (deficit_after quantum deficit (pick_by_deficits quantum deficit ready start.lists))
      ≡ end_deficits
