-- Computes a history that attains the bounds of the share law. In it, smaller bounds fail, and so does the
-- law for a station that leaves and joins again. A Done that is not heard keeps the frame waiting, so a
-- station with one frame stays ready.
use Rattle.std.proofs.Common.{◌≡◌, refl, ℕ, ◌+◌, ◌-◌, ◌*◌, pos, ◌+ℤ◌, ◌*ℤ◌, Bool, true, false, ◌&&◌, nat_le, List, [], ◌∷◌, Some, map}
use Rattle.wf_frame.specs.declared.settings.Config.{Config}
use Rattle.wf_frame.specs.declared.classes.Class.TheVariants.{Be}
use Rattle.wf_frame.specs.declared.notes.Ask.TheVariants.{Join, Leave, Pull, Done}
use Rattle.wf_frame.specs.declared.notes.Note.TheVariants.{Enqueue, Asked}
use Rattle.wf_frame.specs.Settings.{standard}
use Rattle.wf_def_lists.specs.Table.{has, count_from}
use Rattle.wf_def_world.specs.World.{rotation, is_live}
use Rattle.wf_def_world.specs.Run.{Entry, by}
use Rattle.wf_def_world.specs.Stretches.{world_at, charged_between}
use Rattle.wf_def_world.specs.Computed.{the_machine}
use Rattle.wf_law_runs.specs.Deficits.{got_between, most_owed, weight_at}
use Rattle.wf_law_runs.specs.Shares.{used_between, deficit_then, quantum_then, overrun}
use Rattle.wf_frame.specs.Calls.{no_limits}

-- a quantum of 100 microseconds, two exchanges in flight, and at most 4000 microseconds for each
abbrev config : Config
config = record standard { quantum = 100; inflight = 2; agg = 1; cap = 3000; charge = 4000 }

abbrev history : List Entry
history = map (by 0) (
    Asked (Join 0 64 0 3 1) ∷
    Asked (Join 1 64 0 3 1) ∷
    Enqueue 0 0 1 100 ∷
    Enqueue 1 0 2 100 ∷
    Asked (Pull Be no_limits) ∷
    Asked (Done 0 false (Some 100)) ∷
    Asked (Pull Be no_limits) ∷
    Asked (Done 1 false (Some 100)) ∷
    Asked (Pull Be no_limits) ∷
    -- both stations are on the old list from here on, the ninth moment
    Asked (Done 2 false (Some 100)) ∷
    Asked (Pull Be no_limits) ∷
    Asked (Done 3 false (Some 100)) ∷
    Asked (Join 2 64 0 3 1) ∷
    Enqueue 2 0 3 100 ∷
    Enqueue 2 0 3 100 ∷
    -- the fifteenth moment: station 2 uses its quantum down to a deficit of 1, and opens two exchanges
    Asked (Pull Be no_limits) ∷
    Asked (Done 4 false (Some 99)) ∷
    Asked (Pull Be no_limits) ∷
    Asked (Pull Be no_limits) ∷
    Asked (Done 5 false (Some 4000)) ∷
    Asked (Done 6 false (Some 4000)) ∷
    -- the twenty-first moment: it leaves, and begins again
    Asked (Leave 2) ∷
    Asked (Join 2 64 0 3 1) ∷
    Enqueue 2 0 3 100 ∷
    Enqueue 2 0 3 100 ∷
    Asked (Pull Be no_limits) ∷
    Asked (Done 7 false (Some 99)) ∷
    Asked (Pull Be no_limits) ∷
    Asked (Pull Be no_limits) ∷
    Asked (Done 8 false (Some 4000)) ∷
    Asked (Done 9 false (Some 4000)) ∷ [])

abbrev on_old : ℕ → ℕ → Bool
on_old s m = has (rotation (world_at config history m) Be).old s

abbrev all_on_old : ℕ → List ℕ → Bool
all_on_old s [] = true
all_on_old s (m ∷ ms) = on_old s m && all_on_old s ms

first_stays : all_on_old 0 (count_from 9 23) ≡ true
unfolding the_machine
first_stays = refl

second_stays : all_on_old 1 (count_from 9 3) ≡ true
unfolding the_machine
second_stays = refl

-- ---- one quantum more

got_first : got_between config history 0 Be 9 11 ≡ 1
unfolding the_machine
got_first = refl

got_second : got_between config history 1 Be 9 11 ≡ 0
unfolding the_machine
got_second = refl

-- ---- the charges

charged_third : charged_between config history 2 Be 15 21 ≡ 8099
unfolding the_machine
charged_third = refl

charged_most : quantum_then config history 21 2 * (got_between config history 0 Be 15 21 + 1) +
    overrun config Be ≡ 8099
unfolding the_machine
charged_most = refl

-- the bound fails with an overrun that is 1 smaller
charged_short : nat_le (charged_between config history 2 Be 15 21)
    (quantum_then config history 21 2 * (got_between config history 0 Be 15 21 + 1) +
    (most_owed config Be - 2)) ≡ false
unfolding the_machine
charged_short = refl

-- ---- the charges by weight

deficit_first : deficit_then config history 15 0 Be ≡ pos 100
unfolding the_machine
deficit_first = refl

weighted_third : pos (charged_between config history 2 Be 15 21 * weight_at config history 21 0) +ℤ
    pos (weight_at config history 21 2) *ℤ deficit_then config history 15 0 Be ≡ pos 8199
unfolding the_machine
weighted_third = refl

weighted_most : used_between config history 0 Be 15 21 * weight_at config history 21 2 +
    2 * config.quantum * weight_at config history 21 0 * weight_at config history 21 2 +
    weight_at config history 21 0 * overrun config Be ≡ 8199
unfolding the_machine
weighted_most = refl

-- the bound fails with one quantum instead of two
weighted_short : nat_le 8199 (used_between config history 0 Be 15 21 * weight_at config history 21 2 +
    1 * config.quantum * weight_at config history 21 0 * weight_at config history 21 2 +
    weight_at config history 21 0 * overrun config Be) ≡ false
unfolding the_machine
weighted_short = refl

-- ---- a station that leaves and joins has a fresh quantum

dead_between : is_live (world_at config history 22) 2 ≡ false
unfolding the_machine
dead_between = refl

charged_twice : charged_between config history 2 Be 15 31 ≡ 16198
unfolding the_machine
charged_twice = refl

most_once : quantum_then config history 31 2 * (got_between config history 0 Be 15 31 + 1) + overrun config Be
    ≡ 8099
unfolding the_machine
most_once = refl
