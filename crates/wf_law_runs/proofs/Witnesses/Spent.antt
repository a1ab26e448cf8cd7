-- Computes a history that attains the bound on what a station spends with the setting `pending`, and one in
-- which this bound fails without `pending`. Eight exchanges may be in flight, and charges are as computed.
use Rattle.std.proofs.Common.{◌≡◌, refl, ℕ, ◌+◌, ◌-◌, ◌*◌, pos, int_le, Bool, true, false, ◌&&◌, List, [], ◌∷◌, None, map}
use Rattle.wf_frame.specs.declared.settings.Config.{Config}
use Rattle.wf_frame.specs.declared.classes.Class.TheVariants.{Be}
use Rattle.wf_frame.specs.declared.notes.Ask.TheVariants.{Join, Pull, Done}
use Rattle.wf_frame.specs.declared.notes.Note.TheVariants.{Enqueue, Asked}
use Rattle.wf_frame.specs.Settings.{standard}
use Rattle.wf_def_lists.specs.Table.{has, count_from}
use Rattle.wf_def_world.specs.World.{rotation}
use Rattle.wf_def_world.specs.Run.{Entry, by}
use Rattle.wf_def_world.specs.Stretches.{world_at}
use Rattle.wf_def_world.specs.Computed.{the_machine}
use Rattle.wf_law_runs.specs.Deficits.{got_between}
use Rattle.wf_law_runs.specs.Shares.{quantum_then, spent_between, standing_then, excess}
use Rattle.wf_law_runs.specs.Waiting.{sends_between}
use Rattle.wf_frame.specs.Calls.{no_limits}

-- a quantum of 1985 microseconds, and data of at most 3820 microseconds
abbrev config : Config
config = record standard { quantum = 1985; inflight = 8; agg = 2; cap = 3820; pending = 1 }

abbrev history : List Entry
history = map (by 0) (
    Asked (Join 0 64 0 3 1) ∷
    Asked (Join 1 64 0 3 1) ∷
    Enqueue 0 0 1 1500 ∷
    Enqueue 1 0 2 1500 ∷
    Asked (Pull Be no_limits) ∷
    Asked (Done 0 false None) ∷
    Asked (Pull Be no_limits) ∷
    Asked (Done 1 false None) ∷
    Asked (Pull Be no_limits) ∷
    Asked (Done 2 false None) ∷
    Asked (Pull Be no_limits) ∷
    Asked (Done 3 false None) ∷
    Asked (Pull Be no_limits) ∷
    Asked (Done 4 false None) ∷
    Asked (Pull Be no_limits) ∷
    Asked (Done 5 false None) ∷
    Asked (Join 2 256 0 3 1) ∷
    -- the seventeenth moment: station 2 uses its quantum down to a standing of 1, and opens the longest
    -- exchange
    Enqueue 2 0 3 1500 ∷
    Asked (Pull Be no_limits) ∷
    Enqueue 2 0 3 1500 ∷
    Enqueue 2 0 3 1500 ∷
    Asked (Pull Be no_limits) ∷ [])

abbrev all_on_old : List ℕ → Bool
all_on_old [] = true
all_on_old (m ∷ ms) = has (rotation (world_at config history m) Be).old 0 && all_on_old ms

first_stays : all_on_old (count_from 17 6) ≡ true
unfolding the_machine
first_stays = refl

got_first : got_between config history 0 Be 17 22 ≡ 0
unfolding the_machine
got_first = refl

standing_third : standing_then config history 21 2 Be ≡ pos 1
unfolding the_machine
standing_third = refl

spent_third : spent_between config history 2 Be 17 22 ≡ pos 5860
unfolding the_machine
spent_third = refl

spent_most : quantum_then config history 22 2 * (got_between config history 0 Be 17 22 + 1) +
    excess config Be 0 ≡ 5860
unfolding the_machine
spent_most = refl

-- the bound fails with an excess that is 1 smaller
spent_short : int_le (spent_between config history 2 Be 17 22)
    (pos (quantum_then config history 22 2 * (got_between config history 0 Be 17 22 + 1) +
    (excess config Be 0 - 1)))
    ≡ false
unfolding the_machine
spent_short = refl

-- it is the same with fewer exchanges in flight
excess_same : excess (record config { inflight = 2 }) Be 0 ≡ excess config Be 0
excess_same = refl

-- ---- the same with `pending` and without it

-- a quantum of 1000 microseconds, and one frame in each exchange
abbrev either : ℕ → Config
either pending = record standard { quantum = 1000; inflight = 8; agg = 1; pending = pending }

abbrev eight : List Entry
eight = map (by 0) (
    Asked (Join 0 64 0 3 1) ∷
    Asked (Join 1 64 0 3 1) ∷
    Enqueue 0 0 1 1500 ∷ Enqueue 0 0 1 1500 ∷ Enqueue 0 0 1 1500 ∷ Enqueue 0 0 1 1500 ∷ Enqueue 0 0 1 1500 ∷
    Enqueue 0 0 1 1500 ∷ Enqueue 0 0 1 1500 ∷ Enqueue 0 0 1 1500 ∷ Enqueue 0 0 1 1500 ∷
    Enqueue 1 0 2 1500 ∷ Enqueue 1 0 2 1500 ∷ Enqueue 1 0 2 1500 ∷ Enqueue 1 0 2 1500 ∷ Enqueue 1 0 2 1500 ∷
    Enqueue 1 0 2 1500 ∷ Enqueue 1 0 2 1500 ∷ Enqueue 1 0 2 1500 ∷ Enqueue 1 0 2 1500 ∷
    Asked (Pull Be no_limits) ∷
    Asked (Done 0 false None) ∷
    Asked (Pull Be no_limits) ∷
    Asked (Done 1 false None) ∷
    Asked (Pull Be no_limits) ∷
    Asked (Done 2 false None) ∷
    Asked (Pull Be no_limits) ∷
    Asked (Done 3 false None) ∷
    -- the twenty-eighth moment: both stations are on the old list, and eight exchanges open
    Asked (Pull Be no_limits) ∷ Asked (Pull Be no_limits) ∷ Asked (Pull Be no_limits) ∷
    Asked (Pull Be no_limits) ∷ Asked (Pull Be no_limits) ∷ Asked (Pull Be no_limits) ∷
    Asked (Pull Be no_limits) ∷ Asked (Pull Be no_limits) ∷ [])

abbrev both_on_old : ℕ → List ℕ → Bool
both_on_old p [] = true
both_on_old p (m ∷ ms) = has (rotation (world_at (either p) eight m) Be).old 0
    && (has (rotation (world_at (either p) eight m) Be).old 1 && both_on_old p ms)

-- with `pending` the stations take turns
both_stay : both_on_old 1 (count_from 28 9) ≡ true
unfolding the_machine
both_stay = refl

sends_first : sends_between (either 1) eight 0 Be 28 36 ≡ 4
unfolding the_machine
sends_first = refl

sends_second : sends_between (either 1) eight 1 Be 28 36 ≡ 4
unfolding the_machine
sends_second = refl

-- without it the first opens all exchanges, and spends more than the bound
both_stay_without : both_on_old 0 (count_from 28 9) ≡ true
unfolding the_machine
both_stay_without = refl

sends_all : sends_between (either 0) eight 0 Be 28 36 ≡ 8
unfolding the_machine
sends_all = refl

spent_over : int_le (spent_between (either 0) eight 0 Be 28 36)
    (pos (quantum_then (either 0) eight 36 0 * (got_between (either 0) eight 1 Be 28 36 + 1) +
    excess (either 0) Be 0))
    ≡ false
unfolding the_machine
spent_over = refl
