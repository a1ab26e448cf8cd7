-- Computes a history that attains the bound of the waiting law. In it, a station on the new list with a
-- deficit of at most 0 is not next, so the sparse law needs its condition.
use Rattle.std.proofs.Common.{◌≡◌, refl, ℕ, ◌-◌, pos, ◌-ℤ◌, Bool, true, false, ◌&&◌, nat_le, List, [], ◌∷◌, Some, map}
use Rattle.wf_frame.specs.declared.settings.Config.{Config}
use Rattle.wf_frame.specs.declared.classes.Class.TheVariants.{Be}
use Rattle.wf_frame.specs.declared.notes.Ask.TheVariants.{Join, Pull, Done}
use Rattle.wf_frame.specs.declared.notes.Note.TheVariants.{Enqueue, Asked}
use Rattle.wf_frame.specs.Settings.{standard}
use Rattle.wf_def_lists.specs.Table.{count_from}
use Rattle.wf_def_world.specs.World.{share, rotation}
use Rattle.wf_def_world.specs.CanSend.{is_ready}
use Rattle.wf_def_world.specs.Step.{step}
use Rattle.wf_def_world.specs.Run.{Entry, by}
use Rattle.wf_def_world.specs.Stretches.{world_at}
use Rattle.wf_def_world.specs.Computed.{the_machine}
use Rattle.wf_law_runs.specs.Deficits.{got_between, most_owed}
use Rattle.wf_law_runs.specs.Shares.{deficit_then, quantum_then}
use Rattle.wf_law_runs.specs.Waiting.{is_sent_to, sends_between, rounds_up}
use Rattle.wf_frame.specs.Calls.{no_limits}

-- a quantum of 4000 microseconds, two exchanges in flight, and at most 4000 microseconds for each
abbrev config : Config
config = record standard { quantum = 4000; inflight = 2; agg = 1; cap = 3000; charge = 4000 }

abbrev history : List Entry
history = map (by 0) (
    Asked (Join 0 64 0 3 1) ∷
    Asked (Join 1 64 0 3 1) ∷
    Enqueue 0 0 1 100 ∷
    Enqueue 0 0 1 100 ∷
    Enqueue 0 0 1 100 ∷
    Asked (Pull Be no_limits) ∷
    Asked (Done 0 false (Some 3999)) ∷
    Asked (Pull Be no_limits) ∷
    Asked (Pull Be no_limits) ∷
    -- the ninth moment: station 0 has a deficit of 1 and two open exchanges, and waits from here on
    Enqueue 1 0 2 100 ∷
    Asked (Done 1 false (Some 4000)) ∷
    Asked (Done 2 false (Some 4000)) ∷
    Asked (Pull Be no_limits) ∷
    Asked (Done 3 false (Some 4000)) ∷
    Asked (Pull Be no_limits) ∷ [])

abbrev all_ready : List ℕ → Bool
all_ready [] = true
all_ready (m ∷ ms) = is_ready (world_at config history m) Be 0 && all_ready ms

waits : all_ready (count_from 9 7) ≡ true
unfolding the_machine
waits = refl

sends_none : sends_between config history 0 Be 9 15 ≡ 0
unfolding the_machine
sends_none = refl

quiet_first : (share (world_at config history 15) 0 Be).received ≡ 0
unfolding the_machine
quiet_first = refl

got_first : got_between config history 0 Be 9 15 ≡ 2
unfolding the_machine
got_first = refl

got_most : rounds_up (most_owed config Be) (quantum_then config history 15 0) ≡ 2
unfolding the_machine
got_most = refl

-- the bound fails with one exchange less in flight
got_short : nat_le (got_between config history 0 Be 9 15)
    (rounds_up (most_owed config Be - 4000) (quantum_then config history 15 0)) ≡ false
unfolding the_machine
got_short = refl

-- ---- the sparse law asks for a deficit above 0

deficit_first : deficit_then config history 12 0 Be ≡ pos 1 -ℤ pos 8000
unfolding the_machine
deficit_first = refl

first_on_new : (rotation (world_at config history 12) Be).new ≡ 0 ∷ 1 ∷ []
unfolding the_machine
first_on_new = refl

sent_second : is_sent_to 1 (step (world_at config history 12) (Asked (Pull Be no_limits))).reply ≡ true
unfolding the_machine
sent_second = refl

-- after the first five entries the deficit is above 0, and the station is next
sent_first : is_sent_to 0 (step (world_at config history 5) (Asked (Pull Be no_limits))).reply ≡ true
unfolding the_machine
sent_first = refl
