-- A history that attains the bound of the waiting law for a station that was charged for sending: it owes
-- the whole setting `debt`, and two exchanges besides.
use Rattle.std.proofs.Common.{◌≡◌, refl, ℕ, ◌+◌, pos, ◌-ℤ◌, Bool, true, false, ◌&&◌, nat_le, List, [], ◌∷◌, Some, map}
use Rattle.wf_frame.specs.declared.settings.Config.{Config}
use Rattle.wf_frame.specs.declared.classes.Class.TheVariants.{Be}
use Rattle.wf_frame.specs.declared.notes.Ask.TheVariants.{Join, Pull, Done, Rx}
use Rattle.wf_frame.specs.declared.notes.Note.TheVariants.{Enqueue, Asked}
use Rattle.wf_frame.specs.Settings.{standard}
use Rattle.wf_def_lists.specs.Table.{count_from}
use Rattle.wf_def_world.specs.CanSend.{is_ready}
use Rattle.wf_def_world.specs.Run.{Entry, by}
use Rattle.wf_def_world.specs.Stretches.{world_at}
use Rattle.wf_def_world.specs.Computed.{the_machine}
use Rattle.wf_law_runs.specs.Deficits.{got_between, most_owed}
use Rattle.wf_law_runs.specs.Shares.{received_between, deficit_then, quantum_then}
use Rattle.wf_law_runs.specs.Waiting.{sends_between, rounds_up}
use Rattle.wf_frame.specs.Calls.{no_limits}

-- a quantum of 4000 microseconds, two exchanges in flight of at most 4000 microseconds each, a debt of 4000
abbrev config : Config
config = record standard { quantum = 4000; inflight = 2; agg = 1; cap = 3000; charge = 4000; debt = 4000 }

abbrev history : List Entry
history = map (by 0) (
    Asked (Join 0 64 0 3 1) ∷
    Asked (Join 1 64 0 3 1) ∷
    Enqueue 0 0 1 100 ∷
    Enqueue 0 0 1 100 ∷
    Enqueue 0 0 1 100 ∷
    Asked (Pull Be no_limits) ∷
    Asked (Done 0 false (Some 3999)) ∷
    Asked (Pull Be no_limits) ∷
    Asked (Pull Be no_limits) ∷
    Asked (Rx 0 Be 4001) ∷
    -- the tenth moment: station 0 has a deficit of -4000 and two open exchanges, and waits from here on
    Enqueue 1 0 2 100 ∷
    Asked (Done 1 false (Some 4000)) ∷
    Asked (Done 2 false (Some 4000)) ∷
    Asked (Pull Be no_limits) ∷
    Asked (Done 3 false (Some 4000)) ∷
    Asked (Pull Be no_limits) ∷
    Asked (Done 4 false (Some 4000)) ∷
    Asked (Pull Be no_limits) ∷
    Asked (Done 5 false (Some 4000)) ∷
    Asked (Pull Be no_limits) ∷ [])

abbrev all_ready : List ℕ → Bool
all_ready [] = true
all_ready (m ∷ ms) = is_ready (world_at config history m) Be 0 && all_ready ms

waits : all_ready (count_from 10 11) ≡ true
unfolding the_machine
waits = refl

sends_none : sends_between config history 0 Be 10 20 ≡ 0
unfolding the_machine
sends_none = refl

owes_all : deficit_then config history 10 0 Be ≡ pos 0 -ℤ pos 4000
unfolding the_machine
owes_all = refl

receives_none : received_between config history 0 Be 10 20 ≡ 0
unfolding the_machine
receives_none = refl

got_first : got_between config history 0 Be 10 20 ≡ 4
unfolding the_machine
got_first = refl

got_most : rounds_up (most_owed config Be + config.debt + 1) (quantum_then config history 20 0) ≡ 4
unfolding the_machine
got_most = refl

-- without the 1 the bound is one quantum short
got_short : nat_le (got_between config history 0 Be 10 20)
    (rounds_up (most_owed config Be + config.debt) (quantum_then config history 20 0)) ≡ false
unfolding the_machine
got_short = refl
