-- Computes a history in which a station's weight is set. A lesser weight lowers its deficit to one quantum,
-- and a greater one gives it no airtime. Each changes the base.
use Rattle.std.proofs.Common.{◌≡◌, refl, ℕ, ◌+◌, ◌*◌, pos, negsuc, ◌+ℤ◌, ◌-ℤ◌, Bool, true, false, List, [], ◌∷◌, Some, map}
use Rattle.wf_frame.specs.declared.settings.Config.{Config}
use Rattle.wf_frame.specs.declared.classes.Class.TheVariants.{Be}
use Rattle.wf_frame.specs.declared.notes.Ask.TheVariants.{Join, Weight, Pull, Done}
use Rattle.wf_frame.specs.declared.notes.Note.TheVariants.{Enqueue, Asked}
use Rattle.wf_frame.specs.Settings.{standard}
use Rattle.wf_frame.specs.Calls.{no_limits}
use Rattle.wf_def_world.specs.World.{Share, station, share}
use Rattle.wf_def_world.specs.Run.{Entry, by}
use Rattle.wf_def_world.specs.Stretches.{world_at}
use Rattle.wf_def_world.specs.Computed.{the_machine}

-- a quantum of 100 microseconds
abbrev config : Config
config = record standard { quantum = 100; agg = 1; cap = 3000; charge = 4000 }

abbrev history : List Entry
history = map (by 0) (
    Asked (Join 0 64 0 3 16) ∷
    Asked (Weight 0 1) ∷
    Enqueue 0 0 1 100 ∷
    Asked (Pull Be no_limits) ∷
    Asked (Done 0 false (Some 150)) ∷
    Asked (Pull Be no_limits) ∷
    Asked (Done 1 false (Some 10)) ∷
    -- the seventh moment: it got one quantum, and was charged 160
    Asked (Weight 0 16) ∷ [])

abbrev share_then : ℕ → Share
share_then m = share (world_at config history m) 0 Be

weighed_then : ℕ → Bool
weighed_then m = (station (world_at config history m) 0).weighed

-- ---- a lesser weight

joined : (share_then 1).deficit ≡ pos 1600
unfolding the_machine
joined = refl

fresh : weighed_then 1 ≡ false
unfolding the_machine weighed_then
fresh = refl

lowered : (share_then 2).deficit ≡ pos 100
unfolding the_machine
lowered = refl

lowered_base : (share_then 2).base ≡ pos 100
unfolding the_machine
lowered_base = refl

set : weighed_then 2 ≡ true
unfolding the_machine weighed_then
set = refl

-- ---- a greater weight

before : (share_then 7).deficit ≡ pos 40
unfolding the_machine
before = refl

before_base : (share_then 7).base ≡ pos 100
unfolding the_machine
before_base = refl

raised : (share_then 8).deficit ≡ pos 40
unfolding the_machine
raised = refl

raised_base : (share_then 8).base ≡ negsuc 1399
unfolding the_machine
raised_base = refl

-- the deficit is the base and one quantum of the new weight, less the charges
raised_exact : (share_then 8).base +ℤ pos (1600 * 1) -ℤ pos (160 + 0) ≡ pos 40
unfolding the_machine
raised_exact = refl
