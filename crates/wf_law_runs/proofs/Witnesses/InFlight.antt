-- Histories that attain the bounds of the laws of airtime in flight and of the delay in the device.
use Rattle.std.proofs.Common.{◌≡◌, refl, arith, true, false, List, [], ◌∷◌, ◌++◌, None, map, replicate}
use Rattle.wf_frame.specs.declared.settings.Config.{Config}
use Rattle.wf_frame.specs.declared.classes.Class.TheVariants.{Be, Vi}
use Rattle.wf_frame.specs.declared.notes.Ask.TheVariants.{Join, Pull, Done}
use Rattle.wf_frame.specs.declared.notes.Note.TheVariants.{Enqueue, Asked}
use Rattle.wf_frame.specs.Settings.{standard}
use Rattle.wf_def_world.specs.World.{owed, owed_by_all}
use Rattle.wf_def_world.specs.CanSend.{is_ready}
use Rattle.wf_def_world.specs.Run.{Entry, by}
use Rattle.wf_def_world.specs.Stretches.{world_at}
use Rattle.wf_def_world.specs.Computed.{the_machine}
use Rattle.wf_def_world.specs.Exchanges.{longest_computed}
use Rattle.wf_law_runs.specs.Deficits.{longest_of_all}
use Rattle.wf_law_runs.specs.Delay.{airtime_ended, entries_between, IsInDevice}
use Rattle.wf_frame.specs.Calls.{no_limits}

-- Two frames of 1,167 octets fill an aggregate of 3,000 microseconds. The answer has a wide bitmap, so the
-- exchange is as long as one can be. The limit is one microsecond above one exchange.
abbrev config : Config
config = record standard { cap = 3000; agg = 2; aql_total = 3057 }

-- Two exchanges are opened, and the third Pull is refused. They end in order.
abbrev history : List Entry
history = map (by 0) (Asked (Join 0 256 0 3 1) ∷ replicate 4 (Enqueue 0 0 1 1167) ++
    Asked (Pull Be no_limits) ∷
    Asked (Pull Be no_limits) ∷
    Asked (Pull Be no_limits) ∷
    Asked (Done 0 false None) ∷
    Asked (Done 1 false None) ∷ [])

longest : longest_computed config Be ≡ 3056
longest = refl

-- The other classes have the same greatest data time.
longest_same : longest_of_all config ≡ 3056
longest_same = refl

-- With two exchanges, the airtime in flight is as much as the law allows: 3057 - 1 + 3056.
total_attained : owed_by_all (world_at config history 7).opened ≡ 6112
unfolding the_machine
total_attained = refl

in_device : IsInDevice config history 1 7 9
unfolding the_machine
in_device = record { order = omega arith; last = refl; still = refl }

-- From the Pull of exchange 1 to its Done, as much ends as the law allows.
delay_attained : airtime_ended (world_at config history 7) (entries_between history 7 10) ≡ 6112
unfolding the_machine
delay_attained = refl

-- Exchange 0 ends last, so three others end after its Pull: more than the law allows in order.
abbrev out_of_order : List Entry
out_of_order = map (by 0) (Asked (Join 0 256 0 3 1) ∷ replicate 4 (Enqueue 0 0 1 1167) ++
    Asked (Pull Be no_limits) ∷
    Asked (Pull Be no_limits) ∷
    Asked (Done 1 false None) ∷
    Asked (Pull Be no_limits) ∷
    Asked (Done 2 false None) ∷
    Asked (Pull Be no_limits) ∷
    Asked (Done 3 false None) ∷
    Asked (Done 0 false None) ∷ [])

late_in_device : IsInDevice config out_of_order 0 6 12
unfolding the_machine
late_in_device = record { order = omega arith; last = refl; still = refl }

late : airtime_ended (world_at config out_of_order 6) (entries_between out_of_order 6 13) ≡ 12224
unfolding the_machine
late = refl

-- ---- the limit of each station and class

abbrev limited : Config
limited = record standard { cap = 3000; agg = 2; aql = 3057 }

-- With one exchange in flight the station is one microsecond below the limit, and still ready.
ready_below : is_ready (world_at limited history 6) Be 0 ≡ true
unfolding the_machine
ready_below = refl

-- At the limit it is not ready.
abbrev lower : Config
lower = record limited { aql = 3056 }

not_ready_at : is_ready (world_at lower history 6) Be 0 ≡ false
unfolding the_machine
not_ready_at = refl

-- With two exchanges, the station's airtime in flight is as much as the law allows.
station_attained : owed 0 Be (world_at limited history 7).opened ≡ 6112
unfolding the_machine
station_attained = refl

not_ready_above : is_ready (world_at limited history 7) Be 0 ≡ false
unfolding the_machine
not_ready_above = refl

-- A Done makes the station ready again.
ready_again : is_ready (world_at limited history 9) Be 0 ≡ true
unfolding the_machine
ready_again = refl

-- ---- the bound of a class

-- Aggregates of Vi take at most 500 microseconds.
abbrev brief : Config
brief = record standard { cap_vi = 500; agg = 2 }

-- One frame of 1,500 octets takes more than that. It is sent alone, so the bound of the class allows for it.
abbrev video : List Entry
video = map (by 0) (Asked (Join 0 64 0 3 1) ∷ replicate 2 (Enqueue 0 5 1 1500) ++
    Asked (Pull Vi no_limits) ∷ [])

sent_alone : owed 0 Vi (world_at brief video 4).opened ≡ 1976
unfolding the_machine
sent_alone = refl

longest_of_class : longest_computed brief Vi ≡ 3056
longest_of_class = refl

-- The longest exchange of any class is one of another class.
longest_of_others : longest_of_all brief ≡ 4056
longest_of_others = refl
