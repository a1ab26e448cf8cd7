-- Histories for the law of CoDel: one in which CoDel drops a frame, and one in which the visits of a queue
-- begin again.
use Rattle.std.proofs.Common.{◌≡◌, refl, ℕ, List, [], ◌∷◌, ◌++◌, length, map, replicate}
use Rattle.wf_frame.specs.declared.settings.Config.{Config}
use Rattle.wf_frame.specs.declared.classes.Class.TheVariants.{Be}
use Rattle.wf_frame.specs.declared.classes.Cause.TheVariants.{Codel as By_codel}
use Rattle.wf_frame.specs.declared.classes.Fate.{Fate}
use Rattle.wf_frame.specs.declared.classes.Fate.TheVariants.{Held, Dropped}
use Rattle.wf_frame.specs.declared.notes.Ask.TheVariants.{Join, Tick, Pull}
use Rattle.wf_frame.specs.declared.notes.Note.TheVariants.{Enqueue, Asked}
use Rattle.wf_frame.specs.Settings.{standard}
use Rattle.wf_def_world.specs.World.{frame}
use Rattle.wf_def_world.specs.Run.{Entry, by}
use Rattle.wf_def_world.specs.Stretches.{world_at}
use Rattle.wf_def_world.specs.Computed.{the_machine}
use Rattle.wf_law_runs.specs.Dequeues.{visits_at}
use Rattle.wf_frame.specs.Calls.{no_limits}

abbrev config : Config
config = record standard { agg = 1 }

-- Five frames wait for 50 ms. A Pull at this time begins to look. Another Pull comes this much later.
abbrev history : ℕ → List Entry
history by_then = map (by 0) (Asked (Join 0 64 0 3 1) ∷ replicate 5 (Enqueue 0 0 7 1500) ++
    Asked (Tick 50000) ∷
    Asked (Pull Be no_limits) ∷
    Asked (Tick by_then) ∷
    Asked (Pull Be no_limits) ∷ [])

-- Returns the fate of frame 1 before and after the last entry.
abbrev fates : ℕ → List Fate
fates by_then = map (λ m. (frame (world_at config (history by_then) m) 1).fate) (9 ∷ 10 ∷ [])

-- The interval of a slow station is 300 ms. Then frame 1 is dropped.
dropped : fates 300000 ≡ Held ∷ Dropped By_codel ∷ []
unfolding the_machine
dropped = refl

-- One microsecond less, and it is sent.
kept : fates 299999 ≡ Held ∷ Held ∷ []
unfolding the_machine
kept = refl

-- The queue is dequeued twice: at 50 ms with five frames, and at 350 ms with four.
visited : map {B = ℕ × ℕ} (λ v. (v.now, length v.items)) (visits_at config (history 300000) 10 7).dequeues
    ≡ (50000, 5) ∷ (350000, 4) ∷ []
unfolding the_machine
visited = refl

-- ---- the setting `codel_reset`

-- The queue of flow 7 is emptied and is no longer listed. When it gets a frame, it becomes listed again. With
-- the setting the visits begin again then, and without it they go on.
abbrev emptied : List Entry
emptied = map (by 0) (Asked (Join 0 64 0 3 1) ∷ Enqueue 0 0 7 1500 ∷ replicate 3 (Enqueue 0 0 8 1500) ++
    Asked (Pull Be no_limits) ∷
    Enqueue 0 0 7 1500 ∷ [])

-- Returns how many dequeues the visits of the queue have before and after the last entry.
abbrev counts : Config → List ℕ
counts settings = map (λ m. length (visits_at settings emptied m 7).dequeues) (6 ∷ 7 ∷ [])

begins_again : counts (record standard { codel_reset = 1 }) ≡ 1 ∷ 0 ∷ []
unfolding the_machine
begins_again = refl

goes_on : counts standard ≡ 1 ∷ 1 ∷ []
unfolding the_machine
goes_on = refl
