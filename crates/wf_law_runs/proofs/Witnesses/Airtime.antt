-- Computes a history for the laws of deficits and of fairness: two stations with the weights 1 and 3, and
-- sixteen exchanges.
use Rattle.std.proofs.Common.{◌≡◌, refl, ℕ, zero, suc, Bool, true, ◌&&◌, List, [], ◌∷◌, ◌++◌, None, map, replicate}
use Rattle.wf_frame.specs.declared.settings.Config.{Config}
use Rattle.wf_frame.specs.Settings.{standard}
use Rattle.wf_frame.specs.declared.classes.Class.TheVariants.{Be}
use Rattle.wf_frame.specs.declared.notes.Ask.TheVariants.{Join, Pull, Arrive, Answer, Done}
use Rattle.wf_frame.specs.declared.notes.Note.{Note}
use Rattle.wf_frame.specs.declared.notes.Note.TheVariants.{Enqueue, Asked}
use Rattle.wf_def_lists.specs.Table.{has, count_from}
use Rattle.wf_def_world.specs.World.{rotation}
use Rattle.wf_def_world.specs.Run.{Entry, by}
use Rattle.wf_def_world.specs.Stretches.{world_at, charged_between}
use Rattle.wf_law_runs.specs.Deficits.{got_between}
use Rattle.wf_def_world.specs.Computed.{the_machine}
use Rattle.wf_frame.specs.Calls.{no_limits}

abbrev config : Config
config = record standard { agg = 1 }

abbrev rounds : ℕ → ℕ → List Note
rounds zero e = []
rounds (suc n) e = Asked (Pull Be no_limits) ∷ Asked (Arrive e 0) ∷ Asked (Answer e) ∷ Asked (Done e true None)
    ∷ rounds n (suc e)

abbrev history : List Entry
history = map (by 0) (Asked (Join 0 64 0 3 1) ∷ Asked (Join 1 64 0 3 3) ∷ replicate 6 (Enqueue 0 0 1 100)
    ++ replicate 12 (Enqueue 1 0 2 100) ++ rounds 16 0)

abbrev on_old : ℕ → Bool
on_old m = has (rotation (world_at config history m) Be).old 0
    && has (rotation (world_at config history m) Be).old 1

abbrev all_on_old : List ℕ → Bool
all_on_old [] = true
all_on_old (m ∷ ms) = on_old m && all_on_old ms

-- Both stations are on the old list after each of the first 45 to 84 entries.
stays : all_on_old (count_from 45 40) ≡ true
unfolding the_machine
stays = refl

charged_first : charged_between config history 0 Be 45 84 ≡ 768
unfolding the_machine
charged_first = refl

charged_second : charged_between config history 1 Be 45 84 ≡ 1792
unfolding the_machine
charged_second = refl

got_first : got_between config history 0 Be 45 84 ≡ 2
unfolding the_machine
got_first = refl

got_second : got_between config history 1 Be 45 84 ≡ 2
unfolding the_machine
got_second = refl
