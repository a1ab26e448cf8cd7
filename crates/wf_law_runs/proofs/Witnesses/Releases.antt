-- Computes one history for the laws of released and delivered frames: two sessions of a station, with a
-- frame that is sent twice.
use Rattle.std.proofs.Common.{◌≡◌, refl, true, List, [], ◌∷◌, map, None}
use Rattle.wf_frame.specs.declared.settings.Config.{Config}
use Rattle.wf_frame.specs.Settings.{standard}
use Rattle.wf_frame.specs.declared.classes.Class.TheVariants.{Be}
use Rattle.wf_frame.specs.declared.classes.Fate.TheVariants.{Acked}
use Rattle.wf_frame.specs.declared.notes.Ask.TheVariants.{Join, Leave, Pull, Arrive, Answer, Done}
use Rattle.wf_frame.specs.declared.notes.Note.TheVariants.{Enqueue, Asked}
use Rattle.wf_def_world.specs.World.{opening, frame}
use Rattle.wf_def_world.specs.Run.{Entry, by, world_after}
use Rattle.wf_def_world.specs.Computed.{the_machine}
use Rattle.wf_law_runs.specs.Releases.{passed_from, passed, named_from}
use Rattle.wf_frame.specs.Calls.{no_limits}

abbrev config : Config
config = standard

abbrev first_part : List Entry
first_part = map (by 0) (
    Asked (Join 0 4 4094 3 1) ∷
    Enqueue 0 0 7 100 ∷
    Enqueue 0 0 7 100 ∷
    Enqueue 0 0 7 100 ∷
    Asked (Pull Be no_limits) ∷
    Asked (Arrive 0 1) ∷
    Asked (Arrive 0 0) ∷
    Asked (Answer 0) ∷
    Asked (Done 0 true None) ∷
    Asked (Pull Be no_limits) ∷
    Asked (Arrive 1 0) ∷
    Asked (Answer 1) ∷
    Asked (Done 1 true None) ∷ [])

abbrev whole : List Entry
whole = map (by 0) (
    Asked (Join 0 4 4094 3 1) ∷
    Enqueue 0 0 7 100 ∷
    Enqueue 0 0 7 100 ∷
    Enqueue 0 0 7 100 ∷
    Asked (Pull Be no_limits) ∷
    Asked (Arrive 0 1) ∷
    Asked (Arrive 0 0) ∷
    Asked (Answer 0) ∷
    Asked (Done 0 true None) ∷
    Asked (Pull Be no_limits) ∷
    Asked (Arrive 1 0) ∷
    Asked (Answer 1) ∷
    Asked (Done 1 true None) ∷
    Asked (Leave 0) ∷
    Asked (Join 0 4 4094 3 1) ∷
    Enqueue 0 0 7 100 ∷
    Asked (Pull Be no_limits) ∷
    Asked (Arrive 2 0) ∷ [])

passed_first : passed config first_part 0 0 ≡ 0 ∷ 1 ∷ 2 ∷ []
unfolding the_machine passed_from
passed_first = refl

passed_whole : passed config whole 0 0 ≡ 3 ∷ []
unfolding the_machine passed_from
passed_whole = refl

named_whole : named_from (opening config) [] whole ≡ 0 ∷ 1 ∷ 2 ∷ 3 ∷ []
unfolding the_machine named_from
named_whole = refl

fate_second : (frame (world_after (opening config) first_part) 1).fate ≡ Acked
unfolding the_machine
fate_second = refl
