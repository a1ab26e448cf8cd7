-- Computes one history for the law of numbers and for the start of an open exchange's answer. Four numbers
-- are sent, and three of them are acknowledged. The scoreboard moves past the start of an answer. A station
-- leaves, joins again and assigns the same number to another frame.
use Rattle.std.proofs.Common.{◌≡◌, refl, true, false, List, [], ◌∷◌, ◌++◌, map, Some, None, option_map}
use Rattle.wf_frame.specs.declared.settings.Config.{Config}
use Rattle.wf_frame.specs.Settings.{standard}
use Rattle.wf_frame.specs.declared.classes.Class.TheVariants.{Be}
use Rattle.wf_frame.specs.declared.notes.Ask.TheVariants.{Join, Leave, Pull, Arrive, Answer, Done}
use Rattle.wf_frame.specs.declared.notes.Note.TheVariants.{Enqueue, Asked}
use Rattle.wf_def_agreement.specs.Session.{State, slot}
use Rattle.wf_def_agreement.specs.Receiver.{score_start}
use Rattle.wf_def_world.specs.World.{World, session, receiver, is_live, opening}
use Rattle.wf_def_world.specs.Run.{Entry, by, world_after}
use Rattle.wf_def_world.specs.Computed.{the_machine}
use Rattle.wf_frame.specs.Calls.{no_limits}

abbrev config : Config
config = record standard { limit = 8; room = 8; agg = 1 }

abbrev until_kept : List Entry
until_kept = map (by 0) (
    Asked (Join 0 2 100 3 1) ∷
    Enqueue 0 0 7 100 ∷
    Enqueue 0 0 7 100 ∷
    Enqueue 0 0 7 100 ∷
    Enqueue 0 0 7 100 ∷
    Asked (Pull Be no_limits) ∷
    Asked (Pull Be no_limits) ∷
    Asked (Arrive 0 0) ∷
    Asked (Answer 0) ∷
    Asked (Done 0 true None) ∷
    Asked (Arrive 1 0) ∷
    Asked (Answer 1) ∷
    Asked (Done 1 true None) ∷
    Asked (Pull Be no_limits) ∷
    Asked (Pull Be no_limits) ∷
    Asked (Arrive 2 0) ∷
    Asked (Answer 2) ∷
    Asked (Arrive 3 0) ∷ [])

abbrev until_left : List Entry
until_left = until_kept ++ map (by 0)
    (Asked (Done 2 true None) ∷ Asked (Done 3 false None) ∷ Asked (Leave 0) ∷ [])

abbrev until_rejoined : List Entry
until_rejoined = until_left ++ map (by 0) (Asked (Join 0 2 100 3 1) ∷ Enqueue 0 0 7 100 ∷
    Asked (Pull Be no_limits) ∷ [])

abbrev kept_world : World
kept_world = world_after (opening config) until_kept

abbrev rejoined_world : World
rejoined_world = world_after (opening config) until_rejoined

-- ---- the answer of an open exchange

kept_starts : map (λ x. option_map (λ b. b.start) x.answer) kept_world.opened ≡ Some 101 ∷ None ∷ []
unfolding the_machine
kept_starts = refl

score_kept : score_start (receiver kept_world 0 0) ≡ 102
unfolding the_machine
score_kept = refl

-- ---- one number in two stays

id_kept : (slot (session kept_world 0 0) 100).id ≡ 0
unfolding the_machine
id_kept = refl

state_kept : (slot (session kept_world 0 0) 100).state ≡ State.Acked
unfolding the_machine
state_kept = refl

dead_between : is_live (world_after (opening config) until_left) 0 ≡ false
unfolding the_machine
dead_between = refl

id_rejoined : (slot (session rejoined_world 0 0) 100).id ≡ 4
unfolding the_machine
id_rejoined = refl

state_rejoined : (slot (session rejoined_world 0 0) 100).state ≡ State.Flying 4
unfolding the_machine
state_rejoined = refl
