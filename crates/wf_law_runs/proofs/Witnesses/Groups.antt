-- Computes a history in which as many group frames are queued as have room, and one is sent while a station
-- sleeps, after a DTIM beacon.
use Rattle.std.proofs.Common.{◌≡◌, refl, true, false, List, [], ◌∷◌, map, Some, length}
use Rattle.wf_frame.specs.declared.settings.Config.{Config}
use Rattle.wf_frame.specs.Settings.{standard}
use Rattle.wf_frame.specs.declared.notes.Ask.TheVariants.{Join, Sleep, Group}
use Rattle.wf_frame.specs.declared.notes.GroupAsk.TheVariants as group
use Rattle.wf_frame.specs.declared.notes.GroupReply.TheVariants as answer
use Rattle.wf_frame.specs.declared.notes.Note.TheVariants.{Asked}
use Rattle.wf_frame.specs.Calls.{in_bss}
use Rattle.wf_def_world.specs.World.{group_of, is_any_asleep}
use Rattle.wf_def_world.specs.Run.{Entry, by}
use Rattle.wf_def_world.specs.Stretches.{world_at}
use Rattle.wf_def_world.specs.Computed.{the_machine}
use Rattle.wf_law_runs.specs.Groups.{group_answer_at}

-- Every other beacon is a DTIM beacon, and two group frames have room.
abbrev config : Config
config = record standard { period = 2; buffered = 2 }

abbrev history : List Entry
history = map (by 0) (
    Asked (Join 0 64 100 3 1) ∷
    Asked (Sleep 0) ∷
    Asked (Group (in_bss 0 (group.Accept 100))) ∷
    Asked (Group (in_bss 0 (group.Accept 100))) ∷
    Asked (Group (in_bss 0 group.Beacon)) ∷
    Asked (Group (in_bss 0 group.Pull)) ∷
    Asked (Group (in_bss 0 group.Beacon)) ∷
    Asked (Group (in_bss 0 group.Pull)) ∷ [])

-- The room is used up.
full : length (group_of (world_at config history 4) 0).queued ≡ 2
unfolding the_machine
full = refl

asleep : is_any_asleep (world_at config history 7) 0 ≡ true
unfolding the_machine
asleep = refl

-- The first frame was accepted by entry 2.
accepted : group_answer_at config history 0 2 ≡ Some (answer.Queued 0)
unfolding the_machine
accepted = refl

-- The first beacon, with the greatest count, announces nothing. The second is a DTIM beacon.
first_beacon : group_answer_at config history 0 4 ≡ Some (answer.Beacon 1 false)
unfolding the_machine
first_beacon = refl

second_beacon : group_answer_at config history 0 6 ≡ Some (answer.Beacon 0 true)
unfolding the_machine
second_beacon = refl

-- The first frame has number 2, and the More Data bit, since the other one may go next.
sent : group_answer_at config history 0 7 ≡ Some (answer.Send 0 2 196 true)
unfolding the_machine
sent = refl
