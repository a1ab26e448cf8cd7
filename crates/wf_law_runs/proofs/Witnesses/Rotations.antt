-- Computes histories for the law of rotations: a station that is no longer ready stays listed, and a Pull
-- is Idle.
use Rattle.std.proofs.Common.{◌≡◌, refl, false, List, [], ◌∷◌, map, Some}
use Rattle.wf_frame.specs.declared.settings.Config.{Config}
use Rattle.wf_frame.specs.Settings.{standard}
use Rattle.wf_frame.specs.declared.classes.Class.TheVariants.{Be}
use Rattle.wf_frame.specs.declared.notes.Ask.TheVariants.{Join, Pull, Sleep}
use Rattle.wf_frame.specs.declared.notes.Note.TheVariants.{Enqueue, Asked}
use Rattle.wf_frame.specs.declared.notes.Refusal.TheVariants.{Idle}
use Rattle.wf_def_rotation.specs.Rotation.{in_order}
use Rattle.wf_def_world.specs.World.{World, rotation, opening}
use Rattle.wf_def_world.specs.CanSend.{is_ready}
use Rattle.wf_def_world.specs.Refusals.{refusal}
use Rattle.wf_def_world.specs.Run.{Entry, by, world_after}
use Rattle.wf_def_world.specs.Computed.{the_machine}
use Rattle.wf_frame.specs.Calls.{no_limits}

abbrev config : Config
config = standard

abbrev history : List Entry
history = map (by 0) (
    Asked (Join 0 4 0 3 1) ∷
    Asked (Join 1 4 0 3 1) ∷
    Enqueue 0 0 7 100 ∷
    Enqueue 1 0 8 100 ∷
    Asked (Sleep 1) ∷
    Asked (Pull Be no_limits) ∷ [])

abbrev world : World
world = world_after (opening config) history

both_listed : in_order (rotation world Be) ≡ 0 ∷ 1 ∷ []
unfolding the_machine
both_listed = refl

first_ready : is_ready world Be 0 ≡ false
unfolding the_machine
first_ready = refl

second_ready : is_ready world Be 1 ≡ false
unfolding the_machine
second_ready = refl

idle_now : refusal world (Asked (Pull Be no_limits)) ≡ Some Idle
unfolding the_machine
idle_now = refl
