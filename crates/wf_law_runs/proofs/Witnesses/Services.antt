-- Computes a history in which as many frames go to a sleeping station as its service period allows, and the
-- last one has the EOSP bit although others wait.
use Rattle.std.proofs.Common.{◌≡◌, refl, true, false, List, [], ◌∷◌, map, Some}
use Rattle.wf_frame.specs.declared.settings.Config.{Config}
use Rattle.wf_frame.specs.Settings.{standard}
use Rattle.wf_frame.specs.Calls.{no_limits}
use Rattle.wf_frame.specs.declared.classes.Class.TheVariants.{Vo}
use Rattle.wf_frame.specs.declared.notes.Ask.TheVariants.{Join, Pull, Sleep, Service}
use Rattle.wf_frame.specs.declared.notes.ServiceAsk.TheVariants as service
use Rattle.wf_frame.specs.declared.notes.Note.TheVariants.{Enqueue, Asked}
use Rattle.wf_frame.specs.declared.notes.Part.TheVariants.{Mpdus}
use Rattle.wf_frame.specs.declared.notes.ReplyNote.TheVariants.{Send}
use Rattle.wf_def_world.specs.World.{station}
use Rattle.wf_def_world.specs.Service.{is_served}
use Rattle.wf_def_world.specs.Run.{Entry, by}
use Rattle.wf_def_world.specs.Stretches.{world_at}
use Rattle.wf_def_world.specs.Computed.{the_machine}
use Rattle.wf_law_runs.specs.Groups.{reply_at_entry}
use Rattle.wf_law_runs.specs.Services.{is_in_service, frames_served, IsTrigger}

abbrev config : Config
config = standard

-- A service period has two frames of class vo.
abbrev history : List Entry
history = map (by 0) (
    Asked (Join 0 64 100 3 1) ∷
    Asked (Service (service.Set 0 8 2)) ∷
    Enqueue 0 6 0 100 ∷
    Enqueue 0 6 0 100 ∷
    Enqueue 0 6 0 100 ∷
    Asked (Sleep 0) ∷
    Asked (Service (service.Trigger 0)) ∷
    Asked (Pull Vo no_limits) ∷ [])

trigger : IsTrigger config history 6 0
unfolding the_machine
trigger = record { class = Vo; call = refl; answered = refl }

open_then : is_in_service (world_at config history 7) 0 ≡ true
unfolding the_machine
open_then = refl

served : is_served (station (world_at config history 7) 0) Vo ≡ true
unfolding the_machine
served = refl

-- Two of the three frames are sent, with the More Data bit and the EOSP bit.
sent : reply_at_entry config history 7
    ≡ Some (Send 0 0 6 420 (Mpdus ((0, 100) ∷ (1, 101) ∷ [])) true true)
unfolding the_machine
sent = refl

-- The limit is reached.
reached : frames_served config history 0 7 8 ≡ 2
unfolding the_machine
reached = refl

closed : is_in_service (world_at config history 8) 0 ≡ false
unfolding the_machine
closed = refl
