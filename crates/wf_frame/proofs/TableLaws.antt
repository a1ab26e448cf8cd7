-- Proves that the form of a call and the values of its arguments make the same call again, by cases of the
-- call, and that values in range make a frame of a length in range.
use Rattle.std.proofs.Common.{ℕ, ◌≡◌, ◌≤◌, List, [], ◌∷◌, refl}
use Rattle.std.specs.Prelude.{◌++◌, Option, Some, None, option_map}
use Rattle.wf_frame.specs.declared.classes.Class.{Class}
use Rattle.wf_def_lists.specs.Lengths.{greatest_body}
use Rattle.wf_frame.specs.declared.calls.CallForm.{CallForm}
use Rattle.wf_frame.specs.declared.calls.CallForm.TheVariants as form
use Rattle.wf_frame.specs.declared.calls.Value.{Value}
use Rattle.wf_frame.specs.declared.calls.Value.TheVariants as value
use Rattle.wf_frame.specs.declared.notes.Note.{Note}
use Rattle.wf_frame.specs.declared.notes.Note.TheVariants.{Enqueue, Asked}
use Rattle.wf_frame.specs.declared.notes.Ask.{Ask}
use Rattle.wf_frame.specs.declared.notes.Ask.TheVariants.{Rate, Pull, Done, Group, Service}
use Rattle.wf_frame.specs.declared.notes.GroupAsk.{GroupAsk}
use Rattle.wf_frame.specs.declared.notes.GroupAsk.TheVariants as group
use Rattle.wf_frame.specs.declared.notes.ServiceAsk.{ServiceAsk}
use Rattle.wf_frame.specs.declared.notes.ServiceAsk.TheVariants as service
use Rattle.wf_frame.specs.declared.notes.AskedRate.TheVariants.{Ht}
use Rattle.wf_frame.specs.Calls.{args_of, form_of_limits, values_of_frames, values_of_air, form_of_group, values_of_group, in_bss, form_of_service, values_of_service, limits, ask_of, note_form, note_values, note_made, enqueued, AreOfKinds}

-- the same for a Pull with these limits
pull_made_again : (class : Class) (frames air : Option ℕ) →
    note_made (form_of_limits frames air) (value.Class class ∷ (values_of_frames frames ++ values_of_air air))
    ≡ Some (Asked (Pull class (limits frames air)))
pull_made_again class None None = refl
pull_made_again class (Some frames) None = refl
pull_made_again class None (Some air) = refl
pull_made_again class (Some frames) (Some air) = refl

-- the same for a call about group frames
group_made_again : (bss : ℕ) (ask : GroupAsk) →
    note_made (form_of_group ask) (values_of_group ask ++ value.Octet bss ∷ [])
    ≡ Some (Asked (Group (in_bss bss ask)))
group_made_again bss (group.Accept len) = refl
group_made_again bss group.Beacon = refl
group_made_again bss group.Pull = refl
group_made_again bss group.Done = refl

-- the same for a call about service periods
service_made_again : (ask : ServiceAsk) →
    note_made (form_of_service ask) (values_of_service ask) ≡ Some (Asked (Service ask))
service_made_again (service.Set station classes most) = refl
service_made_again (service.Trigger station) = refl
service_made_again (service.End station) = refl

-- the first lines separate rates by their formats, and Done calls with an airtime from those without; the
-- last line is for each other call
pub made_again : (note : Note) → note_made (note_form note) (note_values note) ≡ Some note
made_again (Asked (Rate station (Ht mcs mhz short))) = refl
made_again (Asked (Done exchange heard None)) = refl
made_again (Asked (Pull class limits)) = pull_made_again class limits.frames limits.air
made_again (Asked (Group call)) = group_made_again call.bss call.ask
made_again (Asked (Service ask)) = service_made_again ask
made_again note = refl

-- ---- the frame that values make

-- a frame has at least one octet and at most the greatest body; other calls are not restricted
abbrev pub IsSized : Option Note → Type 0
IsSized (Some (Enqueue station tid flow len)) = (1 ≤ len) × (len ≤ greatest_body)
IsSized _ = Unit {0}

-- values of other kinds make no frame
pub enqueue_sized : (values : List Value) → AreOfKinds (args_of form.Enqueue) values →
    IsSized (enqueued values)
enqueue_sized (value.Short station ∷ value.Octet tid ∷ value.Long flow ∷ value.Short len ∷ []) are =
    are.1.1.1.0
enqueue_sized values are = tt

asked_sized : (ask : Option Ask) → IsSized (option_map Asked ask)
asked_sized None = tt
asked_sized (Some ask) = tt

-- the same for the values of any call
pub made_sized : (call : CallForm) (values : List Value) → AreOfKinds (args_of call) values →
    IsSized (note_made call values)
made_sized form.Enqueue values are = enqueue_sized values are
made_sized call values are = asked_sized (ask_of call values)
