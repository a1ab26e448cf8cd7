-- Proves that each call has a value for each argument of its form. By cases of the call.
use Rattle.std.proofs.Common.{◌≡◌, ℕ, refl, Option, Some, None, length, ◌++◌, [], ◌∷◌}
use Rattle.wf_frame.specs.Calls.{arguments_of, note_form, note_values, form_of_group, form_of_limits, values_of_group, values_of_frames, values_of_air}
use Rattle.wf_frame.specs.declared.calls.Value.TheVariants.{Class as Of_class, Octet}
use Rattle.wf_frame.specs.declared.classes.Class.{Class}
use Rattle.wf_frame.specs.declared.notes.AskedRate.TheVariants.{Ht, Vht, He, Ofdm, Dsss}
use Rattle.wf_frame.specs.declared.notes.Ask.TheVariants.{Join, Leave, Rate, Tick, Pull, Arrive, Answer, Done, Sleep, Wake, Poll, Rx, Reap, Ampdu, Stop, Start, Unsent, GiveUp, Flush, Offload, Weight, Plain, Hold, Begin, Free, Cease, Group, Service, Bss}
use Rattle.wf_frame.specs.declared.notes.GroupAsk.{GroupAsk}
use Rattle.wf_frame.specs.declared.notes.GroupAsk.TheVariants as group
use Rattle.wf_frame.specs.declared.notes.ServiceAsk.TheVariants as service
use Rattle.wf_frame.specs.declared.notes.Note.{Note}
use Rattle.wf_frame.specs.declared.notes.Note.TheVariants.{Enqueue, Asked}

of_pull : (c : Class) (frames air : Option ℕ) → length (arguments_of (form_of_limits frames air))
    ≡ length (Of_class c ∷ (values_of_frames frames ++ values_of_air air))
of_pull c None None = refl
of_pull c (Some frames) None = refl
of_pull c None (Some air) = refl
of_pull c (Some frames) (Some air) = refl

of_group : (bss : ℕ) (ask : GroupAsk) → length (arguments_of (form_of_group ask))
    ≡ length (values_of_group ask ++ Octet bss ∷ [])
of_group bss (group.Accept len) = refl
of_group bss group.Beacon = refl
of_group bss group.Pull = refl
of_group bss group.Done = refl

pub as_many : (note : Note) → length (arguments_of (note_form note)) ≡ length (note_values note)
as_many (Enqueue station tid flow len) = refl
as_many (Asked (Join station window start exponent weight)) = refl
as_many (Asked (Leave station)) = refl
as_many (Asked (Rate station (Ht mcs mhz short))) = refl
as_many (Asked (Rate station (Vht mcs mhz short streams))) = refl
as_many (Asked (Rate station (He mcs mhz guard streams))) = refl
as_many (Asked (Rate station (Ofdm mbps))) = refl
as_many (Asked (Rate station (Dsss half))) = refl
as_many (Asked (Tick by)) = refl
as_many (Asked (Pull class limits)) = of_pull class limits.frames limits.air
as_many (Asked (Arrive exchange index)) = refl
as_many (Asked (Answer exchange)) = refl
as_many (Asked (Done exchange heard None)) = refl
as_many (Asked (Done exchange heard (Some air))) = refl
as_many (Asked (Sleep station)) = refl
as_many (Asked (Wake station)) = refl
as_many (Asked (Poll station)) = refl
as_many (Asked (Rx station class air)) = refl
as_many (Asked Reap) = refl
as_many (Asked (Ampdu station octets)) = refl
as_many (Asked (Stop station)) = refl
as_many (Asked (Start station)) = refl
as_many (Asked (Unsent exchange index)) = refl
as_many (Asked (GiveUp exchange index)) = refl
as_many (Asked (Flush station tid)) = refl
as_many (Asked (Offload station exponent weight)) = refl
as_many (Asked (Weight station weight)) = refl
as_many (Asked (Plain station start exponent weight)) = refl
as_many (Asked (Hold station tid)) = refl
as_many (Asked (Begin station tid window)) = refl
as_many (Asked (Free station tid)) = refl
as_many (Asked (Cease station tid)) = refl
as_many (Asked (Group call)) = of_group call.bss call.ask
as_many (Asked (Service (service.Set station classes most))) = refl
as_many (Asked (Service (service.Trigger station))) = refl
as_many (Asked (Service (service.End station))) = refl
as_many (Asked (Bss station bss)) = refl
