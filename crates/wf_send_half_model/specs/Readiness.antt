-- Defines which calls change who is ready, and when all classes but one list a station already.
use Rattle.std.specs.Prelude.{◌≡◌, ℕ, Bool, true, false, ◌||◌}
use Rattle.wf_frame.specs.declared.classes.Class.{Class}
use Rattle.wf_frame.specs.declared.notes.Ask.TheVariants.{Rate, Tick, Arrive, Answer, Rx, Reap, Ampdu, Unsent, GiveUp, Weight, Group, Bss}
use Rattle.wf_frame.specs.declared.notes.Note.{Note}
use Rattle.wf_frame.specs.declared.notes.Note.TheVariants.{Enqueue, Asked}
use Rattle.wf_frame.specs.declared.notes.ReplyNote.{ReplyNote}
use Rattle.wf_frame.specs.declared.notes.ReplyNote.TheVariants.{Send}
use Rattle.wf_frame.specs.Classes.{lower_tid, upper_tid}
use Rattle.wf_def_rotation.specs.Rotation.{has_key}
use Rattle.wf_def_world.specs.World.{World, rotation}
use Rattle.wf_def_world.specs.CanSend.{is_to_list}
use Rattle.wf_queue_flows_refines.specs.Frames.{loses_next_in}

-- whether the call, if it is not refused, drops a frame of station s in class c for the limit
abbrev pub loses_in : World → Note → ℕ → Class → Bool
loses_in w (Enqueue station tid flow len) s c =
    loses_next_in w s (lower_tid c) || loses_next_in w s (upper_tid c)
loses_in w (Asked ask) s c = false

-- whether the call never changes who is ready: it sets a rate, a weight or a BSS or states a length of
-- aggregates, moves the clock, reports what arrived or was answered or what the device did with a
-- transmission, charges what a station sent, reaps, or is about group frames
abbrev pub leaves_ready : Note → Bool
leaves_ready (Asked (Rate station rate)) = true
leaves_ready (Asked (Tick by)) = true
leaves_ready (Asked (Arrive exchange index)) = true
leaves_ready (Asked (Answer exchange)) = true
leaves_ready (Asked (Rx station class air)) = true
leaves_ready (Asked Reap) = true
leaves_ready (Asked (Ampdu station octets)) = true
leaves_ready (Asked (Unsent exchange index)) = true
leaves_ready (Asked (GiveUp exchange index)) = true
leaves_ready (Asked (Weight station weight)) = true
leaves_ready (Asked (Group g)) = true
leaves_ready (Asked (Bss station bss)) = true
leaves_ready _ = false

-- whether the reply of a pull says that its exchange ends a service period, so that its station may be ready
-- in fewer classes
abbrev pub ends_service : ReplyNote → Bool
ends_service (Send exchange station tid air part more eosp) = eosp
ends_service _ = false

-- each class in which a station belongs on a list lists it, except perhaps class c
abbrev pub IsListedBut : World → ℕ → Class → Type 0
IsListedBut w s c = (d : Class) → (d ≡ c → ⊥) → is_to_list w d s ≡ true → has_key (rotation w d) s ≡ true
