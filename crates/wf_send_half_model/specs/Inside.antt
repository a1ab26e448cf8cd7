-- Defines which frames are inside: accepted and not yet reaped.
use Rattle.std.specs.Prelude.{ℕ, ◌==◌, nat_lt, Bool, true, false, ◌&&◌, ◌||◌, List, Option, None, Some, if◌then◌else◌}
use Rattle.wf_frame.specs.Frames.{FrameValue}
use Rattle.wf_frame.specs.declared.notes.Note.{Note}
use Rattle.wf_frame.specs.declared.notes.Note.TheVariants.{Enqueue}
use Rattle.wf_frame.specs.declared.notes.ReplyNote.{ReplyNote}
use Rattle.wf_frame.specs.declared.notes.ReplyNote.TheVariants.{Accepted, Reaped}
use Rattle.wf_def_lists.specs.Table.{has}
use Rattle.wf_def_world.specs.World.{World, frame, accepted_count, is_held}

-- whether this id was accepted and its frame has no fate yet
abbrev pub is_held_id : World → ℕ → Bool
is_held_id w id = nat_lt id (accepted_count w) && is_held (frame w id).fate

-- whether it is inside: its frame is held, or has a fate and is on the finished list
abbrev pub is_inside : World → ℕ → Bool
is_inside w id = is_held_id w id || has w.finished id

-- the same after a call, by its reply: an accepted frame comes in, and a reaped one goes out
abbrev pub inside_after : World → ReplyNote → Note → ℕ → Bool
inside_after w (Accepted new dropped) (Enqueue station tid flow len) id =
    if id == new then true else is_inside w id
inside_after w (Reaped gone fate) note id = if id == gone then false else is_inside w id
inside_after w answered note id = is_inside w id

-- the body of the frame of an id, if it is inside
abbrev pub body_inside : World → (ℕ → FrameValue) → ℕ → Option (List ℕ)
body_inside w bodies id = if is_inside w id then Some (bodies id).body else None
