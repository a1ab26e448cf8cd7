-- Defines the machine's reply for each result of a call, and the frames after it.
use Rattle.std.specs.Prelude.{ℕ, map, Option, Some, None, Result, Ok, Err}
use Rattle.wf_frame.specs.Frames.{FrameValue}
use Rattle.wf_frame.specs.declared.notes.Part.TheVariants.{Mpdus, Batch, Plain}
use Rattle.wf_frame.specs.declared.notes.Refusal.{Refusal}
use Rattle.wf_frame.specs.declared.notes.Refusal.TheVariants.{Nothing}
use Rattle.wf_frame.specs.declared.notes.ReplyNote.{ReplyNote}
use Rattle.wf_frame.specs.declared.notes.ReplyNote.TheVariants.{Send, Reaped, Refused}
use Rattle.wf_send_parts.specs.Sent.{with_all_sent}

-- the reply of a call, by its result
abbrev pub reply_of_result : {T : Type 0} → (T → ReplyNote) → Result T Refusal → ReplyNote
reply_of_result reply (Ok given) = reply given
reply_of_result reply (Err reason) = Refused reason

-- the reply of a reap, by the frame that it returns
abbrev pub reaped_reply : Option FrameValue → ReplyNote
reaped_reply None = Refused Nothing
reaped_reply (Some f) = Reaped f.id f.fate

-- the frame of each id after a call with this reply; a frame that the reply sends counts one more
-- transmission
abbrev pub bodies_sent : ReplyNote → (ℕ → FrameValue) → ℕ → FrameValue
bodies_sent (Send exchange station tid air (Mpdus pairs) more eosp) bodies = with_all_sent pairs bodies
bodies_sent (Send exchange station tid air (Plain pairs) more eosp) bodies = with_all_sent pairs bodies
bodies_sent (Send exchange station tid air (Batch ids) more eosp) bodies =
    with_all_sent (map (λ id. (id, 0)) ids) bodies
bodies_sent reply bodies = bodies
