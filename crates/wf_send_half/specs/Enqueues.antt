-- Defines the call of an enqueue, and the frame as it is accepted.
use Rattle.std.specs.Prelude.{ℕ, ◌+◌, length}
use Rattle.wf_frame.specs.Classes.{lower_tid, upper_tid, tid_number}
use Rattle.wf_frame.specs.Frames.{FrameValue}
use Rattle.wf_frame.specs.declared.classes.Class.{Class}
use Rattle.wf_frame.specs.declared.classes.Fate.TheVariants.{Held}
use Rattle.wf_frame.specs.declared.notes.Note.{Note}
use Rattle.wf_frame.specs.declared.notes.Note.TheVariants.{Enqueue}
use Rattle.wf_queue_flows.specs.Flows.{frames_of_tid}
use Rattle.wf_send_half_model.specs.Half.{TransmitValue}

-- the call that brings a frame
abbrev pub enqueue_of : FrameValue → Note
enqueue_of f = Enqueue f.station f.tid f.flow (length f.body)

-- the frame as it is accepted: with the next id and the clock as its stamp, not sent yet, and held
abbrev pub as_accepted : TransmitValue → FrameValue → FrameValue
as_accepted v f = record f { id = v.tally.accepted; stamp = v.clock; attempts = 0; fate = Held }

-- how many frames are queued for a station in a class
abbrev pub queued_in_class_of : TransmitValue → ℕ → Class → ℕ
queued_in_class_of v s c =
    frames_of_tid v.flows (tid_number s (lower_tid c)) + frames_of_tid v.flows (tid_number s (upper_tid c))
