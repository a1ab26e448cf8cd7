-- Defines the *capture*: the capture file of a run.
use Rattle.std.specs.Prelude.{ℕ, List, [], ◌∷◌, ◌++◌}
use Rattle.wf_frame.specs.Frames.{FrameValue, new_frame, sample_body}
use Rattle.wf_frame.specs.declared.notes.Note.{Note}
use Rattle.wf_frame.specs.declared.notes.Note.TheVariants.{Enqueue, Asked}
use Rattle.wf_frame.specs.declared.settings.Config.{Config}
use Rattle.wf_report.specs.ListingLaw.{Sent, capture_of_packets as file_of}
use Rattle.wf_def_world.specs.World.{World, frame, opening}
use Rattle.wf_def_world.specs.Run.{Entry}
use Rattle.wf_def_world.specs.Step.{Outcome, step}
use Rattle.wf_report.specs.Packets.{frames_by, packets_at, octets_of_packets}

-- The frame of an enqueue: octet j of its body is the low octet of its flow's number plus j.
abbrev pub sample_of : Note → FrameValue
sample_of (Enqueue s t flow len) = new_frame s t flow (sample_body flow len)
sample_of (Asked ask) = new_frame 0 0 0 []

-- The frame of each id: that of its enqueue.
abbrev pub samples : World → ℕ → FrameValue
samples w id = sample_of (frame w id).note

-- A packet's header has 32 bits for the seconds. This number of calls, each of at most ten seconds, ends
-- before the seconds wrap.
abbrev pub most_calls_timed : ℕ
most_calls_timed = 429496729

-- The packets of a call in a world, at the time of the clock.
abbrev pub packets_by : World → Note → List Sent
packets_by w note = let o : Outcome = step w note in
    packets_at o.world.clock (frames_by o.world (samples o.world) note o.reply)

-- The octets that they add to a capture.
abbrev pub packets_of : World → Note → List ℕ
packets_of w note = octets_of_packets (packets_by w note)

-- The packets of a history, call by call.
unfoldable pub packets_from : World → List Entry → List Sent
packets_from w [] = []
packets_from w (e ∷ es) = packets_by w e.1 ++ packets_from (step w e.1).world es

-- The packets of the run of a history.
abbrev pub packets_in : Config → List Entry → List Sent
packets_in config history = packets_from (opening config) history

-- The capture of a history: the file header, and then the packets in order.
abbrev pub capture_of : Config → List Entry → List ℕ
capture_of config history = file_of (packets_in config history)
