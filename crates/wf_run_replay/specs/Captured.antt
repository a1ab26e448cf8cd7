-- Defines the *capture* of a trace: the packets that its run puts on the air.
use Rattle.std.specs.Prelude.{ℕ, List, [], Option, Some, None}
use Rattle.wf_frame.specs.declared.settings.Config.{Config}
use Rattle.wf_trace.specs.Reading.{Reading}
use Rattle.wf_io.specs.Capture.{file_head_octets}
use Rattle.wf_report.specs.ListingLaw.{Sent, capture_of_packets}
use Rattle.wf_def_world.specs.Run.{Entry}
use Rattle.wf_trace_laws.specs.Histories.{settings_among, history_among}
use Rattle.wf_trace_laws.specs.Tellings.{Telling}
use Rattle.wf_report.specs.Captures.{packets_of, packets_in}

-- The packets of a history, or none if there is no head.
abbrev pub packets_with : Option Config → List Entry → List Sent
packets_with None history = []
packets_with (Some config) history = packets_in config history

-- The packets of the calls of a trace.
abbrev pub packets_captured : Reading → List Sent
packets_captured r = packets_with (settings_among r.items) (history_among r.items)

-- The capture: the file header, and then the packets in order.
abbrev pub captured : Reading → List ℕ
captured r = capture_of_packets (packets_captured r)

-- First the file header, then the packets of each call, and nothing at the end.
abbrev pub telling : Telling
telling = record { front = file_head_octets; call = packets_of; last = λ world calls ending. [] }
