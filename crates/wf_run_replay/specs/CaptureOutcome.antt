-- Defines what the status of `replay --pcap` means.
use Rattle.std.specs.Prelude.{◌≤◌, ℕ, List, length, true}
use Rattle.wf_trace.specs.Reading.{reading}
use Rattle.wf_io.specs.declared.status.Status.{Status}
use Rattle.wf_report.specs.ListedPackets.{most_octets_read}
use Rattle.wf_report.specs.ListingLaw.{IsListed}
use Rattle.wf_trace_laws.specs.Histories.{history_among}
use Rattle.wf_trace_laws.specs.Outcomes.{TraceOutcome}
use Rattle.wf_report.specs.Captures.{most_calls_timed}
use Rattle.wf_run_replay.specs.Captured.{packets_captured, captured}

-- By the octets of the input, those of them that were read, and those that were written: the capture of the
-- calls. A trace with a fault has the capture of the calls before it.
abbrev pub CaptureOutcome : Status → List ℕ → List ℕ → List ℕ → Type 0
CaptureOutcome status input taken written = TraceOutcome captured captured status input taken written

-- The law of `frames` for the capture: if it is not too big, and its calls end before the seconds of a
-- packet's time wrap, `frames` lists each of its packets in order, with its fields, and no fault.
abbrev pub CaptureLaw : List ℕ → Type 0
CaptureLaw input = length (history_among (reading true input).items) ≤ most_calls_timed →
    length (captured (reading true input)) ≤ most_octets_read →
    IsListed (packets_captured (reading true input))
